use Rattle.std.proofs.Common.{◌∙◌, ap, subst, sym, true≢false}
use Rattle.std.proofs.lemmas.Result.{err_from_is_err_and}
use Rattle.syn_image.specs.Images.{image_of}
use Rattle.syn_journal.specs.Layout.{meaning}
use Rattle.syn_journal.specs.Opened.{payloads_of, value_read}
use Rattle.syn_model.specs.Image.{IsOldImage}
use Rattle.syn_print.proofs.DamageLemmas.{by_image, by_journal, by_reading}
use Rattle.syn_print.proofs.DamageLemmas.{none_in_newer, none_in_older}
use Rattle.syn_print.proofs.DamageLemmas.{nothing_of_events, nothing_of_image, unlawful}
use Rattle.syn_print.proofs.KnownLemmas.{told_in_all}
use Rattle.syn_print.specs.inner.Damages.{AreNoEvents, HasGreatest}
use Rattle.std.specs.Prelude.{ℕ}
use Rattle.syn_model.specs.Standing.{Standing}
use Rattle.syn_model.specs.Version.{current_version}
use Rattle.syn_replica.specs.Readings.{IsImageOf, bytes_of_each}
use Rattle.syn_print.proofs.log.reading.read_log.Goals as goal

pub returns-in-Err-clause-cause : goal.returns-in-Err-clause-cause
returns-in-Err-clause-cause g c =
    by_journal c.in-Err.error (g.D.Disk.seen c.args.disk) c.in-Err.ensures.refusals

pub returns-then-is_old_replica-clause-cause : goal.returns-then-is_old_replica-clause-cause
returns-then-is_old_replica-clause-cause g c =
    let opened = c.in-Ok.opened in
    record {
      value = value_read opened.contents;
      means = ap meaning (sym c.in-Ok.ensures.untouched.same) ∙ c.in-Ok.ensures.opened.holds.means;
      old =
          subst IsOldImage c.deref.ensures.value
          (c.is_old_replica.ensures.0 c.if-is_old_replica.true);
    }

pub returns-in_err-image-clause-cause : goal.returns-in_err-image-clause-cause
returns-in_err-image-clause-cause g c =
    let p = err_from_is_err_and c.from_residual.result c.from_residual.ensures.1 in
    let opened = c.in-Ok.opened in
    let means = ap meaning (sym c.in-Ok.ensures.untouched.same)
    ∙ c.in-Ok.ensures.opened.holds.means in
    let young : ¬ IsOldImage opened.contents.image.items = λ old.
    true≢false (sym (c.is_old_replica.ensures.1 (subst IsOldImage (sym c.deref.ensures.value) old))
    ∙ c.if-is_old_replica.false) in
    let bytes = g.D.Disk.seen c.args.disk in
    let payloads = payloads_of opened.contents.payloads in
    rw (p.1, p.2) (by_image c.in_err-image.field-0.0 bytes c.in_err-image.ensures.refusals
    (λ damaged. unlawful bytes opened.contents.image.items payloads means young
    (nothing_of_image opened.contents.image.items payloads
    (subst (λ image. (pair : ℕ) (standing : Standing)
    → ¬ IsImageOf current_version image pair standing) c.deref-2.ensures.value
    (c.in_err-image.ensures.damaged damaged)))))

pub returns-in_err-push_touches-clause-cause : goal.returns-in_err-push_touches-clause-cause
returns-in_err-push_touches-clause-cause g c =
    let p = err_from_is_err_and c.from_residual-in_err-push_touches.result
    c.from_residual-in_err-push_touches.ensures.1 in
    let older = c.touches.result.0.now in
    rw (p.1, p.2) (by_reading c.in_err-push_touches.field-0.0 (HasGreatest older)
    (g.D.Disk.seen c.args.disk)
    (λ has. absurd (none_in_older (image_of c.in_ok-image.image).1 c.in_ok-image.ensures.read.sound
    older c.touches.result.1.now c.touches.ensures.all has)) c.in_err-push_touches.ensures.cause)

pub returns-in_err-push_touches-2-clause-cause : goal.returns-in_err-push_touches-2-clause-cause
returns-in_err-push_touches-2-clause-cause g c =
    let p = err_from_is_err_and c.from_residual-in_err-push_touches-2.result
    c.from_residual-in_err-push_touches-2.ensures.1 in
    let newer = c.touches.result.1.now in
    rw (p.1, p.2) (by_reading c.in_err-push_touches-2.field-0.0 (HasGreatest newer)
    (g.D.Disk.seen c.args.disk)
    (λ has. absurd (none_in_newer (image_of c.in_ok-image.image).1 c.in_ok-image.ensures.read.sound
    c.touches.result.0.now newer c.touches.ensures.all has)) c.in_err-push_touches-2.ensures.cause)

pub returns-in_err-push_events-clause-cause : goal.returns-in_err-push_events-clause-cause
returns-in_err-push_events-clause-cause g c =
    let p = err_from_is_err_and c.from_residual-in_err-push_events.result
    c.from_residual-in_err-push_events.ensures.1 in
    let opened = c.in-Ok.opened in
    let image = c.in_ok-image.image in
    let laws = c.opening_laws.ensures in
    let means = ap meaning (sym c.in-Ok.ensures.untouched.same)
    ∙ c.in-Ok.ensures.opened.holds.means in
    let young : ¬ IsOldImage opened.contents.image.items = λ old.
    true≢false (sym (c.is_old_replica.ensures.1 (subst IsOldImage (sym c.deref.ensures.value) old))
    ∙ c.if-is_old_replica.false) in
    let bytes = g.D.Disk.seen c.args.disk in
    let payloads = payloads_of opened.contents.payloads in
    let is = subst (λ b. IsImageOf current_version b image.pair (image_of image).1)
    c.deref-2.ensures.value c.in_ok-image.ensures.read in
    rw (p.1, p.2) (by_reading c.in_err-push_events.field-0.0
    (AreNoEvents c.position.result (bytes_of_each c.deref-3.result.now)) bytes
    (λ none. unlawful bytes opened.contents.image.items payloads means young
    (nothing_of_events opened.contents.image.items payloads laws.one laws.spelled image.pair
    (image_of image).1 is (subst (λ n. AreNoEvents n payloads) c.position.ensures
    (subst (λ ps. AreNoEvents c.position.result (bytes_of_each ps)) c.deref-3.ensures.value none))))
    c.in_err-push_events.ensures.cause)

pub returns-clause-told : goal.returns-clause-told
returns-clause-told g c =
    let opened = c.in-Ok.opened in
    let image = c.in_ok-image.image in
    let read = c.in_ok-image.ensures.read in
    let adds = c.in_ok-push_events.ensures.added in
    record {
      value = value_read opened.contents;
      means = ap meaning (sym c.in-Ok.ensures.untouched.same) ∙ c.in-Ok.ensures.opened.holds.means;
      pair = image.pair;
      standing = (image_of image).1;
      sound = read.sound;
      image = sym c.deref-2.ensures.value ∙ read.spelled;
      events = adds.events;
      payloads = ap bytes_of_each (sym c.deref-3.ensures.value) ∙ adds.spelled;
      told = told_in_all c.new-logged.result.items c.push_touches.new.logged.items
          c.push_touches-2.new.logged.items c.push_events.new.logged.items
          c.touches.result.0.now c.touches.result.1.now image.trail.touches c.position.result
          image.trail.position adds.events c.new-logged.ensures.items
          c.in_ok-push_touches.ensures.added c.in_ok-push_touches-2.ensures.added
          c.touches.ensures.all c.position.ensures adds.added;
    }
