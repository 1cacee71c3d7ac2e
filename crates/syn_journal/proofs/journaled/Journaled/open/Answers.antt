use Rattle.std.specs.Global.{Vec}
use Rattle.std.proofs.Common.{◌≡◌, ℕ, List, Option, Ok, Some, inl, inr, subst, sym}
use Rattle.syn_journal.proofs.Endings.{counts, reads_or_breaks}
use Rattle.syn_journal.proofs.Meanings.{one_value}
use Rattle.syn_journal.specs.Opened.{value_read}
use Rattle.syn_journal.specs.Openings.{bytes_of_each}
use Rattle.syn_journal.proofs.Spent.{read_on}
use Rattle.syn_journal.proofs.StartLemmas.{rests_still, starts}
use Rattle.syn_journal.specs.Endings.{Reads}
use Rattle.syn_journal.specs.Journal.{disk_of}
use Rattle.syn_journal.specs.Layout.{Value, meaning}
use Rattle.syn_journal.proofs.journaled.Journaled.open.Goals as goal

-- it is read of the image and the payloads themselves
read_there : {S : Type 0} (Is : List ℕ → List (List ℕ) → S → Type 0) (it : S)
    (image there : List ℕ) → image ≡ there → (payloads all : List (Vec ℕ)) → payloads ≡ all →
    Is image (bytes_of_each payloads) it → Is there (bytes_of_each all) it
read_there Is it image there same payloads all alike is =
    subst (λ ps. Is there (bytes_of_each ps) it) alike
    (subst (λ i. Is i (bytes_of_each payloads) it) same is)

pub returns-in-Err-clause-world : goal.returns-in-Err-clause-world
returns-in-Err-clause-world g c number machine wanted fits rests =
    rests_still g.D.Disk number (g.S.State.kept_as number) g.S.State.pair g.S.State.gives
    g.S.State.follows
    g.S.State.unread g.S.State.unread_again g.S.State.of_journal g.S.State.why
    (c.keeping_laws.ensures.read number) c.args.disk machine rests g.met.D.Disk.seen_may_stay
    c.in-Err.disk c.refused.result fits
    (inl (c.in-Err.error, c.refused.ensures.error, c.in-Err.ensures.refusals))
    (subst (λ w. Reads g.D.Disk (Some w) c.args.disk c.in-Err.disk) (sym c.refused.ensures.why)
    (record {
      untouched = c.in-Err.ensures.untouched;
      failures = counts c.in-Err.error _ _ c.in-Err.ensures.failures;
      arms = reads_or_breaks c.in-Err.error 1 _ _ c.in-Err.ensures.calls;
    }))

pub returns-in-Ok-read-clause-world : goal.returns-in-Ok-read-clause-world
returns-in-Ok-read-clause-world g c number machine wanted fits rests =
    let value = value_read c.in-Ok.opened.contents in
    let stands = c.in-Ok.ensures.opened in
    let means = subst (λ b. meaning b ≡ Ok value) c.in-Ok.ensures.untouched.same
    stands.holds.means in
    starts g.D.Disk number (g.S.State.kept_as number) g.S.State.pair g.S.State.gives
    g.S.State.follows g.S.State.unread g.S.State.unread_again g.S.State.of_journal g.S.State.why
    (c.keeping_laws.ensures.read number) c.args.disk machine rests g.met.D.Disk.seen_may_stay
    _ (sym (c.in-Ok-read.ensures.wanted number wanted))
    (record {
      value = value;
      means = means;
      runs = stands;
      fits = c.in-Ok-read.ensures.fits;
      given = read_there g.S.State.gives c.in-Ok-read.state _ _ c.deref.ensures.value _ _
          c.deref-2.ensures.value c.in-Ok-read.ensures.gives;
      one = λ other less gives. c.in-Ok-read.ensures.one other less
          (read_there g.S.State.gives other _ _ (sym c.deref.ensures.value) _ _
          (sym c.deref-2.ensures.value)
          (subst (λ (v : Value). g.S.State.gives v.image v.payloads other)
          (one_value (meaning (g.D.Disk.seen c.args.disk)) gives.value value gives.means means)
          gives.given));
    })
    (record {
      untouched = c.in-Ok.ensures.untouched;
      failures = c.in-Ok.ensures.failures;
      arms = c.in-Ok.ensures.calls;
    })

pub returns-clause-world : goal.returns-clause-world
returns-clause-world g c number machine wanted fits rests =
    let value = value_read c.in-Ok.opened.contents in
    let means = subst (λ b. meaning b ≡ Ok value) c.in-Ok.ensures.untouched.same
    c.in-Ok.ensures.opened.holds.means in
    rests_still g.D.Disk number (g.S.State.kept_as number) g.S.State.pair g.S.State.gives
    g.S.State.follows g.S.State.unread g.S.State.unread_again g.S.State.of_journal g.S.State.why
    (c.keeping_laws.ensures.read number) c.args.disk machine rests g.met.D.Disk.seen_may_stay
    c.into_disk.result c.in-Err-read.error fits
    (inr (
      value,
      means,
      read_there (λ image payloads (asked : Option ℕ).
          g.S.State.unread c.in-Err-read.error asked image payloads) (Some number) _ _
          c.deref.ensures.value _ _ c.deref-2.ensures.value
          (subst (λ asked. g.S.State.unread c.in-Err-read.error asked c.deref.result.now
          (bytes_of_each c.deref-2.result.now)) wanted c.in-Err-read.ensures.unread),
    ))
    (subst (λ back. Reads g.D.Disk (Some (g.S.State.why c.in-Err-read.error)) c.args.disk back)
    (sym c.into_disk.ensures) (read_on (g.S.State.why c.in-Err-read.error)
    c.in-Err-read.ensures.device c.args.disk (disk_of c.in-Ok.opened.journal) (record {
      untouched = c.in-Ok.ensures.untouched;
      failures = c.in-Ok.ensures.failures;
      arms = c.in-Ok.ensures.calls;
    })))
