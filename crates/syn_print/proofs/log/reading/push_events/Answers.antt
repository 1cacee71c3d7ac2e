use Rattle.std.proofs.Common.{◌≡◌, ◌≤◌, ◌∙◌, ◌+◌, ◌++◌, ◌∷◌, [], ap, get_or, subst, sym, take}
use Rattle.std.proofs.lemmas.List.{map-append, take_more}
use Rattle.std.specs.Global.{Vec}
use Rattle.std.specs.Prelude.{ℕ, None, option_map}
use Rattle.syn_history.specs.Events.{event_of}
use Rattle.std.proofs.lemmas.Result.{err_from_is_err_and}
use Rattle.syn_model.specs.Limits.{greatest}
use Rattle.syn_print.proofs.DamageLemmas.{no_event, no_position, reading_weaker}
use Rattle.syn_print.proofs.KnownLemmas.{AddsUpTo, none_added, one_added}
use Rattle.syn_print.specs.inner.Damages.{AreNoEvents}
use Rattle.syn_print.specs.Known.{OfEvent}
use Rattle.syn_print.specs.declared.log.Logged.{Logged}
use Rattle.syn_print.specs.declared.log.What.TheVariants.{Whole}
use Rattle.syn_model.specs.Version.{current_version}
use Rattle.syn_replica.specs.Readings.{IsEventOf, bytes_of_each}
use Rattle.syn_print.proofs.log.reading.push_events.Goals as goal

pub loop-payload-init : goal.loop-payload-init
loop-payload-init c = none_added c.args.first c.args.logged.now.items

pub loop-payload-preserved : goal.loop-payload-preserved
loop-payload-preserved c =
    let all = c.args.payloads.now in
    let at = c.loop-payload.payload-index in
    let one : Vec ℕ = get_or all at c.payload-item.result in
    let event = event_of c.in-Some.event in
    let first = c.args.first in
    let last = c.loop-payload.position in
    let old = c.args.logged.now.items in
    let read = subst (λ o. IsEventOf current_version c.deref.result.now (option_map event_of o))
    c.in-Some.is c.in_ok-event.ensures in
    let logged : Logged = record {
      position = c.in_ok-position.position;
      what = Whole c.in-Some.event;
    } in
    let more : bytes_of_each (take (at + 1) all)
    ≡ bytes_of_each (take at all) ++ one.items ∷ [] =
    ap bytes_of_each (take_more all at c.payload-item.result c.loop-payload-test.true)
    ∙ map-append (λ (payload : Vec ℕ). payload.items) (take at all) (one ∷ []) in
    let added = one_added first last (bytes_of_each (take at all)) one.items event old
    c.loop-payload.logged.items logged c.loop-payload.invariant
    (sym read.1 ∙ (c.deref.ensures.value ∙ ap (λ (v : Vec ℕ). v.items) c.payload-item.is))
    (ap (λ n. (n, OfEvent event)) c.in_ok-position.ensures.next) in
    subst (λ n. AddsUpTo first n (bytes_of_each (take (at + 1) all)) old c.push.new.self.items)
    (sym c.in_ok-position.ensures.next)
    (subst (λ ps. AddsUpTo first (last + 1) ps old c.push.new.self.items) (sym more)
    (subst (AddsUpTo first (last + 1) (bytes_of_each (take at all) ++ one.items ∷ []) old)
    (sym c.in_ok-push.ensures.items) added))

pub returns-in_err-position-clause-cause : goal.returns-in_err-position-clause-cause
returns-in_err-position-clause-cause c =
    let p = err_from_is_err_and c.from_residual.result c.from_residual.ensures.1 in
    let all = c.args.payloads.now in
    let at = c.loop-payload.payload-index in
    let first = c.args.first in
    let last = c.loop-payload.position in
    rw (p.1, p.2) (reading_weaker c.in_err-position.field-0.0 (greatest ≤ last)
    (AreNoEvents first (bytes_of_each all))
    (no_position first last at all c.args.logged.now.items c.loop-payload.logged.items
    c.loop-payload.invariant c.loop-payload-test.true) c.in_err-position.ensures.cause)

pub returns-in_default-clause-cause : goal.returns-in_default-clause-cause
returns-in_default-clause-cause c =
    let all = c.args.payloads.now in
    let at = c.loop-payload.payload-index in
    let payload : Vec ℕ = c.payload-item.result in
    let none = subst (λ o. IsEventOf current_version c.deref.result.now (option_map event_of o))
    c.in_default.is c.in_ok-event.ensures in
    no_event c.args.first at all payload c.loop-payload-test.true c.payload-item.is
    (subst (λ bytes. IsEventOf current_version bytes None) c.deref.ensures.value none)
