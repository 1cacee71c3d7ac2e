use Rattle.std.proofs.Common.{◌≡◌, ◌⊎◌, ◌<◌, ◌≤◌, Some, sym, ap, ◌∙◌, refl, subst, inr}
use Rattle.std.proofs.Common.{Err}
use Rattle.std.proofs.lemmas.Result.{err_from_is_err_and}
use Rattle.syn_tree.specs.Edits.{edit_of}
use Rattle.syn_replica.specs.Edits.{event_by}
use Rattle.syn_replica.specs.ErrorRefusals.{refusal_of, refusal_in}
use Rattle.syn_replica.specs.Replica.{room_shown, standing_shown}
use Rattle.syn_replica.specs.Steps.{add_refusal}
use Rattle.syn_replica.specs.inner.Additions.{add_refusal_at}
use Rattle.syn_model.specs.Refusal as why
use Rattle.syn_replica.proofs.RefusalLemmas.{inner_refusals, never, edit_among, same_refusal}
use Rattle.syn_replica.proofs.RefusalLemmas.{early_among, inner_among, not_full_device}
use Rattle.syn_replica.proofs.RefusalLemmas.{not_full_halted, not_halted_device, or_outside}
use Rattle.syn_replica.proofs.CallLemmas.{exits_early, exits_halted, still_stands}
use Rattle.syn_replica.proofs.MachineLemmas.{exits_so}
use Rattle.syn_replica.proofs.StandingLemmas.{early_at}
use Rattle.syn_replica.proofs.RoomLemmas.{added_refusals, edited_among, refused_at, room_at}
use Rattle.syn_replica.proofs.RoomLemmas.{room_refused, room_passed}
use Rattle.syn_replica.specs.Refusals.{IsOneOf, outside_refusals, edit_refusals}
use Rattle.std.specs.Prelude.{IfErr}
use Rattle.std.proofs.lemmas.Option.{none-some}
use Rattle.syn_replica.proofs.StandLemmas.{kept_unwritten}
use Rattle.syn_replica.proofs.replica.Replica.edit.Goals as goal

pub returns-in_err-check-clause-cause : goal.returns-in_err-check-clause-cause
returns-in_err-check-clause-cause g c history stands =
    let p = err_from_is_err_and c.from_residual-in_err-check.result
    c.from_residual-in_err-check.ensures.1 in
    let old = c.args.self.now in
    let event = event_by c.args.user c.args.edit in
    rw (p.1, p.2)
    (inr (ap (λ s. add_refusal_at (room_shown old) s event) (sym stands.remembers.standing)
    ∙ refused_at (room_shown old) (standing_shown old) event _
    (early_at (standing_shown old) event _ (sym c.in_err-check.ensures))))

pub returns-in_err-check-clause-refused : goal.returns-in_err-check-clause-refused
returns-in_err-check-clause-refused g c history why stands e =
    let p = err_from_is_err_and c.from_residual-in_err-check.result
    c.from_residual-in_err-check.ensures.1 in
    let old = c.args.self.now in
    let event = event_by c.args.user c.args.edit in
    rw (p.1, p.2)
    (same_refusal c.in_err-check.field-0.0 why (add_refusal (room_shown old) history event)
    (ap (λ s. add_refusal_at (room_shown old) s event) (sym stands.remembers.standing)
    ∙ refused_at (room_shown old) (standing_shown old) event _
    (early_at (standing_shown old) event _ (sym c.in_err-check.ensures))) e)

pub returns-in_err-check-clause-refusals : goal.returns-in_err-check-clause-refusals
returns-in_err-check-clause-refusals g c =
    let p = err_from_is_err_and c.from_residual-in_err-check.result
    c.from_residual-in_err-check.ensures.1 in
    rw (p.1, p.2) (edit_among (standing_shown c.args.self.now) c.args.user (edit_of c.args.edit) _
    (sym c.in_err-check.ensures))

pub returns-in_err-check_room-clause-refused : goal.returns-in_err-check_room-clause-refused
returns-in_err-check_room-clause-refused g c history why stands e =
    let p = err_from_is_err_and c.from_residual-in_err-check_room.result
    c.from_residual-in_err-check_room.ensures.1 in
    let old = c.args.self.now in
    let event = event_by c.args.user c.args.edit in
    let none = sym c.check.ensures ∙ ap refusal_in c.in_ok-check.was in
    let long = subst (λ n. room_shown old < n)
    (c.edit_length-length.ensures c.args.user) c.in_err-check_room.ensures.refused.1 in
    let full = room_at (room_shown old) (standing_shown old) event none long in
    rw (p.1, p.2)
    (same_refusal c.in_err-check_room.field-0.0 why (add_refusal (room_shown old) history event)
    (ap (λ s. add_refusal_at (room_shown old) s event) (sym stands.remembers.standing)
    ∙ (full ∙ sym (ap (λ e. Some (refusal_of e)) c.in_err-check_room.ensures.refused.0))) e)

pub prepare-requires-clause-brief : goal.prepare-requires-clause-brief
prepare-requires-clause-brief g c =
    let none = sym c.check.ensures ∙ ap refusal_in c.in_ok-check.was in
    c.opening_laws.ensures.short (standing_shown c.args.self.now)
    (event_by c.args.user c.args.edit) none

pub returns-in_err-check_running-clause-any_moment :
    goal.returns-in_err-check_running-clause-any_moment
returns-in_err-check_running-clause-any_moment g c history stands =
    kept_unwritten g.met.D.Disk.only_now c.args.self.now history stands _

pub returns-in_err-check-clause-any_moment : goal.returns-in_err-check-clause-any_moment
returns-in_err-check-clause-any_moment g c history stands =
    kept_unwritten g.met.D.Disk.only_now c.args.self.now history stands _

pub returns-in_err-check_room-clause-any_moment : goal.returns-in_err-check_room-clause-any_moment
returns-in_err-check_room-clause-any_moment g c history stands =
    kept_unwritten g.met.D.Disk.only_now c.args.self.now history stands _

pub returns-in_err-check_room-clause-cause : goal.returns-in_err-check_room-clause-cause
returns-in_err-check_room-clause-cause g c history stands =
    subst (λ s. IfErr c.from_residual-in_err-check_room.result
    (λ e. IsOneOf outside_refusals e ⊎ (add_refusal_at (room_shown c.args.self.now) s
    (event_by c.args.user c.args.edit) ≡ Some (refusal_of e)))) stands.remembers.standing
    (room_refused (room_shown c.args.self.now) (standing_shown c.args.self.now)
    (event_by c.args.user c.args.edit) c.from_residual-in_err-check_room.result _
    c.edit_length-length.result
    c.from_residual-in_err-check_room.ensures.1
    (sym c.check.ensures ∙ ap refusal_in c.in_ok-check.was)
    (c.edit_length-length.ensures c.args.user) c.in_err-check_room.ensures.refused)

pub returns-clause-acknowledged : goal.returns-clause-acknowledged
returns-clause-acknowledged g c history stands =
    c.commit.ensures.acknowledged history (event_by c.args.user c.args.edit) stands
    c.in_ok-payload.ensures.adds

pub returns-clause-any_moment : goal.returns-clause-any_moment
returns-clause-any_moment g c history stands =
    c.commit.ensures.any_moment history (event_by c.args.user c.args.edit) stands
    c.in_ok-payload.ensures.adds

pub returns-clause-unchanged : goal.returns-clause-unchanged
returns-clause-unchanged g c history stands =
    still_stands c.args.self.now _ _ c.commit.result
    (c.commit.ensures.machine (event_by c.args.user c.args.edit) c.in_ok-payload.ensures.adds)
    history stands

pub returns-clause-cause : goal.returns-clause-cause
returns-clause-cause g c history stands =
    or_outside _ c.commit.result c.commit.ensures.refusals

-- where it was added, there was no cause
pub returns-clause-refused : goal.returns-clause-refused
returns-clause-refused g c history why stands e =
    absurd (none-some _ (sym (ap (λ s. add_refusal_at (room_shown c.args.self.now) s
    (event_by c.args.user c.args.edit)) (sym stands.remembers.standing)
    ∙ room_passed (room_shown c.args.self.now) (standing_shown c.args.self.now)
    (event_by c.args.user c.args.edit) (sym c.check.ensures ∙ ap refusal_in c.in_ok-check.was)
    (subst (λ n. n ≤ room_shown c.args.self.now)
    (c.edit_length-length.ensures c.args.user) c.in_ok-check_room.ensures.room)) ∙ e))

pub returns-clause-refusals : goal.returns-clause-refusals
returns-clause-refusals g c =
    added_refusals edit_refusals refl refl _
    (edited_among (room_shown c.args.self.now) (standing_shown c.args.self.now) c.args.user
    (edit_of c.args.edit)) c.commit.result (or_outside _ c.commit.result c.commit.ensures.refusals)

-- ---- the machine

pub returns-in_err-check_running-clause-machine : goal.returns-in_err-check_running-clause-machine
returns-in_err-check_running-clause-machine g c =
    let halted = c.in_err-check_running.ensures.halted in
    exits_halted {Y = Unit {0}} c.args.self.now c.from_residual.result _
    (Some (event_by c.args.user c.args.edit)) c.from_residual.ensures.1
    (λ device. not_halted_device (sym (ap refusal_of halted.0) ∙ device))
    (λ _. halted.1, λ _. ap (λ e. Err e) halted.0)

pub returns-in_err-check-clause-machine : goal.returns-in_err-check-clause-machine
returns-in_err-check-clause-machine g c =
    let event = event_by c.args.user c.args.edit in
    let among = early_among (standing_shown c.args.self.now) event _ c.in_err-check.ensures in
    exits_early c.args.self.now c.from_residual-in_err-check.result _ (Some event)
    c.from_residual-in_err-check.ensures.1 c.in_ok-check_running.ensures.running
    (never inner_refusals why.Halted refl _ among) (never inner_refusals why.Device refl _ among)

pub returns-in_err-check_room-clause-machine : goal.returns-in_err-check_room-clause-machine
returns-in_err-check_room-clause-machine g c =
    let full = ap refusal_of c.in_err-check_room.ensures.refused.0 in
    exits_early c.args.self.now c.from_residual-in_err-check_room.result _
    (Some (event_by c.args.user c.args.edit)) c.from_residual-in_err-check_room.ensures.1
    c.in_ok-check_running.ensures.running
    (λ halted. not_full_halted (sym full ∙ halted)) (λ device. not_full_device (sym full ∙ device))

pub returns-in_err-payload-clause-machine : goal.returns-in_err-payload-clause-machine
returns-in_err-payload-clause-machine g c =
    let event = event_by c.args.user c.args.edit in
    let among = inner_among (standing_shown c.args.self.now) event _
    c.in_err-payload.ensures.refused in
    exits_early c.args.self.now c.from_residual-in_err-payload.result _ (Some event)
    c.from_residual-in_err-payload.ensures.1
    c.in_ok-check_running.ensures.running
    (never inner_refusals why.Halted refl _ among) (never inner_refusals why.Device refl _ among)

pub returns-clause-machine : goal.returns-clause-machine
returns-clause-machine g c =
    c.commit.ensures.machine (event_by c.args.user c.args.edit) c.in_ok-payload.ensures.adds

-- ---- what it is to the model's machine

pub returns-in_err-check_running-clause-world : goal.returns-in_err-check_running-clause-world
returns-in_err-check_running-clause-world g c number machine is =
    exits_so c.args.self.now number machine is c.from_residual.result _
    (Some (event_by c.args.user c.args.edit)) c.from_residual.ensures.1 (λ device. not_halted_device
    (sym (ap refusal_of c.in_err-check_running.ensures.halted.0) ∙ device))

pub returns-in_err-check-clause-world : goal.returns-in_err-check-clause-world
returns-in_err-check-clause-world g c number machine is =
    let event = event_by c.args.user c.args.edit in
    exits_so c.args.self.now number machine is c.from_residual-in_err-check.result _ (Some event)
    c.from_residual-in_err-check.ensures.1 (never inner_refusals why.Device refl _
    (early_among (standing_shown c.args.self.now) event _ c.in_err-check.ensures))

pub returns-in_err-check_room-clause-world : goal.returns-in_err-check_room-clause-world
returns-in_err-check_room-clause-world g c number machine is =
    exits_so c.args.self.now number machine is c.from_residual-in_err-check_room.result _
    (Some (event_by c.args.user c.args.edit)) c.from_residual-in_err-check_room.ensures.1
    (λ device. not_full_device
    (sym (ap refusal_of c.in_err-check_room.ensures.refused.0) ∙ device))

pub returns-in_err-payload-clause-world : goal.returns-in_err-payload-clause-world
returns-in_err-payload-clause-world g c number machine is =
    let event = event_by c.args.user c.args.edit in
    exits_so c.args.self.now number machine is c.from_residual-in_err-payload.result _ (Some event)
    c.from_residual-in_err-payload.ensures.1 (never inner_refusals why.Device refl _
    (inner_among (standing_shown c.args.self.now) event _ c.in_err-payload.ensures.refused))

pub returns-clause-world : goal.returns-clause-world
returns-clause-world g c number machine is =
    c.commit.ensures.world number machine (event_by c.args.user c.args.edit) is
    c.in_ok-payload.ensures.adds
