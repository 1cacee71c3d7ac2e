use Rattle.std.proofs.Common.{◌≡◌, ◌⊎◌, ◌∙◌, ◌-◌, Some, ap, arith, inl, inr, refl, sym, [], ◌∷◌}
use Rattle.syn_machine.specs.SideMachine.{causes_of}
use Rattle.syn_model.specs.Refusal.{first_cause}
use Rattle.syn_model.specs.Refusal as why
use Rattle.syn_replica.specs.Edits.{event_by}
use Rattle.syn_replica.specs.ErrorRefusals.{refusal_of}
use Rattle.syn_replica.specs.Replica.{left_shown, room_shown}
use Rattle.syn_replica.specs.Steps.{add_refusal}
use Rattle.syn_tree.specs.Edits.{edit_of}
use Rattle.syn_agent.proofs.CauseLemmas.{edit_never, none_of, outside}
use Rattle.syn_world.proofs.CauseLemmas.{causes_are, causes_none, causes_some, reason_is}
use Rattle.syn_world.proofs.EditLemmas.{edit_not, edit_ok}
use Rattle.syn_world.proofs.SideLemmas.{position_is, when_up}
use Rattle.syn_world.proofs.side.UpSide.add.Goals as goal

pub returns-in-Ok : goal.returns-in-Ok
returns-in-Ok g c pair machine runs =
    let old = c.args.self.replica in
    let event = event_by c.args.user c.args.edit in
    let told = c.in-Ok.ensures in
    let is_up = when_up pair c.args.self machine runs c.requires.running in
    let room_is : room_shown old ≡ left_shown old - 5 = omega arith in
    let same = causes_are pair (room_shown old) (left_shown old) c.args.user
    (edit_of c.args.edit) machine room_is (runs.is.keeps.room is_up.0) in
    edit_ok pair old c.edit.new.self c.args.self.agent machine event runs c.requires.lawful
    c.settle_added.result _
    (c.position-position.ensures ∙ position_is pair c.args.self machine runs)
    c.settle_added.ensures
    (causes_none machine (causes_of pair machine event) is_up.0 (sym same
    ∙ none_of (add_refusal (room_shown old) machine.journal.value event)
    (λ why some. absurd (told.refused machine.journal.value why is_up.1 some))))
    told.machine.tried told.machine.device.failures
    (told.world pair machine.journal runs.is.keeps)

pub returns-in-Err : goal.returns-in-Err
returns-in-Err g c pair machine runs =
    let old = c.args.self.replica in
    let event = event_by c.args.user c.args.edit in
    let value = machine.journal.value in
    let e = c.in-Err.error in
    let told = c.in-Err.ensures in
    let causes = causes_of pair machine event in
    let is_up = when_up pair c.args.self machine runs c.requires.running in
    let room_is : room_shown old ≡ left_shown old - 5 = omega arith in
    let same = causes_are pair (room_shown old) (left_shown old) c.args.user
    (edit_of c.args.edit) machine room_is (runs.is.keeps.room is_up.0) in
    edit_not pair old c.edit.new.self c.args.self.agent machine event runs c.requires.lawful
    c.settle.result _ (c.position-position.ensures ∙ position_is pair c.args.self machine runs) _
    c.settle.ensures (refusal_of e) (ap (λ r. r ∷ []) c.refusal.ensures) refl
    told.machine.device.failures told.machine.tried
    (λ device. causes_none machine causes is_up.0 (sym same
    ∙ none_of (add_refusal (room_shown old) value event)
    (λ why some. edit_never (room_shown old) value c.args.user (edit_of c.args.edit)
    why some (sym (told.refused value why is_up.1 some) ∙ device))))
    (λ other. causes_some machine causes is_up.0 (refusal_of e)
    (reason_is causes (refusal_of e)
    (λ found is. told.refused value found is_up.1 (same ∙ is))
    (elim (told.cause value is_up.1)
    as (λ _. (refusal_of e ≡ why.Memory) ⊎ (first_cause causes ≡ Some (refusal_of e))) [
      | inl out ↦ elim (outside e out)
          as (λ _. (refusal_of e ≡ why.Memory) ⊎ (first_cause causes ≡ Some (refusal_of e))) [
            | inl memory ↦ inl memory
            | inr device ↦ absurd (other device)
          ]
      | inr some ↦ inr (sym same ∙ some)
    ])))
    (told.world pair machine.journal runs.is.keeps)
