use Rattle.std.proofs.Common.{◌≡◌, ◌∙◌, ◌++◌, ◌∷◌, [], ℕ, List, Result, Ok, ap, append-nil}
use Rattle.std.proofs.Common.{append_assoc, arith, map, subst, sym}
use Rattle.std.proofs.lemmas.List.{map-append, nil_from_length}
use Rattle.syn_model.proofs.ExitLemmas.{exit_is}
use Rattle.syn_model.specs.Event.{Event}
use Rattle.syn_replica.specs.Edits.{event_by}
use Rattle.syn_replica.specs.Growing.{itself, grown_twice}
use Rattle.syn_replica.specs.Replica.{position_shown}
use Rattle.syn_replica.specs.declared.error.ReplicaError.{ReplicaError}
use Rattle.syn_tree.specs.declared.edit.Edit.{Edit}
use Rattle.syn_shared.specs.Parts.{AddsInTurn, EndsWith}
use Rattle.syn_shared.specs.Parts as parts
use Rattle.syn_shared.proofs.parts.edit_in_turn.Goals as goal

pub loop-edit-init : goal.loop-edit-init
loop-edit-init g c = record {
  whole = sym c.into_iter-edit-iterator.ensures.into_iter_gives.0;
  added = parts.none;
  grown = itself c.args.replica.now;
}

pub loop-edit-preserved : goal.loop-edit-preserved
loop-edit-preserved g c =
    let event : Edit → Event = event_by c.args.user in
    let done = c.loop-edit.invariant in
    let made = c.loop-edit.yielded in
    let x = c.in-Some.edit in
    record {
      whole = done.whole ∙ (ap (λ xs. made ++ xs) c.in-Some.ensures.steps.0
          ∙ sym (append_assoc made (x ∷ []) c.next.new.self.rest.items));
      added =
          subst (λ (es : List Event). AddsInTurn c.args.replica.now es c.edit_once.new.replica)
          (sym (map-append event made (x ∷ [])))
          (parts.more (map event made) (event x) c.in_ok-edit_once.field-0 c.loop-edit.replica
          c.edit_once.new.replica done.added c.in_ok-edit_once.ensures.edits);
      grown =
          grown_twice c.args.replica.now c.loop-edit.replica c.edit_once.new.replica done.grown
          c.edit_once.ensures.grown;
    }

pub returns-in_err-edit_once-clause-ends : goal.returns-in_err-edit_once-clause-ends
returns-in_err-edit_once-clause-ends g c =
    let event : Edit → Event = event_by c.args.user in
    let done = c.loop-edit.invariant in
    let made = c.loop-edit.yielded in
    let x = c.in-Some.edit in
    let rest = c.next.new.self.rest.items in
    let e = c.in_err-edit_once.field-0.0 in
    let whole : map event c.args.edits.items ≡ map event made ++ event x ∷ map event rest =
    ap (map event) (done.whole ∙ ap (λ xs. made ++ xs) c.in-Some.ensures.steps.0)
    ∙ map-append event made (x ∷ rest) in
    subst (λ (r : Result ℕ ReplicaError). EndsWith c.args.replica.now
    (map event c.args.edits.items) r c.edit_once.new.replica)
    (sym (exit_is c.from_residual.result e c.from_residual.ensures.1))
    (parts.some (map event made) (event x) (map event rest) e c.loop-edit.replica
    c.edit_once.new.replica whole done.added c.in_err-edit_once.ensures.edits)

pub returns-in_err-edit_once-clause-grown : goal.returns-in_err-edit_once-clause-grown
returns-in_err-edit_once-clause-grown g c =
    grown_twice c.args.replica.now c.loop-edit.replica c.edit_once.new.replica
    c.loop-edit.invariant.grown c.edit_once.ensures.grown

pub returns-clause-ends : goal.returns-clause-ends
returns-clause-ends g c =
    let event : Edit → Event = event_by c.args.user in
    let done = c.loop-edit.invariant in
    let made = c.loop-edit.yielded in
    let left = c.loop-edit.replica in
    let rest = c.loop-edit.edit-iterator.rest in
    let none : rest.items ≡ [] =
    nil_from_length rest.items (omega (arith, c.in-None.ensures.steps.0, rest.ok)) in
    let all = done.whole ∙ (ap (λ xs. made ++ xs) none ∙ append-nil made) in
    subst (λ (n : ℕ). EndsWith c.args.replica.now (map event c.args.edits.items) (Ok n) left)
    (sym c.position.ensures)
    (subst (λ (es : List Event). EndsWith c.args.replica.now es (Ok (position_shown left)) left)
    (sym (ap (map event) all)) (parts.all left done.added))
