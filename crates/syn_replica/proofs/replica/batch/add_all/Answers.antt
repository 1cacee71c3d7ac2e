use Rattle.std.proofs.Common.{◌≡◌, ◌⊎◌, ◌≤◌, ◌-◌, ◌+◌, ◌++◌, ◌∷◌, [], ℕ, Some, ap, inl, inr, length}
use Rattle.std.proofs.Common.{append_assoc, map, subst, sym, ◌∙◌, arith, length-append}
use Rattle.std.proofs.lemmas.List.{map-append}
use Rattle.std.proofs.lemmas.Result.{err_from_is_err_and}
use Rattle.std.specs.Global.{Vec}
use Rattle.syn_journal.specs.Batches.{bytes_of_each, records_size}
use Rattle.syn_model.specs.Event.{Event}
use Rattle.syn_model.specs.Refusal.{Memory}
use Rattle.syn_replica.specs.Batches.{events_size}
use Rattle.syn_replica.specs.Edits.{event_by}
use Rattle.syn_replica.specs.inner.Batches.{AddsAll, add_all_refusal_at}
use Rattle.syn_replica.specs.ErrorRefusals.{refusal_of}
use Rattle.syn_tree.specs.declared.edit.Edit.{Edit}
use Rattle.syn_replica.proofs.BatchLemmas.{adds_more, next_passed, next_refused}
use Rattle.syn_replica.proofs.BatchLemmas.{size_more, sized}
use Rattle.syn_replica.proofs.RoomLemmas.{spelled_long}
use Rattle.syn_replica.proofs.replica.batch.add_all.Goals as goal

pub returns-in_err-payload-clause-refused : goal.returns-in_err-payload-clause-refused
returns-in_err-payload-clause-refused c =
    let p = err_from_is_err_and c.from_residual-in_err-payload.result
    c.from_residual-in_err-payload.ensures.1 in
    let e = c.in_err-payload.field-0.0 in
    let event : Edit → Event = event_by c.args.user in
    let done = c.loop-edit.invariant in
    let made = map event c.loop-edit.yielded in
    let x = c.in-Some.edit in
    let rest = c.next.new.self.rest.items in
    let whole : map event c.args.edits.items ≡ made ++ event x ∷ map event rest =
    ap (map event) (done.whole ∙ ap (λ xs. c.loop-edit.yielded ++ xs) c.in-Some.ensures.steps.0)
    ∙ map-append event c.loop-edit.yielded (x ∷ rest) in
    let left : c.loop-edit.left ≡ c.args.room - events_size made =
    done.room ∙ ap (λ n. c.args.room - n) (ap records_size done.added.spelled ∙ sized made) in
    rw (p.1, p.2) (elim c.in_err-payload.ensures.refused as (λ _. (refusal_of e ≡ Memory)
    ⊎ (add_all_refusal_at c.args.room c.args.first (map event c.args.edits.items)
    ≡ Some (refusal_of e))) [
      | inl memory ↦ inl memory
      | inr cause ↦ inr (subst (λ es. add_all_refusal_at c.args.room c.args.first es
          ≡ Some (refusal_of e)) (sym whole)
          (next_refused c.args.room c.args.first c.loop-edit.standing made (event x)
          (map event rest) c.loop-edit.left (refusal_of e) done.passed done.added.gives left cause))
    ])

pub loop-edit-preserved : goal.loop-edit-preserved
loop-edit-preserved c =
    let event : Edit → Event = event_by c.args.user in
    let done = c.loop-edit.invariant in
    let x = c.in-Some.edit in
    let made = map event c.loop-edit.yielded in
    let payload = c.in_ok-payload.payload in
    let bytes = bytes_of_each c.loop-edit.payloads.items in
    let told = c.in_ok-payload.ensures in
    let longer : map event (c.loop-edit.yielded ++ x ∷ []) ≡ made ++ event x ∷ [] =
    map-append event c.loop-edit.yielded (x ∷ []) in
    let pushed : bytes_of_each c.push.new.self.items ≡ bytes ++ payload.items ∷ [] =
    ap bytes_of_each c.in_ok-push.ensures.items
    ∙ map-append (λ (p : Vec ℕ). p.items) c.loop-edit.payloads.items (payload ∷ []) in
    let size : records_size (bytes_of_each c.push.new.self.items)
    ≡ records_size bytes + (5 + length payload.items) =
    ap records_size pushed ∙ size_more bytes payload.items in
    let some : 1 ≤ length payload.items =
    subst (λ bs. 1 ≤ length bs) (sym told.spelled) (spelled_long (event x)) in
    let left : c.loop-edit.left ≡ c.args.room - events_size made =
    done.room ∙ ap (λ n. c.args.room - n) (ap records_size done.added.spelled ∙ sized made) in
    record {
      whole = done.whole ∙ (ap (λ xs. c.loop-edit.yielded ++ xs) c.in-Some.ensures.steps.0
          ∙ sym (append_assoc c.loop-edit.yielded (x ∷ []) c.next.new.self.rest.items));
      added = subst (λ es. AddsAll c.args.first es (bytes_of_each c.push.new.self.items)
          c.add_one.new.standing) (sym longer) (subst (λ bs. AddsAll c.args.first
          (made ++ event x ∷ []) bs c.add_one.new.standing) (sym pushed)
          (adds_more c.args.first c.loop-edit.standing c.add_one.new.standing made (event x) bytes
          payload.items done.added told.allowed told.spelled told.made));
      count =
          omega (
            arith,
            done.count,
            ap length c.in_ok-push.ensures.items,
            length-append c.loop-edit.payloads.items (payload ∷ []),
            length-append c.loop-edit.yielded (x ∷ []),
          );
      room =
          omega (arith, done.room, size, c.saturating_sub-left.ensures, c.len-in-loop-edit.ensures);
      fits = λ n is.
          omega (arith, done.fits n is, done.room, is, size, told.fits, some);
      passed = ap (add_all_refusal_at c.args.room c.args.first) longer
          ∙ next_passed c.args.room c.args.first c.loop-edit.standing made (event x)
          c.loop-edit.left done.passed done.added.gives left told.passed;
    }
