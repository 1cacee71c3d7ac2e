use Rattle.std.proofs.Common.{◌≡◌, ◌∙◌, ◌+◌, ◌++◌, ◌∷◌, [], ap, append_assoc, arith, length, map}
use Rattle.std.proofs.Common.{length-append, refl, subst, sym}
use Rattle.std.proofs.lemmas.List.{length-map, map-append}
use Rattle.std.proofs.lemmas.Result.{err_from_is_err_and}
use Rattle.syn_command.proofs.SentLemmas.{ends_at, one_more_made}
use Rattle.syn_command.specs.Sent.{AreMadeInTurn, elsewhere, failed, unasked}
use Rattle.syn_command.specs.declared.error.CommandError.TheVariants.{Memory, Refused, User}
use Rattle.syn_message.specs.UserReplies.{Edited}
use Rattle.syn_message.specs.Users.{Edits}
use Rattle.syn_refusal.specs.declared.refusal.Refusal.TheVariants.{Touched}
use Rattle.syn_tree.specs.Edits.{edit_of}
use Rattle.syn_user.specs.Exchanges.{IsTold}
use Rattle.syn_user.specs.States.{state_of}
use Rattle.syn_command.proofs.sending.send_each.Goals as goal

pub loop-edit-preserved : goal.loop-edit-preserved
loop-edit-preserved g c =
    let state = state_of g.R.Read.remaining g.W.Write.contents in
    let made = c.loop-edit.yielded in
    let edit = c.in-Some.edit in
    let user = c.args.user in
    let old = state c.args.connection.now in
    let between = state c.loop-edit.connection in
    let new = state c.edit.new.self in
    let at : c.args.position + length (map edit_of made) ≡ c.loop-edit.last =
    ap (λ n. c.args.position + n) (length-map made edit_of) ∙ sym c.loop-edit.invariant.count in
    let told = subst (λ n. IsTold between new (Edits user (edit_of edit)) (Edited n))
    c.in_ok-last.ensures.made c.in_ok-made.ensures.ok in
    record {
      whole =
          c.loop-edit.invariant.whole ∙ (ap (λ xs. made ++ xs) c.in-Some.ensures.steps.0
          ∙ sym (append_assoc made (edit ∷ []) c.next.new.self.rest.items));
      count =
          omega (
            arith,
            length-append made (edit ∷ []),
            c.in_ok-last.ensures.next,
            c.loop-edit.invariant.count,
          );
      made =
          subst (λ es. AreMadeInTurn user old c.args.position es new)
          (sym (map-append edit_of made (edit ∷ [])))
          (one_more_made user c.args.position c.loop-edit.last old between new (map edit_of made)
          (edit_of edit) at c.loop-edit.invariant.made told);
    }

-- ---- why the edits are not all made

pub returns-in_err-line-clause-stopped : goal.returns-in_err-line-clause-stopped
returns-in_err-line-clause-stopped g c =
    let state = state_of g.R.Read.remaining g.W.Write.contents in
    let now = state c.loop-edit.connection in
    let made = c.loop-edit.yielded in
    let told = err_from_is_err_and c.from_residual.result c.from_residual.ensures.1 in
    rw (told.1, told.2) (ends_at c.args.user c.args.position c.loop-edit.last
    (state c.args.connection.now) now now made c.in-Some.edit c.next.new.self.rest.items
    c.args.edits.items Memory
    (c.loop-edit.invariant.whole ∙ ap (λ xs. made ++ xs) c.in-Some.ensures.steps.0)
    c.loop-edit.invariant.count c.loop-edit.invariant.made (unasked refl))

pub returns-in_err-made-clause-stopped : goal.returns-in_err-made-clause-stopped
returns-in_err-made-clause-stopped g c =
    let state = state_of g.R.Read.remaining g.W.Write.contents in
    let made = c.loop-edit.yielded in
    let error = c.in_err-made.field-0.0 in
    let told = err_from_is_err_and c.from_residual-in_err-made.result
    c.from_residual-in_err-made.ensures.1 in
    rw (told.1, told.2) (ends_at c.args.user c.args.position c.loop-edit.last
    (state c.args.connection.now) (state c.loop-edit.connection) (state c.edit.new.self) made
    c.in-Some.edit c.next.new.self.rest.items c.args.edits.items (User error)
    (c.loop-edit.invariant.whole ∙ ap (λ xs. made ++ xs) c.in-Some.ensures.steps.0)
    c.loop-edit.invariant.count c.loop-edit.invariant.made
    (failed error c.in_err-made.ensures.err))

pub returns-in_err-last-clause-stopped : goal.returns-in_err-last-clause-stopped
returns-in_err-last-clause-stopped g c =
    let state = state_of g.R.Read.remaining g.W.Write.contents in
    let made = c.loop-edit.yielded in
    let told = err_from_is_err_and c.from_residual-in_err-last.result
    c.from_residual-in_err-last.ensures.1 in
    rw (told.1, told.2, c.in_err-last.ensures.refused.0) (ends_at c.args.user c.args.position
    c.loop-edit.last (state c.args.connection.now) (state c.loop-edit.connection)
    (state c.edit.new.self) made c.in-Some.edit c.next.new.self.rest.items c.args.edits.items
    (Refused Touched)
    (c.loop-edit.invariant.whole ∙ ap (λ xs. made ++ xs) c.in-Some.ensures.steps.0)
    c.loop-edit.invariant.count c.loop-edit.invariant.made
    (elsewhere c.in_ok-made.made c.in_err-last.ensures.refused.1 c.in_ok-made.ensures.ok))
