use Rattle.std.proofs.Common.{◌≡◌, ◌∙◌, Ok, Some, None, ap, subst, sym}
use Rattle.syn_machine.specs.Coordinator.{is_last}
use Rattle.syn_machine.specs.Session.{fault_of}
use Rattle.syn_message.specs.Replies.{reply_of}
use Rattle.syn_propagate.proofs.StepLemmas.{Answers, after_done, after_piece, after_staged}
use Rattle.syn_propagate.proofs.StepLemmas.{same_answer}
use Rattle.syn_propagate.proofs.EndLemmas.{goes_on_after}
use Rattle.syn_propagate.proofs.transfer.Transfer.step.Goals as goal
use Rattle.syn_propagate.specs.Carrying.{WasCarried}
use Rattle.syn_propagate.specs.declared.next.Next.TheVariants.{Done}
use Rattle.syn_propagate.specs.Transfers.{with_answer}
use Rattle.syn_propagate.specs.inner.TransferStates.{WaitsAt}

pub returns-in-Piece-clause-goes_on : goal.returns-in-Piece-clause-goes_on
returns-in-Piece-clause-goes_on c taken to request number answer is waits =
    let spec = c.args.self.now.spec in
    let next = c.take_piece.new.self in
    let at = subst (λ p. WaitsAt spec taken p to request) c.in-Fetching.is waits in
    subst (λ a. Answers next taken to number request (reply_of a) c.take_piece.result)
    (same_answer c.args.reply _ answer (c.in-Some.is ∙ ap (λ a. Some a) c.in-Piece.is) is)
    (after_piece spec next taken to number request c.take_piece.result c.in-Fetching.offset
    c.in-Piece.total c.in-Fetching.known c.in-Piece.bytes.items at
    (c.take_piece.ensures.goes_on taken number))

pub returns-in-Staged-clause-goes_on : goal.returns-in-Staged-clause-goes_on
returns-in-Staged-clause-goes_on c taken to request number answer is waits =
    let spec = c.args.self.now.spec in
    let next = c.go_on.new.self in
    let at = subst (λ p. WaitsAt spec taken p to request) c.in-Staging.is waits in
    subst (λ a. Answers next taken to number request (reply_of a) c.go_on.result)
    (same_answer c.args.reply _ answer (c.in-Some.is ∙ ap (λ a. Some a) c.in-Staged.is) is)
    (after_staged spec next taken to number request c.go_on.result c.in-Staging.end
    c.in-Staging.total at (c.go_on.ensures.goes_on _))

pub returns-in-Done-clause-goes_on : goal.returns-in-Done-clause-goes_on
returns-in-Done-clause-goes_on c taken to request number answer is waits =
    let spec = c.args.self.now.spec in
    let at = subst (λ p. WaitsAt spec taken p to request) c.in-Replacing.is waits in
    subst (λ a. (fault_of taken to request (reply_of a) ≡ None)
    × WasCarried spec (with_answer taken to number request (reply_of a)))
    (same_answer c.args.reply _ answer (c.in-Some.is ∙ ap (λ a. Some a) c.in-Done.is) is)
    (after_done spec c.args.self.now taken to number request (Ok Done) at)

pub returns-in-Piece-clause-ends : goal.returns-in-Piece-clause-ends
returns-in-Piece-clause-ends c taken to request answer is waits =
    goes_on_after c.args.self.now.spec request answer c.take_piece.result
    (ap (λ a. is_last (reply_of a))
    (sym (same_answer c.args.reply _ answer (c.in-Some.is ∙ ap (λ a. Some a) c.in-Piece.is) is)))
    c.take_piece.ensures.asking

pub returns-in-Staged-clause-ends : goal.returns-in-Staged-clause-ends
returns-in-Staged-clause-ends c taken to request answer is waits =
    goes_on_after c.args.self.now.spec request answer c.go_on.result
    (ap (λ a. is_last (reply_of a))
    (sym (same_answer c.args.reply _ answer (c.in-Some.is ∙ ap (λ a. Some a) c.in-Staged.is) is)))
    c.go_on.ensures.asking
