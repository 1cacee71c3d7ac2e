use Rattle.std.proofs.Common.{subst}
use Rattle.syn_machine.specs.Side.{Fetch, Refused}
use Rattle.syn_message.specs.Replies.{reply_of}
use Rattle.syn_model.proofs.ExitLemmas.{if_err_of_exit}
use Rattle.syn_refusal.specs.Refusals.{cause_of}
use Rattle.syn_user.proofs.SideLemmas.{foreign_to_piece}
use Rattle.syn_user.specs.Sides.{IsReplied, IsUnanswered, NoPiece, foreign, refused, side_state}
use Rattle.syn_user.specs.Sides.{unanswered}
use Rattle.syn_user.proofs.side.SideConnection.piece.Goals as goal

pub returns-in_err-total-clause-refused : goal.returns-in_err-total-clause-refused
returns-in_err-total-clause-refused g c =
    let state = side_state g.R.Read.remaining g.W.Write.contents in
    let old = state c.args.self.now in
    let new = state c.ask.new.self in
    let error = c.in_err-total.field-0.0 in
    if_err_of_exit c.from_residual.result error
    (NoPiece c.args.position c.args.offset old new) c.from_residual.ensures.1
    (unanswered error (subst (λ p. IsUnanswered old new (Fetch p c.args.position c.args.offset)
    error) c.root.ensures.root c.in_err-total.ensures.unanswered))

pub returns-in-Refused : goal.returns-in-Refused
returns-in-Refused g c =
    let state = side_state g.R.Read.remaining g.W.Write.contents in
    let why = c.in-Refused.why in
    let told = rw c.in-Refused.is at c.in_ok-total.ensures.replied in
    record {
      piece = tt;
      none = tt;
      refused = refused why (subst (λ p. IsReplied (state c.args.self.now) (state c.ask.new.self)
          (Fetch p c.args.position c.args.offset) (Refused (cause_of why))) c.root.ensures.root
          told);
    }

pub returns : goal.returns
returns g c =
    let state = side_state g.R.Read.remaining g.W.Write.contents in
    let reply = c.in_ok-total.field-0 in
    record {
      piece = tt;
      none = tt;
      refused = foreign (reply_of reply)
          (subst (λ p. IsReplied (state c.args.self.now) (state c.ask.new.self)
          (Fetch p c.args.position c.args.offset) (reply_of reply)) c.root.ensures.root
          c.in_ok-total.ensures.replied)
          (foreign_to_piece reply c.in_default.not-Piece c.in_default.not-Refused);
    }
