use Rattle.std.proofs.Common.{refl, subst}
use Rattle.syn_machine.specs.Side.{ListAt, Refused}
use Rattle.syn_message.specs.Replies.{reply_of}
use Rattle.syn_model.proofs.ExitLemmas.{if_err_of_exit}
use Rattle.syn_refusal.specs.Refusals.{cause_of}
use Rattle.syn_user.proofs.SideLemmas.{foreign_reply}
use Rattle.syn_user.specs.Sides.{IsReplied, IsUnanswered, IsUnlisted, foreign, refused, side_state}
use Rattle.syn_user.specs.Sides.{unanswered, unsent}
use Rattle.syn_user.specs.declared.error.UserError.TheVariants as has
use Rattle.syn_user.proofs.side.SideConnection.list.Goals as goal

pub returns-in_err-path-clause-unlisted : goal.returns-in_err-path-clause-unlisted
returns-in_err-path-clause-unlisted g c =
    let state = side_state g.R.Read.remaining g.W.Write.contents c.args.self.now in
    if_err_of_exit c.from_residual.result has.Memory (IsUnlisted state state c.args.path.now)
    c.from_residual.ensures.1 (unanswered has.Memory (unsent refl (refl, refl)))

pub returns-in_err-reply-clause-unlisted : goal.returns-in_err-reply-clause-unlisted
returns-in_err-reply-clause-unlisted g c =
    let state = side_state g.R.Read.remaining g.W.Write.contents in
    let old = state c.args.self.now in
    let new = state c.ask.new.self in
    let error = c.in_err-reply.field-0.0 in
    if_err_of_exit c.from_residual-in_err-reply.result error
    (IsUnlisted old new c.args.path.now) c.from_residual-in_err-reply.ensures.1
    (unanswered error (subst (λ p. IsUnanswered old new (ListAt p) error) c.in_ok-path.ensures
    c.in_err-reply.ensures.unanswered))

pub returns-in-Refused-clause-unlisted : goal.returns-in-Refused-clause-unlisted
returns-in-Refused-clause-unlisted g c =
    let state = side_state g.R.Read.remaining g.W.Write.contents in
    let why = c.in-Refused.why in
    let told = rw c.in-Refused.is at c.in_ok-reply.ensures.replied in
    refused why (subst (λ p. IsReplied (state c.args.self.now) (state c.ask.new.self) (ListAt p)
    (Refused (cause_of why))) c.in_ok-path.ensures told)

pub returns-in_default : goal.returns-in_default
returns-in_default g c =
    let state = side_state g.R.Read.remaining g.W.Write.contents in
    let reply = c.in_ok-reply.reply in
    record {
      replied = tt;
      listing = tt;
      refused = tt;
      unlisted = foreign (reply_of reply)
          (subst (λ p. IsReplied (state c.args.self.now) (state c.ask.new.self) (ListAt p)
          (reply_of reply)) c.in_ok-path.ensures c.in_ok-reply.ensures.replied)
          (foreign_reply reply c.in_default.not-Listed c.in_default.not-NotDir
          c.in_default.not-Refused);
    }
