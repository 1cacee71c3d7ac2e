use Rattle.std.proofs.Common.{subst}
use Rattle.syn_machine.specs.Side.{ListAt}
use Rattle.syn_message.specs.Replies.{reply_of}
use Rattle.syn_model.proofs.ExitLemmas.{if_err_of_exit}
use Rattle.syn_user.proofs.SideLemmas.{rootless_so}
use Rattle.syn_user.specs.Sides.{IsReplied, IsUnlisted, NoPosition, side_state, untold}
use Rattle.syn_user.proofs.side.SideConnection.position.Goals as goal

pub returns-in_err-position-clause-refused : goal.returns-in_err-position-clause-refused
returns-in_err-position-clause-refused g c =
    let state = side_state g.R.Read.remaining g.W.Write.contents in
    let old = state c.args.self.now in
    let new = state c.list-2.new.self in
    let error = c.in_err-position.field-0.0 in
    if_err_of_exit c.from_residual.result error (NoPosition old new) c.from_residual.ensures.1
    (untold error (subst (λ p. IsUnlisted old new p error) c.root.ensures
    c.in_err-position.ensures.unlisted))

pub returns : goal.returns
returns g c =
    let state = side_state g.R.Read.remaining g.W.Write.contents in
    let old = state c.args.self.now in
    let new = state c.list-2.new.self in
    let reply = c.in_ok-position.field-0 in
    record {
      told = tt;
      refused = rootless_so old new reply c.in_ok-position.ensures.listing c.in_default.not-Listed
          (subst (λ p. IsReplied old new (ListAt p) (reply_of reply)) c.root.ensures
          c.in_ok-position.ensures.replied);
    }
