use Rattle.std.proofs.Common.{ap, Err, subst}
use Rattle.std.specs.Prelude.{Option}
use Rattle.syn_message.specs.UserReplies.{Refused}
use Rattle.syn_message.specs.Users.{Gets}
use Rattle.syn_refusal.specs.Refusals.{cause_of}
use Rattle.syn_tree.specs.declared.content.Content.{Content}
use Rattle.syn_user.proofs.UserLemmas.{fails_closed, fails_goes}
use Rattle.syn_user.proofs.connection.UserConnection.get.Goals as goal
use Rattle.syn_user.specs.Exchanges.{IsTold, refused}
use Rattle.syn_user.specs.States.{state_of}

pub returns-in_default-clause-err : goal.returns-in_default-clause-err
returns-in_default-clause-err g c = c.give_up.ensures (Gets c.args.path.now)

pub returns-in_default-clause-goes : goal.returns-in_default-clause-goes
returns-in_default-clause-goes g c =
    let state = state_of g.R.Read.remaining g.W.Write.contents in
    let request = Gets c.args.path.now in
    fails_goes (Option Content) (state c.args.self.now) (state c.give_up.new.self) request
    c.give_up.result (c.give_up.ensures request)

pub returns-in_default-clause-closed : goal.returns-in_default-clause-closed
returns-in_default-clause-closed g c =
    let state = state_of g.R.Read.remaining g.W.Write.contents in
    let request = Gets c.args.path.now in
    λ shut. ap Err (fails_closed (Option Content) (state c.args.self.now) (state c.give_up.new.self)
    request c.give_up.result shut (c.give_up.ensures request))

pub returns-in-Refused-clause-err : goal.returns-in-Refused-clause-err
returns-in-Refused-clause-err g c =
    let state = state_of g.R.Read.remaining g.W.Write.contents in
    let why = c.in-Refused.cause in
    let told = rw c.in-Refused.is at c.in_ok-found.ensures.told in
    refused why (subst (λ p. IsTold (state c.args.self.now) (state c.ask.new.self) (Gets p)
    (Refused (cause_of why))) c.in-Ok.ensures told)
