use Rattle.std.proofs.Common.{refl, rules, subst, sym}
use Rattle.syn_message.specs.Users.{user_request_of}
use Rattle.syn_user.proofs.UserLemmas.{fails_so, with_goes}
use Rattle.syn_user.proofs.connection.UserConnection.ask.Goals as goal
use Rattle.syn_user.specs.Exchanges.{Fails, closed}
use Rattle.syn_user.specs.States.{state_of}

pub returns-then-not-self-clause-fails : goal.returns-then-not-self-clause-fails
returns-then-not-self-clause-fails g c = closed (search rules) refl

pub returns-clause-fails : goal.returns-clause-fails
returns-clause-fails g c =
    let state = state_of g.R.Read.remaining g.W.Write.contents in
    let request = user_request_of c.args.request in
    subst (λ goes. Fails (state c.args.self.now)
    (with_goes (state c.exchange.new.self) goes) request
    c.in-Err.error) (sym c.is_refusal-self.ensures)
    (fails_so (state c.args.self.now) (state c.exchange.new.self) request c.in-Err.error
    (search rules) c.in-Err.ensures.breaks)
