use Rattle.syn_serve.proofs.connection.ServerConnection.serve.Given as goal
use Rattle.syn_serve.specs.Exchanges.{moment}
use Rattle.syn_serve.specs.States.{state_of}
use Rattle.syn_serve.specs.Runs.{Answer}
use Rattle.syn_shared.specs.Shared.{IsFor, IsLater}

-- requests were answered, one after another
abbrev pub invariant-loop : goal.invariant-loop
invariant-loop g l =
    let state = state_of g.R.Read.remaining g.W.Write.contents in record {
      is_for : IsFor l.fn.shared l.pass;
      later : IsLater l.fn.shared l.fn.pass l.pass;
      answered : Answer l.fn.shared (moment (state l.fn.self) l.fn.pass)
          (moment (state l.self) l.pass);
    }
