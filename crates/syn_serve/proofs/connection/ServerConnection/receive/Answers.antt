use Rattle.std.proofs.Common.{inr}
use Rattle.std.proofs.lemmas.Result.{err_from_is_err_and}
use Rattle.syn_serve.proofs.ServeLemmas.{closes_for}
use Rattle.syn_serve.proofs.connection.ServerConnection.receive.Goals as goal
use Rattle.syn_link.specs.Connections.{held_by, reader_of, writer_of}
use Rattle.syn_serve.specs.States.{state_of}

pub returns-in_err-body-clause-closes : goal.returns-in_err-body-clause-closes
returns-in_err-body-clause-closes g c =
    let p = err_from_is_err_and c.from_residual.result c.from_residual.ensures.1 in
    let state = state_of g.R.Read.remaining g.W.Write.contents in
    rw (p.1, p.2) (closes_for c.in_err-body.field-0.0 (state c.args.self.now)
    (record {
      given = g.R.Read.remaining (reader_of c.receive.new.self);
      held = held_by c.receive.new.self;
      agent = (state c.args.self.now).agent;
      begun = (state c.args.self.now).begun;
      written = g.W.Write.contents (writer_of c.receive.new.self);
    }) c.in_err-body.ensures.fault)

pub returns-in_err-request-clause-closes : goal.returns-in_err-request-clause-closes
returns-in_err-request-clause-closes g c =
    let p = err_from_is_err_and c.from_residual-in_err-request.result
    c.from_residual-in_err-request.ensures.1 in
    let came = rw c.in-Some.is at c.in_ok-body.ensures.body in
    rw (p.1, p.2) (inr (c.in-Some.body.items, came))
