use Rattle.std.proofs.Common.{◌∙◌, ap}
use Rattle.syn_agent.specs.Agents.{staging_of}
use Rattle.syn_daemon.proofs.ConnectionLemmas.{served_whole}
use Rattle.syn_daemon.proofs.worker.serve_over.Goals as goal
use Rattle.syn_serve.specs.States.{agent_of, held_by, state_of, reader_of, writer_of}
use Rattle.syn_serve.specs.Servings.{connection_in, ended_in}

pub returns : goal.returns
returns g c =
    let made = c.new-connection.ensures in
    let serving = c.new-serving.ensures in
    let remaining = g.R.Read.remaining in
    let contents = g.W.Write.contents in
    served_whole g.row.D.Denot g.D.Disk (remaining c.args.reader) (contents c.args.writer)
    (λ s. state_of remaining contents (connection_in s)) (λ s. ended_in s) c.new-serving.result
    c.serve.new.work c.args.drawn c.serve.result c.ended.result c.ended.ensures serving.ended
    (record {
      given_first = ap (λ k. remaining (reader_of k)) serving.connection
          ∙ ap remaining made.reader;
      held_first = ap (λ k. held_by k) serving.connection ∙ made.held;
      staged_first = ap (λ k. staging_of (agent_of k)) serving.connection ∙ made.staged;
      written_first = ap (λ k. contents (writer_of k)) serving.connection
          ∙ ap contents made.writer;
    })
    c.serve.ensures
