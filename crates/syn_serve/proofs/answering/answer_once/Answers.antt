use Rattle.std.proofs.Common.{◌∙◌, sym, true≢false}
use Rattle.syn_message.specs.Replies.{reply_of}
use Rattle.syn_message.specs.Requests.{request_of}
use Rattle.syn_replica.specs.Growing.{itself}
use Rattle.syn_serve.proofs.HoldLemmas.{holds_for}
use Rattle.syn_serve.proofs.OnceLemmas.{begins_once}
use Rattle.syn_serve.proofs.answering.answer_once.Goals as goal

pub returns-then-is_begun_elsewhere-clause-grown :
    goal.returns-then-is_begun_elsewhere-clause-grown
returns-then-is_begun_elsewhere-clause-grown g c = itself _

pub returns-clause-held : goal.returns-clause-held
returns-clause-held g c =
    let told = c.answer.ensures in record {
      holds = λ pair.
          holds_for pair c.args.replica.now c.answer.new.replica c.args.agent.now c.answer.new.self
          c.args.session (request_of c.args.request) (reply_of c.answer.result)
          (told.takes pair);
      answers = told.answers;
      halted = told.halted;
      unchanged = told.unchanged;
      grown = told.grown;
      memory = told.memory;
      failures = told.failures;
      once = begins_once c.args.replica.now c.answer.new.replica c.args.agent.now c.answer.new.self
          c.args.session (request_of c.args.request) c.args.begun (reply_of c.answer.result)
          told.answers (λ is. true≢false (sym (c.is_begun_elsewhere.ensures.1 is)
          ∙ c.if-is_begun_elsewhere.false));
    }
