use Rattle.std.proofs.Common.{inl, inr, refl, subst, sym}
use Rattle.syn_agent.proofs.CauseLemmas.{counts_none}
use Rattle.syn_agent.proofs.StageLemmas.{stage_answers, stage_device, stage_lawful, stage_takes}
use Rattle.syn_agent.proofs.agent.Agent.serve.Goals as goal
use Rattle.syn_agent.specs.Agents.{side_of}
use Rattle.syn_agent.specs.Answers.{Answers, room_for}
use Rattle.syn_machine.specs.Side.{Stage, TakesMemory, token_of}
use Rattle.syn_message.specs.Replies.{reply_of}
use Rattle.syn_message.specs.Requests.{request_of}
use Rattle.syn_replica.specs.Growing.{itself}
use Rattle.syn_replica.specs.Replica.{pair_of}

pub returns-in-List-clause-memory : goal.returns-in-List-clause-memory
returns-in-List-clause-memory g c history (inl stands) is =
    subst (λ r. TakesMemory (pair_of c.args.replica.now) (room_for c.args.replica.now)
    (side_of history c.args.self.now) c.args.session (request_of r)) (sym c.in-List.is)
    (c.list.ensures.memory history c.args.session stands is)
returns-in-List-clause-memory g c history (inr halted) is =
    absurd (let k = c.list.ensures.halted halted in cc)

pub returns-in-Fetch-clause-memory : goal.returns-in-Fetch-clause-memory
returns-in-Fetch-clause-memory g c history (inl stands) is =
    subst (λ r. TakesMemory (pair_of c.args.replica.now) (room_for c.args.replica.now)
    (side_of history c.args.self.now) c.args.session (request_of r)) (sym c.in-Fetch.is)
    (c.fetch.ensures.memory history c.args.session stands is)
returns-in-Fetch-clause-memory g c history (inr halted) is =
    absurd (let k = c.fetch.ensures.halted halted in cc)

pub returns-in-Stage-clause-answers : goal.returns-in-Stage-clause-answers
returns-in-Stage-clause-answers g c history stands =
    subst (λ r. Answers c.args.replica.now c.args.replica.now c.args.self.now c.stage.new.self
    history c.args.session (request_of r) (reply_of c.stage.result)) (sym c.in-Stage.is)
    (subst (λ bytes. Answers c.args.replica.now c.args.replica.now c.args.self.now
    c.stage.new.self history c.args.session (Stage c.in-Stage.item c.in-Stage.offset bytes)
    (reply_of c.stage.result)) c.into_bytes.ensures
    (stage_answers c.args.replica.now c.args.self.now c.stage.new.self history c.args.session
    c.in-Stage.item c.in-Stage.offset c.into_bytes.result.items (reply_of c.stage.result) stands
    c.stage.ensures))

pub returns-in-Stage-clause-memory : goal.returns-in-Stage-clause-memory
returns-in-Stage-clause-memory g c history stands is =
    subst (λ r. TakesMemory (pair_of c.args.replica.now) (room_for c.args.replica.now)
    (side_of history c.args.self.now) c.args.session (request_of r)) (sym c.in-Stage.is)
    (stage_takes c.args.self.now c.stage.new.self (token_of c.args.session c.in-Stage.item)
    c.in-Stage.offset c.into_bytes.result.items (reply_of c.stage.result) c.stage.ensures is)

pub returns-in-Stage-clause-failures : goal.returns-in-Stage-clause-failures
returns-in-Stage-clause-failures g c =
    counts_none (reply_of c.stage.result) _ _ (stage_device c.args.self.now c.stage.new.self
    (token_of c.args.session c.in-Stage.item) c.in-Stage.offset c.into_bytes.result.items
    (reply_of c.stage.result) c.stage.ensures) refl

pub returns-in-Stage-clause-lawful : goal.returns-in-Stage-clause-lawful
returns-in-Stage-clause-lawful g c =
    stage_lawful c.args.self.now c.stage.new.self (token_of c.args.session c.in-Stage.item)
    c.in-Stage.offset c.into_bytes.result.items (reply_of c.stage.result) c.stage.ensures

pub returns-in-List-clause-grown : goal.returns-in-List-clause-grown
returns-in-List-clause-grown g c = itself c.args.replica.now

pub returns-in-Fetch-clause-grown : goal.returns-in-Fetch-clause-grown
returns-in-Fetch-clause-grown g c = itself c.args.replica.now

pub returns-in-Stage-clause-grown : goal.returns-in-Stage-clause-grown
returns-in-Stage-clause-grown g c = itself c.args.replica.now
