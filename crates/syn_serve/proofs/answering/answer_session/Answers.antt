use Rattle.std.proofs.Common.{ap, rules}
use Rattle.std.specs.Prelude.{option_map}
use Rattle.syn_lock.specs.Locks.{origin_of}
use Rattle.syn_message.specs.Replies.{reply_of}
use Rattle.syn_message.specs.Requests.{request_of}
use Rattle.syn_replica.specs.Growth.{IsGrown}
use Rattle.syn_serve.proofs.answering.answer_session.Goals as goal
use Rattle.syn_serve.specs.inner.Parts.{TakesUp}
use Rattle.syn_shared.proofs.HoldLemmas.{held_now, later_now}

pub returns-clause-held : goal.returns-clause-held
returns-clause-held g c = (
  c.enter-guard.ensures.entered.0,
  held_now IsGrown _ (origin_of c.own-own.result.now) (ap origin_of c.own-own.ensures) _ _
      c.enter-guard.result c.deref_mut.result.now c.answer_once-reply.new.replica
      (TakesUp c.args.begun c.args.agent.now c.answer_once-reply.new.agent c.args.session
      (request_of c.args.request) (option_map reply_of c.answer_once-reply.result))
      c.enter-guard.ensures.entered.1 c.deref_mut.ensures.value (search rules)
      c.answer_once-reply.ensures.held,
)

pub returns-clause-later : goal.returns-clause-later
returns-clause-later g c =
    later_now _ _ _ (origin_of c.own-own.result.now) (ap origin_of c.own-own.ensures)
    c.enter-guard.result c.deref_mut.result.now c.answer_once-reply.new.replica
    c.enter-guard.ensures.later c.deref_mut.ensures.value (search rules)
    c.answer_once-reply.ensures.grown
