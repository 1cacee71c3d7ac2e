use Rattle.std.proofs.Common.{rules, ap, subst, sym, ◌∙◌, ◌<◌, ◌^◌}
use Rattle.syn_replica.specs.Replica.{generation_shown}
use Rattle.syn_lock.specs.Locks.{origin_of}
use Rattle.syn_replica.specs.Growth.{IsGrown}
use Rattle.syn_shared.specs.Upkeep.{Checkpoints}
use Rattle.syn_shared.proofs.UpkeepSteps.{checkpoint_world}
use Rattle.syn_shared.proofs.HoldLemmas.{held_now, held_answer, later_now, later_none}
use Rattle.syn_shared.proofs.shared.SharedReplica.try_checkpoint.Goals as goal

pub returns-clause-held : goal.returns-clause-held
returns-clause-held g c =
    held_answer c.answered.result _ _ _ c.answered.ensures (held_now IsGrown _
    (origin_of c.own-own.result.now) (ap origin_of c.own-own.ensures) _ _ c.in-Ok.guard
    c.deref_mut.result.now c.checkpoint-answer.new.self (Checkpoints c.checkpoint-answer.result)
    c.in-Ok.ensures.entered c.deref_mut.ensures.value (search rules) (record {
      world =
          λ pair agent machine is. checkpoint_world pair _ c.checkpoint-answer.new.self agent
          machine is
          (subst (λ n. n < 2 ^ 64) (c.generation.ensures ∙ ap generation_shown
          (c.deref.ensures ∙ sym c.deref_mut.ensures.value)) c.is_long.ensures)
          c.checkpoint-answer.result c.checkpoint-answer.ensures.full
          c.checkpoint-answer.ensures.first c.checkpoint-answer.ensures.refusals
          c.checkpoint-answer.ensures.machine
          (c.checkpoint-answer.ensures.world pair machine.journal is.keeps);
      acknowledged = c.checkpoint-answer.ensures.acknowledged;
      any_moment = c.checkpoint-answer.ensures.any_moment;
      cause = c.checkpoint-answer.ensures.cause;
      full = c.checkpoint-answer.ensures.full;
      first = c.checkpoint-answer.ensures.first;
      refusals = c.checkpoint-answer.ensures.refusals;
      machine = c.checkpoint-answer.ensures.machine;
    }))

pub returns-clause-later : goal.returns-clause-later
returns-clause-later g c =
    later_now _ _ _ (origin_of c.own-own.result.now) (ap origin_of c.own-own.ensures) c.in-Ok.guard
    c.deref_mut.result.now c.checkpoint-answer.new.self c.in-Ok.ensures.later
    c.deref_mut.ensures.value (search rules) c.checkpoint-answer.ensures.machine.grown

pub returns-in_default-clause-later : goal.returns-in_default-clause-later
returns-in_default-clause-later g c = later_none _ _ _ (search rules)
