use Rattle.std.proofs.Common.{rules, ap}
use Rattle.syn_lock.specs.Locks.{origin_of}
use Rattle.syn_replica.specs.Growth.{IsGrown}
use Rattle.syn_history.specs.Events.{token_of}
use Rattle.syn_tree.specs.Nodes.{part_of}
use Rattle.syn_shared.specs.Replacements.{Replaces}
use Rattle.syn_shared.proofs.WorldLemmas.{replace_world}
use Rattle.syn_shared.proofs.StepLemmas.{replaced_by}
use Rattle.syn_shared.proofs.HoldLemmas.{held_now, held_answer, later_now, later_none}
use Rattle.syn_shared.proofs.shared.SharedReplica.try_replace.Goals as goal

pub returns-clause-held : goal.returns-clause-held
returns-clause-held g c =
    held_answer c.answered.result _ _ _ c.answered.ensures (held_now IsGrown _
    (origin_of c.own-own.result.now) (ap origin_of c.own-own.ensures) _ _ c.in-Ok.guard
    c.deref_mut.result.now c.replace-answer.new.self (Replaces (token_of c.args.token)
    c.args.path.now c.args.since (part_of c.args.new) c.replace-answer.result)
    c.in-Ok.ensures.entered c.deref_mut.ensures.value (search rules) (record {
      world =
          λ pair agent machine is open_is. replace_world pair _ c.replace-answer.new.self agent
          machine is (token_of c.args.token) c.args.path.now c.args.since (part_of c.args.new)
          open_is c.replace-answer.result c.replace-answer.ensures.acknowledged
          c.replace-answer.ensures.cause c.replace-answer.ensures.refused
          c.replace-answer.ensures.machine
          (c.replace-answer.ensures.world pair machine.journal is.keeps);
      step =
          λ history stands done. replaced_by _ c.replace-answer.new.self history
          (token_of c.args.token) c.args.path.now c.args.since (part_of c.args.new) stands done
          c.replace-answer.result (c.replace-answer.ensures.acknowledged history stands)
          (c.replace-answer.ensures.cause history stands) c.replace-answer.ensures.machine;
      acknowledged = c.replace-answer.ensures.acknowledged;
      again = c.replace-answer.ensures.again;
      any_moment = c.replace-answer.ensures.any_moment;
      cause = c.replace-answer.ensures.cause;
      refused = c.replace-answer.ensures.refused;
      refusals = c.replace-answer.ensures.refusals;
      memory = c.replace-answer.ensures.memory;
      machine = c.replace-answer.ensures.machine;
    }))

pub returns-clause-later : goal.returns-clause-later
returns-clause-later g c =
    later_now _ _ _ (origin_of c.own-own.result.now) (ap origin_of c.own-own.ensures) c.in-Ok.guard
    c.deref_mut.result.now c.replace-answer.new.self c.in-Ok.ensures.later
    c.deref_mut.ensures.value (search rules) c.replace-answer.ensures.machine.grown

pub returns-in_default-clause-later : goal.returns-in_default-clause-later
returns-in_default-clause-later g c = later_none _ _ _ (search rules)
