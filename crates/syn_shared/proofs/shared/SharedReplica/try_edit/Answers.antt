use Rattle.std.proofs.Common.{rules, ap}
use Rattle.syn_lock.specs.Locks.{origin_of}
use Rattle.syn_replica.specs.Growth.{IsGrown}
use Rattle.syn_replica.specs.Edits.{event_by}
use Rattle.syn_shared.specs.Edits.{Edits}
use Rattle.syn_tree.specs.Edits.{edit_of}
use Rattle.syn_shared.proofs.WorldLemmas.{edit_world}
use Rattle.syn_shared.proofs.StepLemmas.{step_by}
use Rattle.syn_shared.proofs.HoldLemmas.{held_now, held_answer, later_now, later_none}
use Rattle.syn_shared.proofs.shared.SharedReplica.try_edit.Goals as goal

pub returns-clause-held : goal.returns-clause-held
returns-clause-held g c =
    held_answer c.answered.result _ _ _ c.answered.ensures
    (held_now IsGrown _ (origin_of c.own-own.result.now) (ap origin_of c.own-own.ensures) _ _
    c.in-Ok.guard c.deref_mut.result.now c.edit-answer.new.self
    (Edits (event_by c.args.user c.args.edit) c.edit-answer.result) c.in-Ok.ensures.entered
    c.deref_mut.ensures.value (search rules) (record {
      world =
          λ pair agent machine is. edit_world pair _ c.edit-answer.new.self agent machine is
          c.args.user (edit_of c.args.edit) c.edit-answer.result
          c.edit-answer.ensures.acknowledged c.edit-answer.ensures.cause
          c.edit-answer.ensures.refused c.edit-answer.ensures.machine
          (c.edit-answer.ensures.world pair machine.journal is.keeps);
      step =
          λ history stands. step_by _ c.edit-answer.new.self history
          (event_by c.args.user c.args.edit) _ stands c.edit-answer.result
          (c.edit-answer.ensures.acknowledged history stands)
          (c.edit-answer.ensures.cause history stands)
          (c.edit-answer.ensures.unchanged history stands) c.edit-answer.ensures.machine;
      acknowledged = c.edit-answer.ensures.acknowledged;
      any_moment = c.edit-answer.ensures.any_moment;
      cause = c.edit-answer.ensures.cause;
      refused = c.edit-answer.ensures.refused;
      refusals = c.edit-answer.ensures.refusals;
      unchanged = c.edit-answer.ensures.unchanged;
      machine = c.edit-answer.ensures.machine;
    }))

pub returns-clause-later : goal.returns-clause-later
returns-clause-later g c =
    later_now _ _ _ (origin_of c.own-own.result.now) (ap origin_of c.own-own.ensures) c.in-Ok.guard
    c.deref_mut.result.now c.edit-answer.new.self c.in-Ok.ensures.later c.deref_mut.ensures.value
    (search rules) c.edit-answer.ensures.machine.grown

pub returns-in_default-clause-later : goal.returns-in_default-clause-later
returns-in_default-clause-later g c = later_none _ _ _ (search rules)
