use Rattle.std.proofs.Common.{rules, ap}
use Rattle.syn_lock.specs.Locks.{origin_of}
use Rattle.syn_replica.specs.Growth.{IsGrown}
use Rattle.syn_replica.specs.Edits.{event_by}
use Rattle.syn_shared.specs.Edits.{Edits}
use Rattle.syn_tree.specs.Edits.{edit_of}
use Rattle.syn_shared.proofs.WorldLemmas.{edit_world}
use Rattle.syn_shared.proofs.StepLemmas.{step_by}
use Rattle.syn_shared.proofs.HoldLemmas.{held_now, later_now}
use Rattle.syn_shared.proofs.shared.SharedReplica.edit.Goals as goal

pub returns-clause-held : goal.returns-clause-held
returns-clause-held g c = (
  c.enter-guard.ensures.entered.0,
  held_now IsGrown _ (origin_of c.own-own.result.now) (ap origin_of c.own-own.ensures) _ _
      c.enter-guard.result c.deref_mut.result.now c.edit-made.new.self
      (Edits (event_by c.args.user c.args.edit) c.edit-made.result) c.enter-guard.ensures.entered.1
      c.deref_mut.ensures.value (search rules) (record {
        world =
            λ pair agent machine is. edit_world pair _ c.edit-made.new.self agent machine is
            c.args.user (edit_of c.args.edit) c.edit-made.result
            c.edit-made.ensures.acknowledged c.edit-made.ensures.cause
            c.edit-made.ensures.refused c.edit-made.ensures.machine
            (c.edit-made.ensures.world pair machine.journal is.keeps);
        step =
            λ history stands. step_by _ c.edit-made.new.self history
            (event_by c.args.user c.args.edit) _ stands c.edit-made.result
            (c.edit-made.ensures.acknowledged history stands)
            (c.edit-made.ensures.cause history stands)
            (c.edit-made.ensures.unchanged history stands) c.edit-made.ensures.machine;
        acknowledged = c.edit-made.ensures.acknowledged;
        any_moment = c.edit-made.ensures.any_moment;
        cause = c.edit-made.ensures.cause;
        refused = c.edit-made.ensures.refused;
        refusals = c.edit-made.ensures.refusals;
        unchanged = c.edit-made.ensures.unchanged;
        machine = c.edit-made.ensures.machine;
      }),
)

pub returns-clause-later : goal.returns-clause-later
returns-clause-later g c =
    later_now _ _ _ (origin_of c.own-own.result.now) (ap origin_of c.own-own.ensures)
    c.enter-guard.result c.deref_mut.result.now c.edit-made.new.self c.enter-guard.ensures.later
    c.deref_mut.ensures.value (search rules) c.edit-made.ensures.machine.grown
