use Rattle.std.proofs.Common.{◌∙◌, refl}
use Rattle.syn_machine.specs.Machine.{Down, unarmed}
use Rattle.syn_machine.specs.MachineSteps.{with_device}
use Rattle.syn_machine.specs.SideMachine.{side_kind}
use Rattle.syn_journal.proofs.DiskLemmas.{may_be_still}
use Rattle.syn_replica.specs.Keepings.{of_side}
use Rattle.syn_world.proofs.SideLemmas.{position_is}
use Rattle.syn_world.proofs.side.UpSide.stop.Goals as goal

pub returns-clause-rests : goal.returns-clause-rests
returns-clause-rests g c pair machine runs = c.stop_at.ensures.rests pair
    (with_device (side_kind pair) machine Down unarmed 0)
    (record {
      down = refl;
      unarmed_is = refl;
      unstaged = refl;
      position_is = c.position-position.ensures ∙ position_is pair c.args.self machine runs;
      tries = runs.tries;
      leaves = λ bytes may.
          may_be_still (of_side pair) machine.journal Down unarmed 0 bytes
          (runs.is.keeps.left bytes may);
    })
