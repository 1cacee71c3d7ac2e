use Rattle.std.proofs.Common.{◌∙◌, ap, subst, sym}
use Rattle.syn_disk.specs.Arms.{is_stopped}
use Rattle.syn_machine.specs.Machine.{Arms}
use Rattle.syn_machine.specs.MachineSteps.{with_device}
use Rattle.syn_machine.specs.SideMachine.{side_kind}
use Rattle.syn_world.specs.Sides.{RunsAs}
use Rattle.syn_journal.specs.Calls.{armed_at}
use Rattle.syn_world.proofs.side.UpSide.fail.Goals as goal

pub returns-clause-runs : goal.returns-clause-runs
returns-clause-runs g c pair machine runs =
    subst (λ a. RunsAs pair c.arm.result
    (with_device (side_kind pair) machine machine.journal.status a 0))
    (ap armed_at c.arm.ensures.arms
    ∙ ap (λ (a : Arms). record a { fail = c.args.call }) (sym runs.is.keeps.armed))
    (c.arm.ensures.runs (ap is_stopped c.arm.ensures.arms ∙ runs.is.keeps.runs) pair machine runs)
