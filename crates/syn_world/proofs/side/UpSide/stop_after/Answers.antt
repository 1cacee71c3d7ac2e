use Rattle.std.proofs.Common.{◌≡◌, ◌≢◌, ◌∙◌, ℕ, false, ap, arith, subst, sym, Some}
use Rattle.std.proofs.lemmas.Bool.Decides.{nat_tests}
use Rattle.std.specs.Prelude.{◌==◌, if◌then◌else◌}
use Rattle.syn_disk.specs.Arms.{is_stopped}
use Rattle.syn_machine.specs.Machine.{Arms}
use Rattle.syn_machine.specs.MachineSteps.{with_device}
use Rattle.syn_machine.specs.SideMachine.{side_kind}
use Rattle.syn_world.specs.Sides.{RunsAs}
use Rattle.syn_journal.specs.Calls.{armed_at}
use Rattle.syn_replica.specs.Replica.{disk_of}
use Rattle.syn_world.proofs.side.UpSide.stop_after.Goals as goal

not_zero : (n : ℕ) → n ≢ 0 → (n == 0) ≡ false
not_zero n other = grind (arith, nat_tests)

pub returns-clause-runs : goal.returns-clause-runs
returns-clause-runs g c pair machine runs =
    let was = g.D.Disk.arms (disk_of c.args.self.replica) in
    let now = c.arm.ensures.arms
    ∙ ap (λ b. if b then was else record was { stop = Some c.args.calls }) runs.is.keeps.runs in
    subst (λ a. RunsAs pair c.arm.result
    (with_device (side_kind pair) machine machine.journal.status a 0))
    (ap armed_at now
    ∙ ap (λ (a : Arms). record a { stop = c.args.calls }) (sym runs.is.keeps.armed))
    (c.arm.ensures.runs (ap is_stopped now ∙ not_zero c.args.calls c.requires) pair machine runs)
