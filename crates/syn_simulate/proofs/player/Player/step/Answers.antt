use Rattle.std.proofs.Common.{◌∙◌, ap, length}
use Rattle.syn_world.specs.Failures.{failures_in}
use Rattle.syn_world.specs.Steps.{step_of}
use Rattle.syn_simulate.proofs.PlayerLemmas.{has_machines, sent_count, step_cut}
use Rattle.syn_simulate.proofs.PlayerLemmas.{step_made, step_none}
use Rattle.syn_simulate.proofs.player.Player.step.Goals as goal

pub returns-in-Ok-clause-plays : goal.returns-in-Ok-clause-plays
returns-in-Ok-clause-plays g c state is =
    step_made state (failures_in is.world.running) (step_of c.args.step) c.args.self
    c.step.new.self c.in-Some-note_step.delivered c.in-Some.turns is
    (c.in-Ok.ensures.steps state.world is.world)
    (c.in-Some-note_step.ensures state (ap (λ l. length l) c.sent.ensures
    ∙ sent_count c.args.self.world state.world is.world) is.flags)

pub returns-clause-plays : goal.returns-clause-plays
returns-clause-plays g c state is =
    step_cut state (failures_in is.world.running) (step_of c.args.step) c.step.new.self
    c.into_disks-in-Err.result
    (c.in-Err.ensures.steps state.world is.world) c.into_disks-in-Err.ensures.left

pub returns-in_default-clause-plays : goal.returns-in_default-clause-plays
returns-in_default-clause-plays g c state is =
    step_none state (step_of c.args.step) c.into_disks.result
    (c.into_disks.ensures.left state.world (has_machines c.args.self.world state.world is.world))

pub returns-in_default-note_step-clause-plays : goal.returns-in_default-note_step-clause-plays
returns-in_default-note_step-clause-plays g c state is =
    step_none state (step_of c.args.step) c.into_disks-in_default-note_step.result
    (c.into_disks-in_default-note_step.ensures.left state.world
    (has_machines c.args.self.world state.world is.world))
