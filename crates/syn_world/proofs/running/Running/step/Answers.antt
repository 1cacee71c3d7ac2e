use Rattle.std.proofs.Common.{Ok, refl, subst, sym}
use Rattle.syn_runs.specs.World.{Edits}
use Rattle.syn_path.specs.Sides.{which_of}
use Rattle.syn_world.specs.Failures.{failures_in}
use Rattle.syn_world.specs.Runs.{Attempts, no_memory, steps}
use Rattle.syn_world.specs.Steps.{step_of}
use Rattle.syn_world.proofs.FailureLemmas.{counts_still}
use Rattle.syn_world.proofs.RunLemmas.{stays_so}
use Rattle.syn_world.proofs.running.Running.step.Goals as goal

pub returns-in-Ok : goal.returns-in-Ok
returns-in-Ok g c model is =
    subst (λ s. Attempts model (failures_in c.args.self) (step_of s) c.edit.result)
    (sym c.in-Edit.is)
    (subst (λ e. Attempts model (failures_in c.args.self)
    (Edits (which_of c.in-Edit.side) c.in-Edit.user e) c.edit.result)
    c.in-Ok.ensures (steps (c.edit.ensures model is)))

pub returns-in-Deliver : goal.returns-in-Deliver
returns-in-Deliver g c model is =
    subst (λ s. Attempts model (failures_in c.args.self) (step_of s) c.deliver.result)
    (sym c.in-Deliver.is)
    (c.deliver.ensures model is)

pub returns-in-Fail : goal.returns-in-Fail
returns-in-Fail g c model is =
    subst (λ s. Attempts model (failures_in c.args.self) (step_of s) (Ok c.fail.result))
    (sym c.in-Fail.is)
    (stays_so model (failures_in c.args.self) _ _ (c.fail.ensures model is))

pub returns-in-Stop : goal.returns-in-Stop
returns-in-Stop g c model is =
    subst (λ s. Attempts model (failures_in c.args.self) (step_of s) (Ok c.stop.result))
    (sym c.in-Stop.is)
    (stays_so model (failures_in c.args.self) _ _ (c.stop.ensures model is))

pub returns-in-Start : goal.returns-in-Start
returns-in-Start g c model is =
    subst (λ s. Attempts model (failures_in c.args.self) (step_of s) c.start.result)
    (sym c.in-Start.is)
    (steps (c.start.ensures model is))

pub returns-in-Err : goal.returns-in-Err
returns-in-Err g c model is =
    no_memory c.args.self refl is.machines (counts_still model (failures_in c.args.self))

pub returns-in-Tick : goal.returns-in-Tick
returns-in-Tick g c model is =
    subst (λ s. Attempts model (failures_in c.args.self) (step_of s) c.tick.result)
    (sym c.in-Tick.is) (steps (c.tick.ensures model is))

pub returns-in-Checkpoint : goal.returns-in-Checkpoint
returns-in-Checkpoint g c model is =
    subst (λ s. Attempts model (failures_in c.args.self) (step_of s) c.checkpoint.result)
    (sym c.in-Checkpoint.is) (steps (c.checkpoint.ensures model is))

pub returns-in-Open : goal.returns-in-Open
returns-in-Open g c model is =
    subst (λ s. Attempts model (failures_in c.args.self) (step_of s) c.open_machine.result)
    (sym c.in-Open.is) (steps (c.open_machine.ensures model is))

pub returns-in-Reopen : goal.returns-in-Reopen
returns-in-Reopen g c model is =
    subst (λ s. Attempts model (failures_in c.args.self) (step_of s) c.reopen.result)
    (sym c.in-Reopen.is) (steps (c.reopen.ensures model is))
