use Rattle.std.proofs.Common.{subst, sym}
use Rattle.syn_simulate.specs.Lines.{said}
use Rattle.syn_simulate.specs.Players.{PlaysTo}
use Rattle.syn_simulate.proofs.player.Player.play.Goals as goal

pub returns-in-Edit : goal.returns-in-Edit
returns-in-Edit g c state is =
    subst (λ l. PlaysTo (said l) state c.step.result) (sym c.in-Edit.is)
    (c.step.ensures.plays state is)

pub returns-in-Start : goal.returns-in-Start
returns-in-Start g c state is =
    subst (λ l. PlaysTo (said l) state c.step-in-Start.result) (sym c.in-Start.is)
    (c.step-in-Start.ensures.plays state is)

pub returns-in-Tick : goal.returns-in-Tick
returns-in-Tick g c state is =
    subst (λ l. PlaysTo (said l) state c.step-in-Tick.result) (sym c.in-Tick.is)
    (c.step-in-Tick.ensures.plays state is)

pub returns-in-Deliver : goal.returns-in-Deliver
returns-in-Deliver g c state is =
    subst (λ l. PlaysTo (said l) state c.deliver_all.result) (sym c.in-Deliver.is)
    (c.deliver_all.ensures state is)

pub returns-in-Drain : goal.returns-in-Drain
returns-in-Drain g c state is =
    subst (λ l. PlaysTo (said l) state c.drain.result) (sym c.in-Drain.is)
    (c.drain.ensures state is)

pub returns-in-Checkpoint : goal.returns-in-Checkpoint
returns-in-Checkpoint g c state is =
    subst (λ l. PlaysTo (said l) state c.step-in-Checkpoint.result) (sym c.in-Checkpoint.is)
    (c.step-in-Checkpoint.ensures.plays state is)

pub returns-in-Fail : goal.returns-in-Fail
returns-in-Fail g c state is =
    subst (λ l. PlaysTo (said l) state c.step-in-Fail.result) (sym c.in-Fail.is)
    (c.step-in-Fail.ensures.plays state is)

pub returns-in-Stop : goal.returns-in-Stop
returns-in-Stop g c state is =
    subst (λ l. PlaysTo (said l) state c.step-in-Stop.result) (sym c.in-Stop.is)
    (c.step-in-Stop.ensures.plays state is)

pub returns-in-Open : goal.returns-in-Open
returns-in-Open g c state is =
    subst (λ l. PlaysTo (said l) state c.step-in-Open.result) (sym c.in-Open.is)
    (c.step-in-Open.ensures.plays state is)

pub returns-in-Reopen : goal.returns-in-Reopen
returns-in-Reopen g c state is =
    subst (λ l. PlaysTo (said l) state c.step-in-Reopen.result) (sym c.in-Reopen.is)
    (c.step-in-Reopen.ensures.plays state is)
