use Rattle.std.proofs.Common.{◌∙◌, subst, sym}
use Rattle.syn_model.proofs.ExitLemmas.{exit_is}
use Rattle.syn_coordinator.specs.inner.Recording.{MakesRoomNow, made_none}
use Rattle.syn_coordinator.proofs.DueLemmas.{goes_on_after, stopped_after}
use Rattle.syn_coordinator.proofs.due.make_room.Goals as goal

pub returns-in_err-checkpoint-clause-room : goal.returns-in_err-checkpoint-clause-room
returns-in_err-checkpoint-clause-room g c pair machine is up =
    subst (MakesRoomNow c.checkpoint.new.archive pair machine)
    (sym (exit_is c.from_residual.result _ c.from_residual.ensures.1))
    (made_none _ (c.in_err-checkpoint.ensures.made pair machine is up))

pub returns-then-is_cut-clause-room : goal.returns-then-is_cut-clause-room
returns-then-is_cut-clause-room g c pair machine is up =
    made_none _ (stopped_after c.checkpoint.new.archive pair machine
    (sym c.is_cut.ensures ∙ c.if-is_cut.true) (c.in_ok-checkpoint.ensures.made pair machine is up))

pub returns-clause-room : goal.returns-clause-room
returns-clause-room g c pair machine is up =
    goes_on_after c.checkpoint.new.archive pair machine (sym c.is_cut.ensures ∙ c.if-is_cut.false)
    (c.in_ok-checkpoint.ensures.made pair machine is up)
