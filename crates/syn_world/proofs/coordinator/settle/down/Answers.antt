use Rattle.std.proofs.Common.{◌∙◌, ap, subst, sym}
use Rattle.syn_archive.specs.Archive.{disk_of}
use Rattle.syn_disk.specs.Arms.{is_stopped}
use Rattle.syn_journal.specs.Calls.{armed_at}
use Rattle.syn_coordinator.specs.Tries.{Tries}
use Rattle.syn_world.proofs.coordinator.settle.down.Goals as goal

pub returns-clause-stops : goal.returns-clause-stops
returns-clause-stops g c pair machine stops = record {
  rests = record {
    down = stops.down;
    unarmed_is = stops.unarmed_is;
    armed = ap armed_at c.after_stop.ensures.arms;
    goes = ap is_stopped c.after_stop.ensures.arms;
    leaves = λ bytes may. stops.leaves bytes (subst (λ d. g.D.Disk.may_leave d bytes)
        (c.into_disk-disk.ensures ∙ ap disk_of c.into_parts-archive.ensures.archive)
        (c.after_stop.ensures.left bytes may));
  };
  idle = stops.idle;
  tries = subst (λ t. Tries t machine.journal) (sym c.into_parts-archive.ensures.tried)
      stops.tries;
}
