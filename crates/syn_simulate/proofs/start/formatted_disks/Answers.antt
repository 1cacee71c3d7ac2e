use Rattle.syn_world.specs.declared.world.Disks.{Disks}
use Rattle.syn_simulate.proofs.StartLemmas.{stand_for}
use Rattle.syn_simulate.proofs.start.formatted_disks.Goals as goal

pub returns-clause-stand : goal.returns-clause-stand
returns-clause-stand g c =
    let disks : Disks g.row.D.Denot = record {
      left = c.in_ok-left.left;
      right = c.in_ok-right.right;
      archive = c.in_ok-archive.archive;
    } in
    stand_for g.D.Disk disks c.in_ok-left.ensures.starts c.in_ok-right.ensures.starts
    c.in_ok-archive.ensures.starts c.run_laws.ensures.formatted
