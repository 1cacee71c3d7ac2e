use Rattle.syn_simulate.proofs.StartLemmas.{archive_can, archive_outside}
use Rattle.syn_simulate.proofs.start.formatted_archive.Goals as goal

pub returns-in-Ok-clause-starts : goal.returns-in-Ok-clause-starts
returns-in-Ok-clause-starts g c =
    archive_can g.D.Disk (g.D.Disk.arms c.args.disk) c.in-Ok.archive c.into_disk.result c.requires
    c.in-Ok.ensures.device.arms c.in-Ok.ensures.pair c.in-Ok.ensures.formatted c.into_disk.ensures

pub returns-clause-refused : goal.returns-clause-refused
returns-clause-refused g c =
    archive_outside c.refusal.result c.in-Err.error c.in-Err.ensures.refusals c.refusal.ensures
