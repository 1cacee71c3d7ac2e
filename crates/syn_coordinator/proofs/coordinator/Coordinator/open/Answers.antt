use Rattle.std.proofs.Common.{◌<◌, ◌^◌, ◌∙◌, ap, arith, refl}
use Rattle.std.specs.Prelude.{option_map}
use Rattle.syn_archive.specs.Archive.{disk_of}
use Rattle.syn_archive.specs.Refusals.{refusal_of}
use Rattle.syn_coordinator.proofs.DownLemmas.{open_not, open_ok}
use Rattle.syn_image.specs.Archives.{kept_of}
use Rattle.syn_coordinator.proofs.coordinator.Coordinator.open.Goals as goal

pub returns-in-Ok-clause-opens : goal.returns-in-Ok-clause-opens
returns-in-Ok-clause-opens g c machine rests =
    let fits : c.args.pair < 2 ^ 64 = omega arith in
    open_ok g.D.Disk.arms g.D.Disk.may_leave c.args.pair c.args.disk c.args.tried machine rests
    c.in-Ok.archive c.new-coordinator.result (option_map kept_of c.recovered_record-kept.result)
    (c.in-Ok.ensures.world c.args.pair machine.journal refl fits rests.rests)
    c.recovered_record-kept.ensures c.new-coordinator.ensures.stands

pub returns-in-Ok-clause-failures : goal.returns-in-Ok-clause-failures
returns-in-Ok-clause-failures g c =
    ap (λ archive. g.D.Disk.failures (disk_of archive)) c.new-coordinator.ensures.archive
    ∙ c.in-Ok.ensures.device.failures

pub returns-in-Err-clause-rests : goal.returns-in-Err-clause-rests
returns-in-Err-clause-rests g c machine rests =
    let fits : c.args.pair < 2 ^ 64 = omega arith in
    open_not g.D.Disk.arms g.D.Disk.may_leave c.args.pair c.args.disk c.args.tried machine rests
    c.in-Err.disk (refusal_of c.in-Err.error)
    (c.in-Err.ensures.world c.args.pair machine.journal refl fits rests.rests)
