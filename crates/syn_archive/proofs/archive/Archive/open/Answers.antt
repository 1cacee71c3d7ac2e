use Rattle.std.proofs.Common.{◌≡◌, ◌⊎◌}
use Rattle.syn_model.proofs.ExitLemmas.{if_err_of_exit, match_of_exit}
use Rattle.syn_archive.specs.declared.error.ArchiveError.TheVariants.{Device, Memory}
use Rattle.syn_archive.proofs.MachineLemmas.{starts}
use Rattle.syn_archive.proofs.MeaningLemmas.{lawful_refusal, open_refusal, stands_for_each}
use Rattle.syn_archive.proofs.archive.Archive.open.Goals as goal

pub returns-clause-each : goal.returns-clause-each
returns-clause-each g c number kept fits stands =
    stands_for_each _ (g.D.Disk.seen c.args.disk) number kept c.in_ok-journaled.ensures.opened fits
    stands

pub returns-in_err-journaled-clause-lawful : goal.returns-in_err-journaled-clause-lawful
returns-in_err-journaled-clause-lawful g c number kept fits stands is =
    let refused = c.in_err-journaled.field-0.0 in
    let seen = g.D.Disk.seen c.args.disk in
    if_err_of_exit c.from_residual.result refused
    (λ refused. (refused.0 ≡ Device) ⊎ (refused.0 ≡ Memory)) c.from_residual.ensures.1
    (lawful_refusal c.opening_laws.ensures.one refused.0 c.args.pair seen number kept fits stands is
    (open_refusal refused.0 c.args.pair seen c.in_err-journaled.ensures.refused))

pub returns-clause-world : goal.returns-clause-world
returns-clause-world g c number machine wanted fits rests =
    starts (record { journaled = c.in_ok-journaled.journaled }) number machine
    (c.in_ok-journaled.ensures.world number machine wanted fits rests)

pub returns-in_err-journaled-clause-world : goal.returns-in_err-journaled-clause-world
returns-in_err-journaled-clause-world g c number machine wanted fits rests =
    match_of_exit c.from_residual.result c.in_err-journaled.field-0.0 _ _ c.from_residual.ensures.1
    (c.in_err-journaled.ensures.world number machine wanted fits rests)
