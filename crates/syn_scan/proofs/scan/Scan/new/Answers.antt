use Rattle.std.proofs.Common.{◌≡◌}
use Rattle.syn_scan.specs.Found.{Found}
use Rattle.syn_scan.proofs.FoundLemmas.{nothing_is_found}
use Rattle.syn_scan.specs.Asked.{nothing_found}
use Rattle.syn_scan.proofs.scan.Scan.new.Goals as goal

pub invariant_of-result : goal.invariant_of-result
invariant_of-result c =
    let found : Found =
    record { marks = c.in_ok-marks.marks; listed = c.new.result; not_dirs = c.new-2.result } in
    let same : found ≡ nothing_found = λ i. record {
      marks = c.in_ok-marks.ensures i;
      listed = c.new.ensures i;
      not_dirs = c.new-2.ensures i;
    } in
    nothing_is_found found same c.is_marks.ensures.marks c.is_marks.ensures.fits
