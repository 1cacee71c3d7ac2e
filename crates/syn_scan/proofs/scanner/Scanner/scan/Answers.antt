use Rattle.std.proofs.Common.{◌≡◌, ap, sym, subst}
use Rattle.syn_model.specs.Dirty.{IsScanBy}
use Rattle.syn_scan.specs.Found.{Found, IsWhole, WasListedIn, WasNoDirectoryIn, scan_of}
use Rattle.syn_scan.specs.Found.{position_of}
use Rattle.syn_scan.specs.Asked.{Asked}
use Rattle.syn_scan.proofs.FoundLemmas.{scan_is}
use Rattle.syn_scan.proofs.scanner.Scanner.scan.Goals as goal

pub returns-clause-scan : goal.returns-clause-scan
returns-clause-scan c whole =
    let scan = c.self.inside.scan in
    let same : scan ≡ c.args.self.now.found = ap (λ (a : Asked). a.found) c.self.view_is in
    let P : Found → Type 0 =
    λ f. IsScanBy (WasListedIn f) (WasNoDirectoryIn f) (scan_of scan) (position_of scan) in
    subst P same (scan_is scan c.tree.ensures.found (subst IsWhole (sym same) whole))
