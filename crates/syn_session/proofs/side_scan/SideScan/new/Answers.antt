use Rattle.std.proofs.Common.{sym, subst, []}
use Rattle.syn_scan.specs.Asked.{Asked}
use Rattle.syn_session.specs.Scanning.{IsFoundIn}
use Rattle.syn_session.proofs.ScanningLemmas.{nothing_is_found}
use Rattle.syn_session.proofs.side_scan.SideScan.new.Goals as goal

pub returns-clause-found : goal.returns-clause-found
returns-clause-found c side =
    subst (λ (a : Asked). IsFoundIn a.found side []) (sym c.in_ok-scanner.ensures.ok)
    (nothing_is_found side)
