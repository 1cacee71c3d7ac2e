use Rattle.syn_recon.proofs.ScanLemmas.{IsScannedTimes}
use Rattle.syn_recon.proofs.tree_scan.scan_tree.Given as goal

abbrev pub invariant-loop : goal.invariant-loop
invariant-loop l = IsScannedTimes l.tree l.scanner l.counter
