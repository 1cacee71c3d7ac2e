use Rattle.syn_daemon.proofs.folder_side.keep_folder.Given as goal
use Rattle.syn_shared.specs.Shared.{IsFor}

abbrev pub invariant-loop : goal.invariant-loop
invariant-loop g l = IsFor l.shared l.pass
