use Rattle.std.proofs.Common.{◌≡◌, ◌++◌, take}
use Rattle.syn_folder.proofs.system.as_read.joined.Given as goal

abbrev pub invariant-loop-name : goal.invariant-loop-name
invariant-loop-name l = l.whole ≡ l.path ++ take l.name-index l.names
