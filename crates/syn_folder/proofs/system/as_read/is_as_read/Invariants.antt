use Rattle.std.proofs.Common.{All, take}
use Rattle.syn_folder.specs.Places.{IsOneAsRead}
use Rattle.syn_folder.proofs.system.as_read.is_as_read.Given as goal

abbrev pub invariant-loop-one : goal.invariant-loop-one
invariant-loop-one l = All (IsOneAsRead l.was.tree.now l.path) (take l.one-index l.seen)
