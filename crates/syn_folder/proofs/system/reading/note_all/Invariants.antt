use Rattle.std.proofs.Common.{◌≡◌, []}
use Rattle.syn_folder.proofs.system.reading.note_all.Given as goal

abbrev pub invariant-loop-path : goal.invariant-loop-path
invariant-loop-path l = l.changed.items ≡ [] → l.fn.changed.items ≡ []
