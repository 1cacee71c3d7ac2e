use Rattle.std.proofs.Common.{◌≡◌, []}
use Rattle.syn_folder.proofs.system.reading.note_changes.Given as goal

abbrev pub invariant-loop-index : goal.invariant-loop-index
invariant-loop-index l = l.changed.items ≡ [] → l.initial.changed.items ≡ []
