use Rattle.std.proofs.Common.{◌≡◌, [], take}
use Rattle.std.specs.List.{All}
use Rattle.syn_folder.specs.Looks.{IsSeenAgain}
use Rattle.syn_folder.specs.declared.system.looks.Seen.{Seen}
use Rattle.syn_folder.proofs.system.reading.note_gone.Given as goal

abbrev pub invariant-loop-index : goal.invariant-loop-index
invariant-loop-index l = record {
  kept : l.changed.items ≡ [] → l.fn.changed.items ≡ [];
  again : l.changed.items ≡ []
      → All (λ (seen : Seen). IsSeenAgain l.second seen) (take l.index l.first);
}
