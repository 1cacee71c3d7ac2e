use Rattle.std.proofs.Common.{◌≡◌, ◌≢◌, [], take}
use Rattle.std.specs.List.{All}
use Rattle.syn_folder.specs.declared.system.looks.Seen.{Seen}
use Rattle.syn_folder.specs.declared.system.looks.Shown.TheVariants.{Changed}
use Rattle.syn_folder.proofs.system.reading.changed_in.Given as goal

abbrev pub invariant-loop-seen : goal.invariant-loop-seen
invariant-loop-seen l = l.changed.items ≡ []
    → All (λ (seen : Seen). seen.shown ≢ Changed) (take l.seen-index l.looks)
