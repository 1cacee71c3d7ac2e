use Rattle.std.proofs.Common.{◌≢◌, take}
use Rattle.std.specs.List.{All}
use Rattle.syn_folder.specs.declared.system.looks.Seen.{Seen}
use Rattle.syn_folder.specs.declared.system.looks.Shown.TheVariants.{Unread}
use Rattle.syn_folder.proofs.system.walking.has_unread.Given as goal

abbrev pub invariant-loop-seen : goal.invariant-loop-seen
invariant-loop-seen l =
    All (λ (seen : Seen). seen.shown ≢ Unread) (take l.seen-index l.looks)
