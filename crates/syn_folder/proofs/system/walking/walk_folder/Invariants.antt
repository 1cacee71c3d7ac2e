use Rattle.std.proofs.Common.{◌≡◌}
use Rattle.syn_folder.specs.Looks.{IsEntered, IsFollowed}
use Rattle.syn_folder.proofs.system.walking.walk_folder.Given as goal

abbrev pub invariant-loop-looked : goal.invariant-loop-looked
invariant-loop-looked g l = record {
  at : l.walk.at ≡ l.fn.at;
  entered : IsEntered l.walk.looks.items;
  followed : IsFollowed l.fn.at l.walk.looks.items l.walk.pending.items;
}
