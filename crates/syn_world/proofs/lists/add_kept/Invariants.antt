use Rattle.std.proofs.Common.{◌≡◌, ◌++◌, map}
use Rattle.syn_world.specs.Worlds.{told_in, told_kept}
use Rattle.syn_world.proofs.lists.add_kept.Given as goal

abbrev pub invariant-loop-one : goal.invariant-loop-one
invariant-loop-one l = record {
  whole : l.fn.kept.items ≡ l.yielded ++ l.one-iterator.rest.items;
  pushed : map told_in l.acknowledged.items
      ≡ map told_in l.fn.acknowledged.items ++ map told_kept l.yielded;
}
