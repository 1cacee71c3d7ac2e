use Rattle.std.proofs.Common.{◌≡◌, ◌++◌, true}
use Rattle.std.specs.List.{list_all}
use Rattle.syn_model.specs.Limits.{fits_path}
use Rattle.syn_placed.specs.Pairs.{under}
use Rattle.syn_mark.proofs.copies.push_under.Given as goal

abbrev pub invariant-loop-entry : goal.invariant-loop-entry
invariant-loop-entry g l = record {
  whole : l.fn.source.items ≡ l.yielded ++ l.entry-iterator.rest.items;
  pushed : l.list.items ≡ l.fn.list.items ++ under l.at l.yielded;
  paths : list_all (λ pair. fits_path pair.0) (under l.at l.yielded) ≡ true;
}
