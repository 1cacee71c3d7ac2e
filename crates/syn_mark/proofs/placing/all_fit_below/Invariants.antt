use Rattle.std.proofs.Common.{◌≡◌, true, take}
use Rattle.std.specs.List.{list_all}
use Rattle.syn_model.specs.Limits.{fits_path}
use Rattle.syn_placed.specs.Pairs.{under}
use Rattle.syn_mark.proofs.placing.all_fit_below.Given as goal

abbrev pub invariant-loop-entry : goal.invariant-loop-entry
invariant-loop-entry l =
    list_all (λ pair. fits_path pair.0) (under l.at (take l.entry-index l.list)) ≡ true
