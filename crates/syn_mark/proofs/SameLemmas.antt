-- The part at a path is told by the entries at and below it.
use Rattle.std.proofs.Common.{◌≡◌, sym, ap, ◌∙◌}
use Rattle.std.specs.FinMap.{entries}
use Rattle.syn_model.specs.Path.{Path}
use Rattle.syn_model.specs.Tree.{Tree, subtree}
use Rattle.syn_placed.specs.Pairs.{within, under}
use Rattle.syn_placed.proofs.TreeLemmas.{part-under, within-taken, entries-subtree}
use Rattle.syn_mark.specs.Marks.{marks_with}

within_is : (t : Tree) (at : Path) → within at (entries t) ≡ under at (entries (subtree t at))
within_is t at = within-taken at (entries t) ∙ ap (under at) (sym (entries-subtree t at))

part_is : (t : Tree) (at : Path) → subtree t at ≡ subtree (marks_with (within at (entries t))) at
part_is t at =
    sym (part-under at (subtree t at))
    ∙ ap (λ es. subtree (marks_with es) at) (sym (within_is t at))

pub same_part : (t u : Tree) (at : Path) → within at (entries t) ≡ within at (entries u) →
    subtree t at ≡ subtree u at
same_part t u at e = part_is t at ∙ (ap (λ es. subtree (marks_with es) at) e ∙ sym (part_is u at))

pub same_within : (t u : Tree) (at : Path) → subtree t at ≡ subtree u at →
    within at (entries t) ≡ within at (entries u)
same_within t u at e = within_is t at ∙ (ap (λ w. under at (entries w)) e ∙ sym (within_is u at))
