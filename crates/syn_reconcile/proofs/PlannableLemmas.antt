-- What the types of trees and marks keep is what a plan needs.
use Rattle.std.proofs.Common.{◌≡◌, true}
use Rattle.std.proofs.lemmas.Bool.{and_parts}
use Rattle.syn_model.proofs.FitsLemmas.{paths_depth, replica_depth}
use Rattle.syn_model.specs.Limits.{fits_archive, fits_paths, fits_replica}
use Rattle.syn_model.specs.Mark.{IsMarks}
use Rattle.syn_model.specs.Plan.{CanBePlanned}
use Rattle.syn_model.specs.Tree.{IsTree, Tree}

pub tree_plannable : (tree : Tree) → IsTree tree → fits_replica tree ≡ true → CanBePlanned tree
tree_plannable tree whole fits =
    record { parents = whole.part.parents; depth = replica_depth tree fits }

pub marks_plannable : (marks : Tree) → IsMarks marks → fits_archive marks ≡ true
    → CanBePlanned marks
marks_plannable marks are fits = record {
  parents = are.part.parents;
  depth = paths_depth marks (and_parts _ (fits_paths marks) fits).1;
}
