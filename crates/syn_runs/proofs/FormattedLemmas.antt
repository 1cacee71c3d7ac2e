-- An archive without marks makes a pair of any two sides, and so do three formatted disks.
use Rattle.std.proofs.Common.{[], ◌∙◌, arith}
use Rattle.syn_model.specs.Tree.{empty_directory}
use Rattle.syn_model.specs.History.{History, tree_of}
use Rattle.syn_model.specs.Archive.{BothHeld}
use Rattle.syn_model.proofs.HistoryLemmas.{empty-is_tree}
use Rattle.syn_model.proofs.MarkLemmas.{marked_directory}
use Rattle.syn_runs.specs.Headline.{formatted, IsPair, UnmarkedIsPair}

-- each side held the root of an archive without marks, before its first event
root_held : (left right : History) → BothHeld left right empty_directory
root_held left right path content e =
    ((0, omega arith, marked_directory path ∙ e), (0, omega arith, marked_directory path ∙ e))

pub unmarked_is_pair : UnmarkedIsPair
unfolding tree_of
unmarked_is_pair left right session on_left on_right above_left above_right = record {
  left = on_left;
  right = on_right;
  marks = empty-is_tree;
  held = root_held left right;
  left_begun = above_left;
  right_begun = above_right;
}

-- three formatted disks are a pair
pub formatted_is_pair : IsPair formatted
formatted_is_pair = unmarked_is_pair [] [] 0 tt tt (omega arith) (omega arith)
