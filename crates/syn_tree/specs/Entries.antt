-- What the entries of a directory keep.
use Rattle.std.specs.Prelude.{◌≡◌, Bool, true, not, ◌&&◌, ◌||◌, Some, nat_le, count_by}
use Rattle.std.specs.List.{AllByRecursion}
use Rattle.std.specs.FinMap.{find}
use Rattle.syn_model.specs.Path.{path_cmp, parent, IsPath}
use Rattle.syn_model.specs.Tree.{Pair, IsTree, is_directory_content}
use Rattle.syn_model.specs.Limits.{fits_content, fits_part, fits_paths}
use Rattle.syn_tree.specs.Contents.{IsLawful}
use Rattle.syn_placed.specs.Pairs.{Pairs, rooted, tree_with, AreRising, is_child}

-- they make a tree, within the limits of each file, each directory and each path
pub record AreEntries (pairs : Pairs) : Type 0 where
  pub rising : AreRising (rooted pairs)
  pub tree : IsTree (tree_with pairs)
  pub part : fits_part (tree_with pairs) ≡ true
  pub paths : fits_paths (tree_with pairs) ≡ true

-- the pair is a file, or a directory with no more entries than are allowed
abbrev pub has_few : Pairs → Pair → Bool
has_few pairs pair = not (is_directory_content (Some pair.1))
    || nat_le (count_by (λ other. is_child pair.0 other.0) pairs) 256

-- the pair stands in a directory, and keeps the limits of a file and a directory
abbrev pub stands_in : Pairs → Pair → Bool
stands_in pairs pair = is_directory_content (find path_cmp (parent pair.0) (rooted pairs))
    && fits_content pair.1 && has_few pairs pair

-- its path is lawful, and its bytes are bytes
abbrev pub IsLawfulPair : Pair → Type 0
IsLawfulPair pair = IsPath pair.0 × IsLawful pair.1

abbrev pub AreLawful : Pairs → Type 0
AreLawful pairs = AllByRecursion IsLawfulPair pairs
