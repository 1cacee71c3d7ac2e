-- Marks that are looked at one by one.
use Rattle.std.specs.Prelude.{Bool, List, map}
use Rattle.std.specs.FinMap.{find}
use Rattle.syn_model.specs.Path.{Name, path_cmp, parent}
use Rattle.syn_model.specs.Tree.{Pair, Content, is_directory_content}
use Rattle.syn_model.specs.Mark.{mark_of}
use Rattle.syn_placed.specs.Pairs.{Pairs, rooted}

-- the pair stands in a directory, among pairs below a root directory
abbrev pub stands_in : Pairs → Pair → Bool
stands_in below pair = is_directory_content (find path_cmp (parent pair.0) (rooted below))

-- each content by its mark
abbrev pub marked : Pairs → Pairs
marked pairs = map (λ pair. (pair.0, mark_of pair.1)) pairs

abbrev pub marks_of : List (Name × Content) → List (Name × Content)
marks_of children = map (λ child. (child.0, mark_of child.1)) children
