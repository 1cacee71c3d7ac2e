-- The lines that are printed of a plan.
use Rattle.std.specs.Prelude.{ℕ, List, ◌++◌, codes, flat_map, Option, Some, None}
use Rattle.std.specs.Fmt.{decimal}
use Rattle.std.specs.FinMap.{get}
use Rattle.hex.specs.Hex.{encode_lower}
use Rattle.syn_model.specs.Decision.{Item, ToLeft, ToRight, MarkSame, MarkDir, Conflict, path_of}
use Rattle.syn_model.specs.Tree.{Tree, Content, Directory, File}
use Rattle.syn_path.specs.Paths.{printed_form}
use Rattle.syn_recon.specs.Items.{item_of}
use Rattle.syn_tree.specs.Modes.{mode_digits}
use Rattle.syn_recon.specs.declared.item.Item.{Item as Planned}

-- what is done with an item
abbrev pub word_of : Item → List ℕ
word_of (ToLeft path) = codes "to left"
word_of (ToRight path) = codes "to right"
word_of (MarkSame path) = codes "mark"
word_of (MarkDir path) = codes "mark"
word_of (Conflict path) = codes "conflict"

-- what stands at a path by its mark: nothing, a directory, or a file by its mode and its digest
abbrev pub mark_shown : Option Content → List ℕ
mark_shown None = codes "-"
mark_shown (Some Directory) = codes "d"
mark_shown (Some (File digest)) = codes "f " ++ (mode_digits digest.mode ++ (codes " "
    ++ encode_lower digest.bytes))

-- what one of the three has at the path
abbrev pub had_line : List ℕ → Option Content → List ℕ
had_line who mark = codes "  " ++ (who ++ (codes " " ++ (mark_shown mark ++ codes "\n")))

-- the line of an item, and what both sides and the archive have there
abbrev pub item_lines : Tree → Tree → Tree → Item → List ℕ
item_lines left right archive item =
    word_of item ++ (codes " " ++ (printed_form (path_of item) ++ (codes "\n"
    ++ (had_line (codes "left") (get left (path_of item))
    ++ (had_line (codes "right") (get right (path_of item))
    ++ had_line (codes "archive") (get archive (path_of item)))))))

-- the items in path order
abbrev pub items_lines : Tree → Tree → Tree → List Planned → List ℕ
items_lines left right archive items =
    flat_map (λ item. item_lines left right archive (item_of item)) items

-- the first line: what is carried, what is marked, and the conflicts
abbrev pub plan_line : ℕ → ℕ → ℕ → List ℕ
plan_line carried marked conflicts = codes "plan carry " ++ (decimal carried
    ++ (codes " mark " ++ (decimal marked ++ (codes " conflicts "
    ++ (decimal conflicts ++ codes "\n")))))
