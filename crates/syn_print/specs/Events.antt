-- The lines that are printed of the last events of a replica.
use Rattle.std.specs.Prelude.{ℕ, List, ◌++◌, codes, flat_map, length, Option, Some, None}
use Rattle.std.specs.Fmt.{decimal}
use Rattle.syn_history.specs.declared.event.Event.{Event}
use Rattle.syn_history.specs.declared.event.Event.TheVariants.{Edited, Began, Replaced}
use Rattle.syn_history.specs.declared.token.Token.{Token}
use Rattle.syn_print.specs.declared.log.Logged.{Logged}
use Rattle.syn_print.specs.declared.log.What.{What}
use Rattle.syn_print.specs.declared.log.What.TheVariants.{Touched, Whole}
use Rattle.syn_model.specs.Path.{Path}
use Rattle.syn_path.specs.Paths.{printed_form}
use Rattle.syn_tree.specs.Modes.{mode_digits, mode_of}
use Rattle.syn_tree.specs.declared.edit.Edit.{Edit}
use Rattle.syn_tree.specs.declared.edit.Edit.TheVariants.{Put, MakeDir, Remove, Chmod}
use Rattle.syn_tree.specs.declared.node.Node.{Node}
use Rattle.syn_tree.specs.declared.node.Node.TheVariants.{File, Dir}

-- a path at the end of a line
abbrev pub ending : Path → List ℕ
ending path = codes " " ++ (printed_form path ++ codes "\n")

-- the line of an event of which the path alone is known
abbrev pub touched_line : ℕ → Path → List ℕ
touched_line position path = decimal position ++ (codes " touch" ++ ending path)

abbrev pub edit_line : ℕ → ℕ → Edit → List ℕ
edit_line position user (Put path bytes) = decimal position ++ (codes " put user " ++ (decimal user
    ++ (codes " length " ++ (decimal (length bytes.items) ++ ending path))))
edit_line position user (MakeDir path) =
    decimal position ++ (codes " mkdir user " ++ (decimal user ++ ending path))
edit_line position user (Remove path) =
    decimal position ++ (codes " rm user " ++ (decimal user ++ ending path))
edit_line position user (Chmod path mode) = decimal position ++ (codes " chmod user "
    ++ (decimal user ++ (codes " mode " ++ (mode_digits (mode_of mode) ++ ending path))))

-- what was put in the place of what stood there: nothing, a directory, or a file of so many bytes
abbrev pub node_shown : Option Node → List ℕ
node_shown None = codes "-"
node_shown (Some (Dir below)) = codes "d"
node_shown (Some (File mode bytes)) = codes "f " ++ decimal (length bytes.items)

abbrev pub replaced_line : ℕ → Token → Path → Option Node → List ℕ
replaced_line position token path new = decimal position ++ (codes " replace session "
    ++ (decimal token.session ++ (codes " item " ++ (decimal token.item
    ++ (codes " " ++ (node_shown new ++ ending path))))))

abbrev pub event_line : ℕ → Event → List ℕ
event_line position (Edited user edit) = edit_line position user edit
event_line position (Began session) =
    decimal position ++ (codes " session " ++ (decimal session ++ codes "\n"))
event_line position (Replaced token path since new) = replaced_line position token path new

abbrev pub what_line : ℕ → What → List ℕ
what_line position (Touched path) = touched_line position path
what_line position (Whole event) = event_line position event

abbrev pub logged_line : Logged → List ℕ
logged_line logged = what_line logged.position logged.what

abbrev pub lines_of : List Logged → List ℕ
lines_of all = flat_map logged_line all
