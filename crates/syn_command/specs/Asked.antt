-- The edit that a command asks for.
use Rattle.std.specs.Prelude.{◌≡◌, Option, Some}
use Rattle.syn_model.specs.Path.{Bytes, Path}
use Rattle.syn_model.specs.Event.{Event, Edited, Edit, Put, MakeDir, Remove, Chmod}
use Rattle.syn_tree.specs.Modes.{mode_of}
use Rattle.syn_cli.specs.declared.command.EditKind.{EditKind}
use Rattle.syn_cli.specs.declared.command.EditKind.TheVariants as kind
use Rattle.syn_cli.specs.declared.command.EditCommand.{EditCommand}

-- this is left of the input, which only a put reads
abbrev pub IsInput : EditKind → Option Bytes → Bytes → Type 0
IsInput kind.Put input left = input ≡ Some left
IsInput _ input left = Unit {0}

-- the edit at a path, where this is left of the input
abbrev pub edit_asked : EditKind → Path → Bytes → Edit
edit_asked kind.Put path left = Put path left
edit_asked kind.MakeDir path left = MakeDir path
edit_asked kind.Remove path left = Remove path
edit_asked (kind.Chmod mode) path left = Chmod path (mode_of mode)

-- the same as an event of the command's user
abbrev pub event_asked : EditCommand → Path → Bytes → Event
event_asked line path left = Edited line.user (edit_asked line.kind path left)
