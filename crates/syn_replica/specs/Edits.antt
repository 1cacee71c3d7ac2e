-- An edit of a user as an event.
use Rattle.std.specs.Prelude.{ℕ}
use Rattle.syn_model.specs.Event.{Event, Edited}
use Rattle.syn_tree.specs.Edits.{edit_of}
use Rattle.syn_tree.specs.declared.edit.Edit.{Edit}

abbrev pub event_by : ℕ → Edit → Event
event_by user edit = Edited user (edit_of edit)
