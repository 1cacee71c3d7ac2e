-- An edit as the model has it.
use Rattle.syn_model.specs.Event as model
use Rattle.syn_tree.specs.Modes.{mode_of}
use Rattle.syn_tree.specs.declared.edit.Edit.{Edit}
use Rattle.syn_tree.specs.declared.edit.Edit.TheVariants.{Put, MakeDir, Remove, Chmod}

abbrev pub edit_of : Edit → model.Edit
edit_of (Put path bytes) = model.Put path bytes.items
edit_of (MakeDir path) = model.MakeDir path
edit_of (Remove path) = model.Remove path
edit_of (Chmod path mode) = model.Chmod path (mode_of mode)
