-- What stands at a path with all below it, as the model has it.
use Rattle.std.specs.Prelude.{Option, Some, None}
use Rattle.syn_model.specs.Tree.{Tree, file_with, absent}
use Rattle.syn_tree.specs.Modes.{mode_of}
use Rattle.syn_tree.specs.declared.node.Node.{Node}
use Rattle.syn_tree.specs.declared.node.Node.TheVariants as node

abbrev pub node_tree : Node → Tree
node_tree (node.File mode bytes) = file_with (mode_of mode) bytes.items
node_tree (node.Dir entries) = entries

-- nothing where there is no node
abbrev pub part_of : Option Node → Tree
part_of None = absent
part_of (Some node) = node_tree node
