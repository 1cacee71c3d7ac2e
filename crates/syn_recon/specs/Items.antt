-- The items of a plan, as the model has them.
use Rattle.std.specs.Prelude.{List, map}
use Rattle.syn_model.specs.Decision as model
use Rattle.syn_recon.specs.declared.item.Item.{Item}
use Rattle.syn_recon.specs.declared.item.Item.TheVariants.{ToLeft, ToRight, MarkSame, MarkDir}
use Rattle.syn_recon.specs.declared.item.Item.TheVariants.{Conflict}

abbrev pub item_of : Item → model.Item
item_of (ToLeft path) = model.ToLeft path
item_of (ToRight path) = model.ToRight path
item_of (MarkSame path) = model.MarkSame path
item_of (MarkDir path) = model.MarkDir path
item_of (Conflict path) = model.Conflict path

abbrev pub items_of : List Item → List model.Item
items_of items = map item_of items
