-- How many items of each kind a plan has.
use Rattle.std.specs.Prelude.{ℕ, List, count_by, is_some}
use Rattle.syn_machine.specs.Report.{conflict_at, is_carrying, is_marking}
use Rattle.syn_recon.specs.Items.{item_of}
use Rattle.syn_recon.specs.declared.item.Item.{Item as Planned}

abbrev pub carried_in : List Planned → ℕ
carried_in items = count_by (λ item. is_carrying (item_of item)) items

abbrev pub marked_in : List Planned → ℕ
marked_in items = count_by (λ item. is_marking (item_of item)) items

abbrev pub conflicts_in : List Planned → ℕ
conflicts_in items = count_by (λ item. is_some (conflict_at (item_of item))) items
