-- How an item ended, and how many items of a report ended so.
use Rattle.std.specs.Prelude.{Bool, false, true, ℕ, List, count_by, Option, Some, None}
use Rattle.syn_recon.specs.declared.item.Item.{Item}
use Rattle.syn_recon.specs.declared.item.Item.TheVariants as item
use Rattle.syn_refusal.specs.declared.refusal.Refusal.{Refusal}
use Rattle.syn_reconcile.specs.declared.report.Settlement.{Settlement}
use Rattle.syn_reconcile.specs.declared.report.Settlement.TheVariants.{Done, Marked, Conflict}
use Rattle.syn_reconcile.specs.declared.report.Settlement.TheVariants.{Refused}
use Rattle.syn_reconcile.specs.declared.report.Settled.{Settled}

-- of an item that was not refused
abbrev pub settlement_of_item : Item → Settlement
settlement_of_item (item.ToLeft path) = Done
settlement_of_item (item.ToRight path) = Done
settlement_of_item (item.MarkSame path) = Marked
settlement_of_item (item.MarkDir path) = Marked
settlement_of_item (item.Conflict path) = Conflict

abbrev pub settlement_of : Item → Option Refusal → Settlement
settlement_of item None = settlement_of_item item
settlement_of item (Some why) = Refused why

abbrev pub is_done : Settlement → Bool
is_done Done = true
is_done _ = false

abbrev pub is_marked : Settlement → Bool
is_marked Marked = true
is_marked _ = false

abbrev pub is_conflict : Settlement → Bool
is_conflict Conflict = true
is_conflict _ = false

abbrev pub is_refused : Settlement → Bool
is_refused (Refused why) = true
is_refused _ = false

-- how many of the items ended so
abbrev pub count_ended : (Settlement → Bool) → List Settled → ℕ
count_ended is_so settled = count_by (λ one. is_so (settlement_of one.item one.refused)) settled
