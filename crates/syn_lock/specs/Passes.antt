-- What a clause reads of a pass and its lock.
use Rattle.std.specs.Prelude.{◌≡◌, ℕ, ◌<◌, false, [], Option, Some}
use Rattle.atomic_table.specs.Seated.{TableId}
use Rattle.syn_lock.specs.declared.view.View.{View}
use Rattle.syn_lock.specs.declared.own.Pass.{Pass}
use Rattle.syn_lock.specs.declared.own.Onlooker.{Onlooker}
use Rattle.syn_lock.specs.History.{IsHistory, holds_by}
use Rattle.syn_lock.specs.Views.{refused}

module _ {S : Type 0} where
  -- what a pass has seen
  abbrev pub view_of : Pass S → View S
  view_of p = p.seat.me.0.view

  -- the pass is of the lock of that name, into which origin was put, and has not entered it
  abbrev pub IsPassIn : TableId → Option S → Pass S → Type 0
  IsPassIn lock origin p =
      (p.seat.table_id ≡ lock) × (p.seat.me.1 ≡ []) × (p.seat.me.0.inside ≡ false)
      × (0 < (view_of p).number) × ((view_of p).origin ≡ origin)

  abbrev pub IsPassOf : TableId → S → Pass S → Type 0
  IsPassOf lock origin p = IsPassIn lock (Some origin) p

  -- the pass has seen a lock history, no hold is its own, and it has made no step on the lock's
  -- word
  abbrev pub IsNew : (S → S → Type 0) → S → Pass S → Type 0
  IsNew grows origin p =
      IsHistory grows origin (view_of p).seen × (holds_by (view_of p).number (view_of p).seen ≡ [])
      × ((view_of p).own ≡ []) × ((view_of p).turns ≡ [])

  -- the pass's exchange found the lock taken, and nothing else changed
  abbrev pub WasRefused : TableId → S → Pass S → Pass S → Type 0
  WasRefused lock origin p q = IsPassOf lock origin q × (view_of q ≡ refused (view_of p))

  -- how many passes of its lock an onlooker has seen out
  abbrev pub passes_seen : Onlooker S → ℕ
  passes_seen o = o.seat.me.0.passes

  abbrev pub IsOnlookerOf : TableId → Onlooker S → Type 0
  IsOnlookerOf lock o = o.seat.table_id ≡ lock
