-- What a clause reads of a lock.
use Rattle.std.specs.Prelude.{◌≡◌, [], Option, Some}
use Rattle.atomic_table.specs.Seated.{TableId}
use Rattle.syn_lock.specs.declared.own.Own.{Own}

module _ {S : Type 0} where
  abbrev pub id_of : Own S → TableId
  id_of own = own.table.shared.table_id

  -- the state that was put into the lock
  abbrev pub origin_of : Own S → S
  origin_of own = own.table.shared.key.value

  -- the lock has this name, and this state was put into it
  abbrev pub IsLock : TableId → Option S → Own S → Type 0
  IsLock lock origin own = (id_of own ≡ lock) × (Some (origin_of own) ≡ origin)

-- a name where no lock was picked
abbrev pub no_lock : TableId
no_lock = record {
  words = 0;
  slots = 0;
  views_name = 0;
  atom = 0;
  block = 0;
  offset = 0;
  slot_names
      = [];
}
