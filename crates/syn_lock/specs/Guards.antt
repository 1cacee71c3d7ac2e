-- What a clause reads of a guard.
use Rattle.std.specs.Prelude.{◌≡◌, ℕ, ◌<◌, List, true, [], ◌∷◌, None, Some}
use Rattle.std.specs.Box.{with_value}
use Rattle.std.specs.Global.{Box}
use Rattle.std.specs.contracts.boxed.Box as box
use Rattle.std.specs.contracts.alloc.Global as heap
use Rattle.std.specs.contracts.impls.GlobalAllocator.TheImpl.{ghosts}
use base.Fml.{GName}
use denote.RattleType.{RattleType}
use Rattle.atomic_table.specs.Seated.{TableId}
use Rattle.syn_lock.specs.declared.view.Hold.{Hold}
use Rattle.syn_lock.specs.declared.view.View.{View}
use Rattle.syn_lock.specs.declared.guard.Holder.{Holder}
use Rattle.syn_lock.specs.History.{end_of}
use Rattle.syn_lock.specs.Views.{Sees, entered, refused_times}
use Rattle.syn_lock.specs.Passes.{view_of}

-- what a guard is
abbrev pub Guard : Type 0 → Type 0
Guard S = Holder S (Box S)

-- the type of a box of such a state
abbrev pub home_row : RattleType → RattleType
home_row S = box.the_row S heap.the_row ghosts

module _ {S : Type 0} where
  -- the state that the guard lends
  abbrev pub state_of : Guard S → S
  state_of g = g.state.value

  -- the guard after its state became x
  abbrev pub with_state : Guard S → S → Guard S
  with_state g x = record { pass = g.pass; state = with_value g.state x }

  abbrev pub name_of_pass : Guard S → GName
  name_of_pass g = g.pass.ghost_name

  -- what the guard's pass has seen
  abbrev pub knows : Guard S → View S
  knows g = view_of g.pass.now

  abbrev pub IsGuardOf : TableId → S → Guard S → Type 0
  IsGuardOf lock origin g =
      (g.pass.now.seat.table_id ≡ lock) × (g.pass.now.seat.me.1 ≡ (0, None) ∷ [])
      × (g.pass.now.seat.me.0.inside ≡ true) × (0 < (knows g).number)
      × ((knows g).origin ≡ Some origin)

  -- The pass has seen a lock history that begins with all that it had seen, and has its own holds
  -- and no others under its number. The guard lends the state at its end
  abbrev pub HasEntered : (S → S → Type 0) → S → View S → Guard S → Type 0
  HasEntered grows origin v g = (seen : List (Hold S)) × Sees grows origin v seen
      × (knows g ≡ entered v seen) × (state_of g ≡ end_of origin seen)

  -- the same, after the lock was found taken any number of times
  abbrev pub HasWaited : (S → S → Type 0) → S → View S → Guard S → Type 0
  HasWaited grows origin v g = (times : ℕ) × HasEntered grows origin (refused_times v times) g
