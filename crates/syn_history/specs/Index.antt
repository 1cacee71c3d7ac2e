-- Where each path was touched last.
use Rattle.std.specs.Prelude.{◌≡◌, ℕ, ◌<◌, ◌==◌, Bool, false, ◌&&◌, nat_le, if◌then◌else◌, List, []}
use Rattle.std.specs.Prelude.{◌∷◌, ◌++◌, Option, Some}
use Rattle.std.specs.List.{AllPairs}
use Rattle.std.specs.Option.{ForSome, option_map_or}
use Rattle.std.specs.FinMap.{FinMap, get, insert, remove, from_entries}
use Rattle.syn_model.specs.Path.{Path, path_cmp, comparable}
use Rattle.syn_model.specs.Standing.{Touch}

-- the paths with their positions, the newest touch first
abbrev pub newest_first : List Touch → List (Path × ℕ)
newest_first [] = []
newest_first (touch ∷ touches) = newest_first touches ++ (touch.path, touch.position) ∷ []

-- the position at which each path itself was touched last
abbrev pub last_positions : List Touch → FinMap path_cmp ℕ
last_positions touches = from_entries (newest_first touches)

-- one touch comes before another
abbrev pub IsEarlier : Touch → Touch → Type 0
IsEarlier earlier later = earlier.position < later.position

-- the touches come one after another, and an index has the last ones of their paths
pub record IsIndexed (touches : List Touch) (index : Option (FinMap path_cmp ℕ)) : Type 0 where
  pub rising : AllPairs IsEarlier touches
  pub last : ForSome index (λ positions. positions ≡ last_positions touches)

-- the path was touched from the position on
abbrev pub is_touched_at : ℕ → FinMap path_cmp ℕ → Path → Bool
is_touched_at since index path = option_map_or (λ at. nat_le since at) (get index path) false

-- the entry tells that the path, or one above or below it, was touched from the position on
abbrev pub entry_tells : ℕ → Path → Path × ℕ → Bool
entry_tells since path entry = nat_le since entry.1 && comparable entry.0 path

-- without the touch, where it is the last of its path
abbrev pub forgotten : FinMap path_cmp ℕ → Touch → FinMap path_cmp ℕ
forgotten index touch =
    if option_map_or (λ at. at == touch.position) (get index touch.path) false
    then remove index touch.path else index

-- without the touch that was dropped, if any
abbrev pub without : FinMap path_cmp ℕ → Option Touch → FinMap path_cmp ℕ
without index dropped = option_map_or (λ oldest. forgotten index oldest) dropped index

-- an index goes on only where there was one, and by a slot
pub record GoesOn (old : Option (FinMap path_cmp ℕ)) (slot : Option (Path × ℕ))
    (dropped : Option Touch) (new : FinMap path_cmp ℕ) : Type 0 where
  pub was : FinMap path_cmp ℕ
  pub entry : Path × ℕ
  pub old_is : old ≡ Some was
  pub slot_is : slot ≡ Some entry
  pub new_is : new ≡ insert (without was dropped) entry.0 entry.1
