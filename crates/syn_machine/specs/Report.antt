-- What a session reports as it ends.
use Rattle.std.specs.List.{list_any}
use Rattle.std.specs.Ordering.{eq_by_cmp}
use Rattle.std.specs.Prelude.{ℕ, Bool, true, false, List, Option, Some, None}
use Rattle.syn_model.specs.Path.{Path, path_cmp}
use Rattle.syn_model.specs.Refusal.{Refusal}
use Rattle.syn_model.specs.Archive.{Kept, Recorded, RecordedDir}
use Rattle.syn_model.specs.Decision.{Item, ToLeft, ToRight, MarkSame, MarkDir, Conflict}

pub data End : Type 0 where
  Complete : End
  Incomplete : End

pub record Report : Type 0 where
  pub session : ℕ
  pub end : End
  pub ended : Option Refusal
  pub done : ℕ
  pub marked : ℕ
  pub conflicts : List Path
  pub refused : List (Refusal × Path)

-- the record is that of the item
abbrev pub is_record_of : Item → Kept → Bool
is_record_of (ToLeft path) (Recorded at marks) = eq_by_cmp path_cmp at path
is_record_of (ToRight path) (Recorded at marks) = eq_by_cmp path_cmp at path
is_record_of (MarkSame path) (Recorded at marks) = eq_by_cmp path_cmp at path
is_record_of (MarkDir path) (RecordedDir at) = eq_by_cmp path_cmp at path
is_record_of _ _ = false

abbrev pub is_kept : List Kept → Item → Bool
is_kept kept item = list_any (is_record_of item) kept

-- the item carries, or it only marks
abbrev pub is_carrying : Item → Bool
is_carrying (ToLeft path) = true
is_carrying (ToRight path) = true
is_carrying _ = false

abbrev pub is_marking : Item → Bool
is_marking (MarkSame path) = true
is_marking (MarkDir path) = true
is_marking _ = false

abbrev pub conflict_at : Item → Option Path
conflict_at (Conflict path) = Some path
conflict_at _ = None
