-- What a replacement at one path comes to, in a folder that other programs edit.
use Rattle.std.specs.Prelude.{◌≡◌, ◌⊎◌, ℕ, Bool, true, false, List, [], ◌∷◌}
use Rattle.std.specs.Prelude.{Option, Some, None, IsSome, Result, Ok, Err, OnOk}
use Rattle.std.specs.declared.io.Error.{Error}
use Rattle.syn_folder.specs.Moments.{Moment, Edits, Act, Does}
use Rattle.syn_folder.specs.Moments.{Wrote, Took, Knew, Put, Met, Returned, Ended, Broke, Has}
use Rattle.syn_folder.specs.declared.error.FolderError.{FolderError}
use Rattle.syn_folder.specs.declared.error.FolderError.TheVariants as why
use Rattle.syn_folder.specs.Stages.{IsCutOff}
use Rattle.syn_folder.specs.declared.system.stage.Stage.{Stage}
use Rattle.syn_folder.specs.declared.system.stage.Stage.TheVariants.{Noted, Moved, Placed}

-- Of what was done, the latest first:

-- what was taken away from the path and not put back
abbrev pub out : List Act → Option ℕ
out [] = None
out (Took thing ∷ done) = Some thing
out (Returned thing ∷ done) = None
out (_ ∷ done) = out done

-- what was taken away, where it is known to be what was read
abbrev pub known : List Act → Option ℕ
known [] = None
known (Took thing ∷ done) = None
known (Knew thing ∷ done) = Some thing
known (Returned thing ∷ done) = None
known (_ ∷ done) = known done

-- what is wanted, once it is written
abbrev pub written : List Act → Option ℕ
written [] = None
written (Wrote thing ∷ done) = Some thing
written (_ ∷ done) = written done

-- what was put at the path in the place of what was there
abbrev pub put : List Act → Option ℕ
put [] = None
put (Put thing ∷ done) = Some thing
put (_ ∷ done) = put done

-- something was in the way at the path when this program last looked
abbrev pub is_met : List Act → Bool
is_met (Met ∷ done) = true
is_met (Ended ∷ done) = is_met done
is_met (Broke ∷ done) = is_met done
is_met _ = false

-- the path got what is wanted, if anything is, and what was taken away is what was read
pub record IsMade (is_wanted : Bool) (done : List Act) : Type 0 where
  pub kept : known done ≡ out done
  pub placed : is_wanted ≡ true → (thing : ℕ) × (written done ≡ Some thing)
      × (put done ≡ Some thing)

-- what was done is whole, or undone, or cannot be undone since something else is at the path
abbrev pub IsOver : Bool → List Act → Type 0
IsOver is_wanted done =
    (out done ≡ None) ⊎ (IsMade is_wanted done ⊎ (is_met done ≡ true))

-- The folder is so that nothing is missing if this program stops now, and a start goes by what the
-- note says. What was taken away and not put back lies in `.syn/kept`. As long as the path may lack
-- it a note stands, and as long as one stands what is wanted lies in `.syn/new` or was put at the
-- path. Nothing was put in the place of what was not known to be what was read.
pub record IsSafe (is_wanted : Bool) (done : List Act) (now : Moment) : Type 0 where
  pub kept : now.kept ≡ out done
  pub note : now.noted ≡ false → IsOver is_wanted done
  pub item : now.noted ≡ true → is_wanted ≡ true → put done ≡ None → IsSome now.item
  pub placed : (thing : ℕ) → put done ≡ Some thing
      → (known done ≡ out done) × (written done ≡ Some thing)

-- it is at the path, or lies in `.syn/kept`
abbrev pub IsThere : ℕ → Moment → Type 0
IsThere thing now = (now.spot ≡ Has thing) ⊎ (now.kept ≡ Some thing)

-- what was at the path or in `.syn/kept` is at one of both
abbrev pub LosesNothing : Moment → Moment → Type 0
LosesNothing old new = (thing : ℕ) → IsThere thing old → IsThere thing new

-- From one moment to another this program added acts to those that were done earlier, one after the
-- other, and others edited between any two of them. No act lost anything, and after each it was
-- safe to stop.
pub data Course (is_wanted : Bool) (earlier : List Act) (old : Moment) : List Act → Moment → Type 0
  where
    rests : (new : Moment) → Edits old new → Course is_wanted earlier old earlier new
    goes : (act : Act) (done : List Act) (now after new : Moment) →
        Course is_wanted earlier old done now → Does act now after → LosesNothing now after →
        IsSafe is_wanted (act ∷ done) after → Edits after new →
        Course is_wanted earlier old (act ∷ done) new

-- What an answer tells. Where it succeeds all is made, and no note stands. Where it is refused
-- since the folder changed, nothing was put at the path, and what was taken away was put back, or
-- something else was at the path by then; no note stands.
abbrev pub Tells : Bool → Result Unit FolderError → List Act → Moment → Type 0
Tells is_wanted (Ok _) done new = IsMade is_wanted done × (new.noted ≡ false)
Tells is_wanted (Err (why.Changed paths)) done new = (put done ≡ None) × (new.noted ≡ false)
    × ((out done ≡ None) ⊎ (is_met done ≡ true))
Tells is_wanted (Err _) done new = Unit {0}

-- a course that ends with this answer
pub record Answers (is_wanted : Bool) (earlier : List Act) (old new : Moment)
    (result : Result Unit FolderError) : Type 0 where
  pub done : List Act
  pub course : Course is_wanted earlier old done new
  pub safe : IsSafe is_wanted done new
  pub tells : Tells is_wanted result done new

-- nothing lies in `.syn/kept` for the path, and no note names it
pub record IsAtRest (now : Moment) : Type 0 where
  pub kept : now.kept ≡ None
  pub noted : now.noted ≡ false

-- what is wanted was not put at the path yet, and lies in `.syn/new`
pub record IsReadyToPut (is_wanted : Bool) (done : List Act) (now : Moment) : Type 0 where
  pub unput : put done ≡ None
  pub written : is_wanted ≡ true → (thing : ℕ) × (written done ≡ Some thing)
      × (now.item ≡ Some thing)

-- What a start takes the folder for is so: a note stands, and what is wanted is taken for placed
-- where it is gone from `.syn/new`, and else only where it was put
abbrev pub IsShown : Bool → Stage → List Act → Moment → Type 0
IsShown is_wanted Noted earlier now = (now.noted ≡ true) × (now.kept ≡ None)
IsShown is_wanted Moved earlier now = (now.noted ≡ true) × IsSome now.kept
IsShown is_wanted Placed earlier now = (now.noted ≡ true) × (is_wanted ≡ true)
    × ((now.item ≡ None) ⊎ IsSome (put earlier))
IsShown is_wanted _ earlier now = ⊥

-- a course that begins with a note and, where it succeeds, is over: no note stands then
pub record Mends (is_wanted : Bool) (earlier : List Act) (old new : Moment)
    (result : Result Unit Error) : Type 0 where
  pub done : List Act
  pub course : Course is_wanted earlier old done new
  pub safe : IsSafe is_wanted done new
  pub over : OnOk result (IsOver is_wanted done × (new.noted ≡ false))

-- the act is one of those
abbrev pub IsAmong : Act → List Act → Type 0
IsAmong act [] = ⊥
IsAmong act (one ∷ done) = (one ≡ act) ⊎ IsAmong act done

-- whatever was taken away lies in `.syn/kept`, or was put back to the path
abbrev pub KeepsWhatItTook : Type 0
KeepsWhatItTook = (is_wanted : Bool) (first now : Moment) (done : List Act) (thing : ℕ) →
    IsAtRest first → Course is_wanted [] first done now → IsAmong (Took thing) done →
    (now.kept ≡ Some thing) ⊎ IsAmong (Returned thing) done

-- where a note stands, at a stop or later, a start takes the folder for something that it is
abbrev pub MayBeTakenUp : Type 0
MayBeTakenUp = (is_wanted : Bool) (first stopped begun : Moment) (done : List Act) →
    IsAtRest first → Course is_wanted [] first done stopped → Edits stopped begun →
    begun.noted ≡ true → IsSafe is_wanted done begun
    × ((stage : Stage) × IsCutOff stage × IsShown is_wanted stage done begun)

-- where none stands, all that was done is over
abbrev pub IsOverWithoutNote : Type 0
IsOverWithoutNote = (is_wanted : Bool) (first stopped begun : Moment) (done : List Act) →
    IsAtRest first → Course is_wanted [] first done stopped → Edits stopped begun →
    begun.noted ≡ false → IsOver is_wanted done × (begun.kept ≡ out done)

-- a replacement that was cut off and the start after it are one course from the first moment on
abbrev pub IsMendedByStart : Type 0
IsMendedByStart = (is_wanted : Bool) (first stopped begun ended : Moment) (done : List Act)
    (result : Result Unit Error) → Course is_wanted [] first done stopped →
    Edits stopped begun → Mends is_wanted done begun ended result →
    Mends is_wanted [] first ended result
