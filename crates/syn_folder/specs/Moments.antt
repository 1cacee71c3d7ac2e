-- What the calls of a replacement do to a folder that other programs edit between any two of them.
use Rattle.std.specs.Prelude.{◌≡◌, ◌≢◌, ◌⊎◌, ℕ, Bool, true, false, if◌then◌else◌}
use Rattle.std.specs.Prelude.{Option, Some, None, Result, Ok, Err}
use Rattle.std.specs.declared.io.Error.{Error}
use Rattle.syn_folder.specs.declared.system.stage.Stage.{Stage}
use Rattle.syn_folder.specs.declared.system.stage.Stage.TheVariants.{Standing}

-- What is at a path: a thing, or nothing, or the directory that the path is in is gone. A thing has
-- a number of its own, wherever it is moved.
pub data Spot : Type 0 where
  Gone : Spot
  Free : Spot
  Has : (thing : ℕ) → Spot

-- The folder at one moment, as far as one path goes: what is at the path, what lies in the
-- directory that was made for it in `.syn/kept`, what was written for it in `.syn/new`, and whether
-- a note there names it
pub record Moment : Type 0 where
  pub spot : Spot
  pub kept : Option ℕ
  pub item : Option ℕ
  pub noted : Bool

-- what other programs may do: anything at the path, and nothing in `.syn`
pub record Edits (old new : Moment) : Type 0 where
  pub kept : new.kept ≡ old.kept
  pub item : new.item ≡ old.item
  pub noted : new.noted ≡ old.noted

-- What this program does, or finds out, at one moment
pub data Act : Type 0 where
  -- it began to write what is wanted, and failed
  Tried : Act
  -- it wrote what is wanted into `.syn/new`
  Wrote : (thing : ℕ) → Act
  -- it wrote the note
  Began : Act
  -- it moved what stood at the path into `.syn/kept`
  Took : (thing : ℕ) → Act
  -- it looked at what lies there, and that is what was read at the path
  Knew : (thing : ℕ) → Act
  -- it put what is wanted at the path
  Put : (thing : ℕ) → Act
  -- it found that something is in the way at the path
  Met : Act
  -- it gave what lies in `.syn/kept` its name at the path again, and that is its second one
  Named : (thing : ℕ) → Act
  -- it put what lay in `.syn/kept` back to the path
  Returned : (thing : ℕ) → Act
  -- it removed the note
  Ended : Act
  -- it began to remove the note, and failed
  Broke : Act

-- nothing but the thing itself is in its way there
abbrev pub IsFreeFor : ℕ → Spot → Type 0
IsFreeFor thing spot = (spot ≡ Free) ⊎ (spot ≡ Has thing)

-- the same at the path and in `.syn/kept`
abbrev pub StaysThere : Moment → Moment → Type 0
StaysThere old new = (new.spot ≡ old.spot) × (new.kept ≡ old.kept)

-- what an act makes of the folder as it is at that moment
abbrev pub Does : Act → Moment → Moment → Type 0
Does Tried old new = StaysThere old new × (new.noted ≡ old.noted)
Does (Wrote thing) old new = new ≡ record old { item = Some thing }
Does Began old new = new ≡ record old { noted = true }
Does (Took thing) old new = (old.spot ≡ Has thing)
    × (new ≡ record old { spot = Free; kept = Some thing })
Does (Knew thing) old new = (old.kept ≡ Some thing) × (new ≡ old)
Does (Put thing) old new = (old.spot ≡ Free) × (old.item ≡ Some thing)
    × (new.spot ≡ Has thing) × (new.kept ≡ old.kept) × (new.noted ≡ old.noted)
Does Met old new = (old.spot ≢ Free) × (new ≡ old)
Does (Named thing) old new = (old.kept ≡ Some thing) × IsFreeFor thing old.spot
    × (new ≡ record old { spot = Has thing })
Does (Returned thing) old new = (old.kept ≡ Some thing) × IsFreeFor thing old.spot
    × (new ≡ record old { spot = Has thing; kept = None })
Does Ended old new = StaysThere old new × (new.noted ≡ false)
Does Broke old new = StaysThere old new
    × ((new.noted ≡ false) ⊎ ((new.noted ≡ old.noted) × (new.item ≡ old.item)))

-- there is a moment between, which others made of the old one, and the act is done then
pub record Happens (act : Act) (old new : Moment) : Type 0 where
  pub now : Moment
  pub after : Moment
  pub before : Edits old now
  pub does : Does act now after
  pub since : Edits after new

-- some thing is written, if one is wanted
abbrev pub Writes : Bool → Moment → Moment → Type 0
Writes true old new = (thing : ℕ) × Happens (Wrote thing) old new
Writes false old new = Edits old new

abbrev pub Prepares : Bool → Stage → Result Unit Error → Moment → Moment → Type 0
Prepares is_wanted stage (Err _) old new = Happens Tried old new
Prepares is_wanted Standing (Ok _) old new =
    (written : Moment) × Writes is_wanted old written × Happens Began written new
Prepares is_wanted _ (Ok _) old new = Writes is_wanted old new

abbrev pub Takes : Result Bool Error → Moment → Moment → Type 0
Takes (Ok true) old new = (thing : ℕ) × Happens (Took thing) old new
Takes _ old new = Edits old new

abbrev pub Compares : Result Bool Error → Moment → Moment → Type 0
Compares (Ok true) old new = (thing : ℕ) × Happens (Knew thing) old new
Compares _ old new = Edits old new

abbrev pub Places : Result Bool Error → Moment → Moment → Type 0
Places (Ok true) old new = (thing : ℕ) × Happens (Put thing) old new
Places (Ok false) old new = Happens Met old new
Places (Err _) old new = Edits old new

-- a file has both names for a while, and a directory has not
abbrev pub MayName : ℕ → Moment → Moment → Type 0
MayName thing old new = Edits old new ⊎ Happens (Named thing) old new

abbrev pub Returns : Result Bool Error → Moment → Moment → Type 0
Returns (Ok true) old new = (thing : ℕ) × (named : Moment) × MayName thing old named
    × Happens (Returned thing) named new
Returns (Ok false) old new = Happens Met old new
Returns (Err _) old new = (thing : ℕ) × MayName thing old new

abbrev pub Closes : Result Unit Error → Moment → Moment → Type 0
Closes (Ok _) old new = Happens Ended old new
Closes (Err _) old new = Happens Broke old new

-- the moment of which an implementation knows these: 0 is what it moved, and 1 what is wanted
abbrev pub pictured : Bool → Bool → Bool → Moment
pictured is_kept is_wanted is_noted = record {
  spot = Free;
  kept = if is_kept then Some 0 else None;
  item = if is_wanted then Some 1 else None;
  noted = is_noted;
}
