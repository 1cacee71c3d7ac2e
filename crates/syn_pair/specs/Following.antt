-- When an archive goes on with two sides, and why it cannot.
use Rattle.std.specs.Prelude.{◌≡◌, ◌<◌, ◌≤◌, ◌⊎◌, ℕ}
use Rattle.syn_model.specs.Limits.{greatest}
use Rattle.syn_pair.specs.Sides.{AreOne, SideState}
use Rattle.syn_pair.specs.declared.check.Mismatch.{Mismatch}
use Rattle.syn_pair.specs.declared.check.Mismatch.TheVariants.{LastSession, OneReplica, OtherPair}
use Rattle.syn_path.specs.declared.side.Side.{Side}
use Rattle.syn_path.specs.declared.side.Side.TheVariants as side

-- the side is of the pair, and there is a session after its last one
pub record FitsPair (pair : ℕ) (side : SideState) : Type 0 where
  pub of_pair : side.status.pair ≡ pair
  pub next : side.status.session < greatest

-- the session is the last one of a side, and of neither a later one
pub record Follows (pair : ℕ) (left right : SideState) (session : ℕ) : Type 0 where
  pub two : ¬ AreOne left.identity right.identity
  pub left_fits : FitsPair pair left
  pub right_fits : FitsPair pair right
  pub above_left : left.status.session ≤ session
  pub above_right : right.status.session ≤ session
  pub begun : (session ≡ left.status.session) ⊎ (session ≡ right.status.session)

-- why no archive goes on with the side of the name
pub data HasNoNext (pair : ℕ) (name : Side) (found : SideState) : Mismatch → Type 0 where
  other_pair : ¬ (found.status.pair ≡ pair) → HasNoNext pair name found (OtherPair name)
  last_session : found.status.session ≡ greatest → HasNoNext pair name found (LastSession name)

pub data CannotFollow (pair : ℕ) (left right : SideState) : Mismatch → Type 0 where
  one_replica : AreOne left.identity right.identity → CannotFollow pair left right OneReplica
  left_has_none : (why : Mismatch) → HasNoNext pair side.Left left why →
      CannotFollow pair left right why
  right_has_none : (why : Mismatch) → HasNoNext pair side.Right right why →
      CannotFollow pair left right why
