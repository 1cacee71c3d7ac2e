-- What is to be done for an item, by the item alone.
use Rattle.std.specs.Prelude.{◌≡◌, ◌⊎◌, ℕ}
use Rattle.syn_path.specs.declared.side.Side.{Side}
use Rattle.syn_path.specs.declared.side.Side.TheVariants as side
use Rattle.syn_model.specs.Archive.{Recorded, RecordedDir}
use Rattle.syn_model.specs.Decision.{ToLeft, ToRight, MarkSame, MarkDir, Conflict}
use Rattle.syn_model.specs.Decision as model
use Rattle.syn_model.specs.Path.{Path, parent}
use Rattle.syn_model.specs.Tree.{subtree}
use Rattle.syn_propagate.specs.Transfers.{spec_of}
use Rattle.syn_scan.specs.Found.{Found, position_of}
use Rattle.syn_session.specs.declared.plan_progress.Carrying.{Carrying}
use Rattle.syn_session.specs.declared.doing.Doing.{Doing}
use Rattle.syn_session.specs.declared.doing.Doing.TheVariants as has
use Rattle.syn_image.specs.Archives.{kept_for}

-- what stands at the path on the source is carried for the item with the number
pub record IsCarriedFrom (carrying : Carrying) (source : Side) (item : ℕ) (path : Path)
    (from to : Found) : Type 0 where
  pub spec : spec_of carrying.transfer ≡ record {
    source = source;
    item = item;
    path = path;
    source_since = position_of from (parent path);
    target_since = position_of to (parent path);
  }
  pub record_is : kept_for carrying.item_record ≡ Recorded path (subtree from.marks path)

-- by the item alone, and what both scans have at its path
abbrev pub IsDoingFor : model.Item → ℕ → Found → Found → Doing → Type 0
IsDoingFor item number left right has.Nothing = ⊥
IsDoingFor item number left right (has.Conflict path) = item ≡ Conflict path
IsDoingFor item number left right (has.Mark item_record) =
    ((path : Path) × (item ≡ MarkSame path)
    × (kept_for item_record ≡ Recorded path (subtree left.marks path)))
    ⊎ ((path : Path) × (item ≡ MarkDir path) × (kept_for item_record ≡ RecordedDir path))
IsDoingFor item number left right (has.Carry carrying) =
    ((path : Path) × (item ≡ ToLeft path)
    × IsCarriedFrom carrying side.Right number path right left)
    ⊎ ((path : Path) × (item ≡ ToRight path)
    × IsCarriedFrom carrying side.Left number path left right)

-- the marks at the path are to be recorded
abbrev pub IsMarked : Path → Found → Doing → Type 0
IsMarked path left (has.Mark item_record) =
    kept_for item_record ≡ Recorded path (subtree left.marks path)
IsMarked path left _ = ⊥
