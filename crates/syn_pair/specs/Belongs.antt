-- When two sides and an archive belong together, and why they do not.
use Rattle.std.specs.Prelude.{◌≡◌, ◌<◌, ◌≤◌, Option, Some, None, IfSome, MatchOption, true}
use Rattle.syn_history.specs.Status.{Status}
use Rattle.syn_model.specs.Event.{Token, is_below}
use Rattle.syn_model.specs.Path.{Path}
use Rattle.syn_model.specs.Which.{Which, Left, Right}
use Rattle.syn_pair.specs.Sides.{AreOne, Differ, IsEntry, SideState}
use Rattle.syn_pair.specs.declared.check.ArchiveStatus.{ArchiveStatus}
use Rattle.syn_pair.specs.declared.check.Belonging.{Belonging}
use Rattle.syn_pair.specs.declared.check.Cause.{Cause}
use Rattle.syn_pair.specs.declared.check.Cause.TheVariants as cause
use Rattle.syn_pair.specs.declared.check.Mismatch.{Mismatch}
use Rattle.syn_pair.specs.declared.check.Mismatch.TheVariants as mismatch
use Rattle.syn_pair.specs.declared.side.KnownSides.{KnownSides}
use Rattle.syn_path.specs.declared.side.Side.{Side}

-- tokens go by session, and then by item; none comes before any
abbrev pub IsBefore : Option Token → Option Token → Type 0
IsBefore one None = ⊥
IsBefore None (Some other) = Unit {0}
IsBefore (Some one) (Some other) = is_below one other ≡ true

-- the side keeps the path of its event at the known place, and that is not the known path
pub record HasOtherEvent (known side : Status) : Type 0 where
  pub path : Path
  pub told : known.touch ≡ Some path
  pub place : side.place ≡ known.place
  pub kept : side.floor ≤ known.place
  pub other : ¬ (side.touch ≡ Some path)

-- the side is the known one, and its history goes on from what is known
pub record GoesOn (known side : SideState) : Type 0 where
  pub identity : ¬ Differ known.identity side.identity
  pub session : known.status.session ≤ side.status.session
  pub token : ¬ IsBefore side.status.token known.status.token
  pub position : known.status.position ≤ side.status.position
  pub event : ¬ HasOtherEvent known.status side.status

-- and neither the archive nor what is known is older than it
pub record IsKnown (archive : ArchiveStatus) (side known : SideState) : Type 0 where
  pub known_session : known.status.session ≤ archive.session
  pub replaced : IfSome side.status.token (λ token. token.session ≤ known.status.session)
  pub goes : GoesOn known side

-- a side of which nothing is known has begun the last session of an archive that has marks
abbrev pub IsCurrent : ArchiveStatus → SideState → Type 0
IsCurrent archive side = archive.has_marks ≡ true → side.status.session ≡ archive.session

-- the side is the one that the archive belongs to, by what is known of it, if anything is
pub record Fits (archive : ArchiveStatus) (known : Option SideState) (side : SideState) : Type 0
  where
    pub session : side.status.session ≤ archive.session
    pub entry : MatchOption known (IsCurrent archive side) (IsKnown archive side)

-- why it is not
pub data HasCause (archive : ArchiveStatus) (known : Option SideState) (side : SideState)
    : Cause → Type 0 where
  older_archive : archive.session < side.status.session →
      HasCause archive known side (cause.OlderArchive archive.session side.status.session)
  unknown : known ≡ None → archive.has_marks ≡ true →
      ¬ (side.status.session ≡ archive.session) →
      HasCause archive known side (cause.Unknown archive.session side.status.session)
  older_than_known : (found : SideState) → known ≡ Some found →
      archive.session < found.status.session →
      HasCause archive known side (cause.OlderThanKnown archive.session found.status.session)
  older_known : (found : SideState) (token : Token) → known ≡ Some found →
      side.status.token ≡ Some token → found.status.session < token.session →
      HasCause archive known side (cause.OlderKnown found.status.session token.session)
  other_replica : (found : SideState) → known ≡ Some found →
      Differ found.identity side.identity → HasCause archive known side cause.OtherReplica
  older_session : (found : SideState) → known ≡ Some found →
      side.status.session < found.status.session →
      HasCause archive known side
      (cause.OlderSession found.status.session side.status.session)
  older_replacement : (found : SideState) → known ≡ Some found →
      IsBefore side.status.token found.status.token →
      HasCause archive known side cause.OlderReplacement
  older_position : (found : SideState) → known ≡ Some found →
      side.status.position < found.status.position →
      HasCause archive known side
      (cause.OlderPosition found.status.position side.status.position)
  other_event : (found : SideState) → known ≡ Some found →
      HasOtherEvent found.status side.status →
      HasCause archive known side (cause.OtherEvent found.status.place)

module _ (archive : ArchiveStatus) (known : Option KnownSides) where
  -- the same of the side of a name
  abbrev pub FitsAt : Which → SideState → Type 0
  FitsAt name side = (entry : Option SideState) × IsEntry known name side.identity entry
      × Fits archive entry side

  abbrev pub HasCauseAt : Which → SideState → Cause → Type 0
  HasCauseAt name side why = (entry : Option SideState) × IsEntry known name side.identity entry
      × HasCause archive entry side why

  -- A session may begin with the two sides. A replica of another pair is left to it
  pub record BelongTogether (left right : SideState) : Type 0 where
    pub two : ¬ AreOne left.identity right.identity
    pub fit : left.status.pair ≡ archive.pair → right.status.pair ≡ archive.pair →
        FitsAt Left left × FitsAt Right right

  -- why none may
  pub data IsApart (left right : SideState) : Mismatch → Type 0 where
    one_replica : AreOne left.identity right.identity → IsApart left right mismatch.OneReplica
    left_is_not : (why : Cause) → HasCauseAt Left left why →
        IsApart left right (mismatch.Of Side.Left why)
    right_is_not : (why : Cause) → HasCauseAt Right right why →
        IsApart left right (mismatch.Of Side.Right why)

-- the archive of which a session may begin
abbrev pub archive_in : Belonging → ArchiveStatus
archive_in belonging = belonging.archive
