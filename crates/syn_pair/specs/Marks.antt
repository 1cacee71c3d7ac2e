-- When a folder's marks are of a replica, why they are not, and how what is kept of it is spelled.
use Rattle.std.specs.Prelude.{◌≡◌, ◌++◌, ◌∷◌, [], Bool, Some, false, true}
use Rattle.syn_message.specs.Statuses.{stated_spelling}
use Rattle.syn_model.specs.Path.{Bytes}
use Rattle.syn_model.specs.Refusal.{Refusal, WrongPair}
use Rattle.syn_pair.specs.Belongs.{GoesOn, HasCause}
use Rattle.syn_pair.specs.Folders.{Stamp, stamp_spelling}
use Rattle.syn_pair.specs.Known.{Stated, stated_of}
use Rattle.syn_pair.specs.Refusals.{refusal_for}
use Rattle.syn_pair.specs.Sides.{SideState, side_of}
use Rattle.syn_pair.specs.declared.check.ArchiveStatus.{ArchiveStatus}
use Rattle.syn_pair.specs.declared.check.Cause.{Cause}
use Rattle.syn_pair.specs.declared.marks.MarkedReplica.{MarkedReplica}
use Rattle.syn_pair.specs.declared.marks.MarksMismatch.{MarksMismatch}
use Rattle.syn_pair.specs.declared.marks.MarksMismatch.TheVariants.{Of, Parted}

-- the replica is the one that is known, its history goes on from there, and it always did
pub record AreOf (marked : MarkedReplica) (side : SideState) : Type 0 where
  pub always : marked.is_parted ≡ false
  pub goes : GoesOn (side_of marked.known) side

-- why the marks are not of it
pub data AreNotOf (marked : MarkedReplica) (side : SideState) : MarksMismatch → Type 0 where
  parted : marked.is_parted ≡ true → AreNotOf marked side Parted
  of_cause : (why : Cause) → ((archive : ArchiveStatus) →
      HasCause archive (Some (side_of marked.known)) side why) → AreNotOf marked side (Of why)

abbrev pub refusal_of : MarksMismatch → Refusal
refusal_of Parted = WrongPair
refusal_of (Of why) = refusal_for why

abbrev pub flag_spelling : Bool → Bytes
flag_spelling false = 0 ∷ []
flag_spelling true = 1 ∷ []

-- "SYNM" and the version, 1 where the replica has parted from the marks, the folder's stamp, and
-- what the replica stated
abbrev pub marked_spelling : Bool → Stamp → Stated → Bytes
marked_spelling is_parted folder stated =
    (0x53 ∷ 0x59 ∷ 0x4e ∷ 0x4d ∷ 1 ∷ []) ++ (flag_spelling is_parted
    ++ (stamp_spelling folder ++ stated_spelling stated))
