-- When a folder's marks are of a folder, why they are not, and how its stamp is spelled.
use Rattle.std.specs.Int.{to_be_bytes, w64}
use Rattle.std.specs.Prelude.{◌≡◌, ◌≢◌, ◌<◌, ◌≤◌, ◌++◌, ℕ, None, Option, Some, suc}
use Rattle.syn_model.specs.Path.{Bytes}
use Rattle.syn_pair.specs.declared.folder.FolderMismatch.{FolderMismatch}
use Rattle.syn_pair.specs.declared.folder.FolderMismatch.TheVariants.{
  NoNumber,
  OlderFolder,
  OlderMarks,
  OtherFolder,
}
use Rattle.syn_pair.specs.declared.folder.FolderStamp.{FolderStamp}

-- a number, and how often it was raised
abbrev pub Stamp : Type 0
Stamp = Bytes × ℕ

abbrev pub stamp_of : FolderStamp → Stamp
stamp_of stamp = (stamp.number.0, stamp.counter)

-- the folder has the number of the marks, and is in step with them, or one ahead
pub record AreOfFolder (marks : Stamp) (folder : Stamp) : Type 0 where
  pub number : folder.0 ≡ marks.0
  pub least : marks.1 ≤ folder.1
  pub most : folder.1 ≤ suc marks.1

-- why the marks are not of it
pub data AreNotOfFolder (marks : Stamp) : Option Stamp → FolderMismatch → Type 0 where
  no_number : AreNotOfFolder marks None NoNumber
  other : (folder : Stamp) → folder.0 ≢ marks.0 → AreNotOfFolder marks (Some folder) OtherFolder
  older_folder : (folder : Stamp) → folder.1 < marks.1 →
      AreNotOfFolder marks (Some folder) (OlderFolder marks.1 folder.1)
  older_marks : (folder : Stamp) → suc marks.1 < folder.1 →
      AreNotOfFolder marks (Some folder) (OlderMarks marks.1 folder.1)

-- the number, and the counter in eight bytes, the greatest first
abbrev pub stamp_spelling : Stamp → Bytes
stamp_spelling stamp = stamp.0 ++ to_be_bytes w64 stamp.1
