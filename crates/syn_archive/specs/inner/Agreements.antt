-- What an archive has in memory, and what a record makes of it.
use Rattle.std.specs.Prelude.{◌≡◌, ℕ, List, Option}
use Rattle.syn_model.specs.Path.{Bytes}
use Rattle.syn_model.specs.Tree.{Tree}
use Rattle.syn_model.specs.Archive.{Archive, Kept}
use Rattle.syn_model.specs.ArchiveImage.{ArchiveStandsFor, ArchiveStandsForIn}
use Rattle.syn_model.specs.MarkSpelling.{IsOldArchiveImage}
use Rattle.syn_model.specs.Version.{One}
use Rattle.syn_archive.specs.Keepings.{of_archive}
use Rattle.syn_journal.specs.Machines.{KeptAs}
use Rattle.syn_mark.specs.Changes.{IsPreparedFor, after_change}
use Rattle.syn_image.specs.declared.kept.ArchiveImage.{ArchiveImage}
use Rattle.syn_archive.specs.Disks.{StandsForNone, StandsForNoneIn, StandsForOther}
use Rattle.syn_archive.specs.declared.agreed.Agreed.{Agreed}
use Rattle.syn_archive.specs.declared.agreed.Update.{Update}
use Rattle.syn_archive.specs.declared.agreed.Update.TheVariants.{Session, Marks}
use Rattle.syn_archive.specs.declared.error.ArchiveError.{ArchiveError}
use Rattle.syn_archive.specs.declared.error.ArchiveError.TheVariants.{Memory, Damaged, WrongPair}
use Rattle.syn_archive.specs.declared.error.ArchiveError.TheVariants.{OldVersion}

-- what was read of a disk, in memory
abbrev pub agreed_of : ArchiveImage → Agreed
agreed_of read = record {
  pair = read.pair;
  last_session = read.last_session;
  marks = read.marks;
}

-- the archive of the model
abbrev pub agreed_archive : Agreed → Archive
agreed_archive agreed = record { marks = agreed.marks; last_session = agreed.last_session }

abbrev pub session_after : ℕ → Update → ℕ
session_after last (Session session) = session
session_after last (Marks change) = last

abbrev pub marks_after : Tree → Update → Tree
marks_after marks (Session session) = marks
marks_after marks (Marks change) = after_change marks change

abbrev pub after_update : Agreed → Update → Agreed
after_update agreed update = record {
  pair = agreed.pair;
  last_session = session_after agreed.last_session update;
  marks = marks_after agreed.marks update;
}

-- it is what the coordinator's machine keeps for the pair
pub record RemembersAs (pair : ℕ) (agreed : Agreed) (kept : Archive) : Type 0 where
  pub pair_is : agreed.pair ≡ pair
  pub archive_is : agreed_archive agreed ≡ kept

abbrev pub kept_as : ℕ → KeptAs Agreed Archive Kept
kept_as pair = record { keeping = of_archive pair; Remembers = RemembersAs pair }

-- the update may be made
abbrev pub IsReady : Agreed → Update → Type 0
IsReady agreed (Session session) = Unit {0}
IsReady agreed (Marks change) = IsPreparedFor agreed.marks change

-- the image with the payloads stands for the archive, of its pair
abbrev pub Gives : Bytes → List Bytes → Agreed → Type 0
Gives image payloads agreed =
    ArchiveStandsFor agreed.pair image payloads (agreed_archive agreed)

-- why it stands for none of the wanted pair
abbrev pub IsUnread : ArchiveError → Option ℕ → Bytes → List Bytes → Type 0
IsUnread Memory wanted image payloads = Unit {0}
IsUnread Damaged wanted image payloads =
    (¬ IsOldArchiveImage image) × StandsForNone image payloads
IsUnread WrongPair wanted image payloads = StandsForOther wanted image payloads
IsUnread OldVersion wanted image payloads = IsOldArchiveImage image
IsUnread _ wanted image payloads = ⊥

-- the same in the first version, of any pair
abbrev pub GivesOld : Bytes → List Bytes → Agreed → Type 0
GivesOld image payloads agreed =
    ArchiveStandsForIn One agreed.pair image payloads (agreed_archive agreed)

abbrev pub IsUnreadOld : ArchiveError → Bytes → List Bytes → Type 0
IsUnreadOld Memory image payloads = Unit {0}
IsUnreadOld Damaged image payloads = StandsForNoneIn One image payloads
IsUnreadOld _ image payloads = ⊥

-- and why for none of the same pair
abbrev pub IsUnreadAgain : ArchiveError → Agreed → Bytes → List Bytes → Type 0
IsUnreadAgain Memory agreed image payloads = Unit {0}
IsUnreadAgain Damaged agreed image payloads =
    (archive : Archive) → ¬ ArchiveStandsFor agreed.pair image payloads archive
IsUnreadAgain _ agreed image payloads = ⊥
