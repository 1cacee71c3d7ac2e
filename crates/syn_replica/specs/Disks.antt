-- What the bytes of a disk stand for.
use Rattle.std.specs.Prelude.{◌≡◌, ◌⊎◌, ◌<◌, ℕ, List, [], Ok, Err, Option, Some}
use Rattle.syn_journal.specs.Layout.{Value, HasJournal, meaning, bytes_left, record_size}
use Rattle.syn_journal.specs.Layout.{image_alone, no_image, damaged}
use Rattle.syn_journal.specs.declared.error.JournalError.TheVariants as journal
use Rattle.syn_model.specs.Event.{Event}
use Rattle.syn_model.specs.Standing.{Standing}
use Rattle.syn_model.specs.History.{History}
use Rattle.syn_model.specs.Spelling.{event_spelling}
use Rattle.syn_model.specs.Version.{Version, current_version}
use Rattle.syn_model.specs.Image.{GivesIn, StandsFor, StandsForIn, IsOldImage, image_spelling}
use Rattle.syn_replica.specs.Readings.{GivesOtherPair, GivesNothing, GivesNothingIn}
use Rattle.syn_replica.specs.declared.error.ReplicaError.{ReplicaError}
use Rattle.syn_replica.specs.declared.error.ReplicaError.TheVariants.{Journal, Memory, Damaged}
use Rattle.syn_replica.specs.declared.error.ReplicaError.TheVariants.{WrongPair, OldVersion}

-- in a version a replica disk of the pair stands for the history
pub record DiskStandsIn (version : Version) (pair : ℕ) (bytes : List ℕ) (history : History)
    : Type 0 where
  pub value : Value
  pub means : meaning bytes ≡ Ok value
  pub stands : StandsForIn version pair value.image value.payloads history

abbrev pub DiskStands : ℕ → List ℕ → History → Type 0
DiskStands = DiskStandsIn current_version

-- how many bytes the record of an event takes
abbrev pub event_size : Event → ℕ
event_size event = record_size (event_spelling event)

-- it stands for the history; so many bytes of its journal are left for records, and this is its
-- generation
pub record DiskKeepsIn (version : Version) (pair : ℕ) (history : History) (left generation : ℕ)
    (bytes : List ℕ) : Type 0 where
  pub value : Value
  pub journal : HasJournal bytes value generation
  pub stands : StandsForIn version pair value.image value.payloads history
  pub left_is : bytes_left value ≡ left

abbrev pub DiskKeeps : ℕ → History → ℕ → ℕ → List ℕ → Type 0
DiskKeeps = DiskKeepsIn current_version

-- it stands for the history by its image alone, which is that of the standing
pub record DiskCompacted (pair : ℕ) (history : History) (standing : Standing) (generation : ℕ)
    (bytes : List ℕ) : Type 0 where
  pub journal : HasJournal bytes (image_alone (image_spelling pair standing)) generation
  pub stands : StandsFor pair (image_spelling pair standing) [] history

-- an image of the pair, and after it the payloads of events that are allowed in turn, give this
-- standing in a version
pub record DiskGivesIn (version : Version) (pair : ℕ) (bytes : List ℕ) (standing : Standing)
    : Type 0 where
  pub value : Value
  pub means : meaning bytes ≡ Ok value
  pub gives : GivesIn version pair value.image value.payloads standing

abbrev pub DiskGives : ℕ → List ℕ → Standing → Type 0
DiskGives = DiskGivesIn current_version

-- a replica disk of another pair than the wanted one
pub record IsOfOtherPair (wanted : Option ℕ) (bytes : List ℕ) : Type 0 where
  pub value : Value
  pub means : meaning bytes ≡ Ok value
  pub other : GivesOtherPair wanted value.image value.payloads

-- a disk whose image is of version 1, whatever else it holds
pub record IsOldDisk (bytes : List ℕ) : Type 0 where
  pub value : Value
  pub means : meaning bytes ≡ Ok value
  pub old : IsOldImage value.image

-- the disk has a journal, whose image and payloads give nothing in a version
pub record MeansNothingIn (version : Version) (bytes : List ℕ) : Type 0 where
  pub value : Value
  pub means : meaning bytes ≡ Ok value
  pub nothing : GivesNothingIn version value.image value.payloads

-- they give nothing, and the image is not of version 1
pub record IsUnlawful (bytes : List ℕ) : Type 0 where
  pub value : Value
  pub means : meaning bytes ≡ Ok value
  pub nothing : GivesNothing value.image value.payloads
  pub not_old : ¬ IsOldImage value.image

-- it gives fewer events than were remembered
pub record GivesFewer (pair position : ℕ) (bytes : List ℕ) : Type 0 where
  pub standing : Standing
  pub gives : DiskGives pair bytes standing
  pub fewer : standing.position < position

-- why a disk is not opened, and what that says of its bytes
abbrev pub IsOpenRefusal : ReplicaError → Option ℕ → List ℕ → Type 0
IsOpenRefusal (Journal journal.Device) wanted bytes = Unit {0}
IsOpenRefusal (Journal journal.Memory) wanted bytes = Unit {0}
IsOpenRefusal (Journal journal.NoImage) wanted bytes = meaning bytes ≡ Err no_image
IsOpenRefusal (Journal journal.Damaged) wanted bytes = meaning bytes ≡ Err damaged
IsOpenRefusal Memory wanted bytes = Unit {0}
IsOpenRefusal Damaged wanted bytes = IsUnlawful bytes
IsOpenRefusal WrongPair wanted bytes = IsOfOtherPair wanted bytes
IsOpenRefusal OldVersion wanted bytes = IsOldDisk bytes
IsOpenRefusal _ wanted bytes = ⊥

-- why it is not opened again by a replica of the pair that remembers so many events, which has no
-- refusal of its own for an image of version 1 or of another pair
abbrev pub IsReopenRefusal : ReplicaError → ℕ → ℕ → List ℕ → Type 0
IsReopenRefusal Damaged pair position bytes =
    MeansNothingIn current_version bytes
    ⊎ (GivesFewer pair position bytes ⊎ IsOfOtherPair (Some pair) bytes)
IsReopenRefusal WrongPair pair position bytes = ⊥
IsReopenRefusal OldVersion pair position bytes = ⊥
IsReopenRefusal error pair position bytes = IsOpenRefusal error (Some pair) bytes
