-- What an image and payloads give a replica to remember, and why they give it nothing.
use Rattle.std.specs.Prelude.{◌≡◌, ◌≤◌, ◌<◌, ◌⊎◌, ◌^◌, ℕ, List, Option, Some}
use Rattle.syn_model.specs.Path.{Bytes}
use Rattle.syn_replica.specs.Keepings.{of_side}
use Rattle.syn_journal.specs.Machines.{KeptAs}
use Rattle.syn_model.specs.Event.{Event}
use Rattle.syn_model.specs.History.{History, IsHistory, standing_of}
use Rattle.syn_model.specs.Image as model
use Rattle.syn_model.specs.Image.{GivesIn, IsOldImage, IsStanding, image_spelling}
use Rattle.syn_model.specs.Standing.{Standing, standing_after}
use Rattle.syn_model.specs.Version.{One}
use Rattle.syn_replica.specs.Readings.{GivesNothing, GivesNothingIn, GivesOtherPair}
use Rattle.syn_replica.specs.Updates.{IsOf}
use Rattle.syn_replica.specs.declared.error.ReplicaError.{ReplicaError}
use Rattle.syn_replica.specs.declared.error.ReplicaError.TheVariants.{Memory, Damaged, WrongPair}
use Rattle.syn_replica.specs.declared.error.ReplicaError.TheVariants.{OldVersion}
use Rattle.syn_replica.specs.declared.standing.Update.{Update}
use Rattle.syn_replica.specs.declared.remembered.Remembered.{Remembered}

-- its image
abbrev pub image_of : Remembered → Bytes
image_of memory = image_spelling memory.pair memory.standing

-- an image and payloads give it
abbrev pub Gives : Bytes → List Bytes → Remembered → Type 0
Gives image payloads memory = model.Gives memory.pair image payloads memory.standing

-- why they give nothing of the wanted pair
abbrev pub IsUnread : ReplicaError → Option ℕ → Bytes → List Bytes → Type 0
IsUnread Memory wanted image payloads = Unit {0}
IsUnread Damaged wanted image payloads = (¬ IsOldImage image) × GivesNothing image payloads
IsUnread WrongPair wanted image payloads = GivesOtherPair wanted image payloads
IsUnread OldVersion wanted image payloads = IsOldImage image
IsUnread _ wanted image payloads = ⊥

-- in version 1 they give it, and an image of version 2 may hold it
abbrev pub GivesOld : Bytes → List Bytes → Remembered → Type 0
GivesOld image payloads memory =
    GivesIn One memory.pair image payloads memory.standing × IsStanding memory.standing

abbrev pub IsUnreadOld : ReplicaError → Bytes → List Bytes → Type 0
IsUnreadOld Memory image payloads = Unit {0}
IsUnreadOld Damaged image payloads = GivesNothingIn One image payloads
IsUnreadOld _ image payloads = ⊥

-- it is of the same pair, with no fewer events
pub record MayFollow (old new : Remembered) : Type 0 where
  pub pair : new.pair ≡ old.pair
  pub position : old.standing.position ≤ new.standing.position

-- they give fewer events than are remembered
pub record GivesLess (memory : Remembered) (image : Bytes) (payloads : List Bytes) : Type 0 where
  pub standing : Standing
  pub gives : model.Gives memory.pair image payloads standing
  pub fewer : standing.position < memory.standing.position

-- why they give nothing that may follow
abbrev pub IsNoNext : ReplicaError → Remembered → Bytes → List Bytes → Type 0
IsNoNext Memory memory image payloads = Unit {0}
IsNoNext Damaged memory image payloads =
    GivesNothing image payloads
    ⊎ (GivesLess memory image payloads ⊎ GivesOtherPair (Some memory.pair) image payloads)
IsNoNext _ memory image payloads = ⊥

-- and its pair fits in 64 bits
abbrev pub IsUnreadAgain : ReplicaError → Remembered → Bytes → List Bytes → Type 0
IsUnreadAgain error memory image payloads =
    (memory.pair < 2 ^ 64) × IsNoNext error memory image payloads

-- it is what the machine of a side keeps for the pair
pub record RemembersAs (pair : ℕ) (memory : Remembered) (history : History) : Type 0 where
  pub pair_is : memory.pair ≡ pair
  pub lawful : IsHistory history
  pub standing : memory.standing ≡ standing_of history

abbrev pub kept_as : ℕ → KeptAs Remembered History Event
kept_as pair = record { keeping = of_side pair; Remembers = RemembersAs pair }

-- the update makes the step of an event
pub record StepsBy (old : Remembered) (update : Update) (new : Remembered) : Type 0 where
  pub pair : new.pair ≡ old.pair
  pub standing : (event : Event) → IsOf old.standing event update →
      new.standing ≡ standing_after old.standing event
