-- Why a disk is not migrated.
use Rattle.std.proofs.Common.{◌≡◌, ◌<◌, ◌^◌, ℕ, List, refl, subst, inl, inr, Ok}
use Rattle.syn_journal.specs.Layout.{Value, meaning}
use Rattle.syn_journal.specs.declared.error.JournalError.TheVariants as refused
use Rattle.syn_model.specs.History.{History, standing_of}
use Rattle.syn_model.specs.Image.{GivesIn}
use Rattle.syn_model.specs.Standing.{Standing}
use Rattle.syn_model.specs.Version.{Version, One, Two}
use Rattle.syn_replica.specs.declared.error.ReplicaError.{ReplicaError}
use Rattle.syn_replica.specs.declared.error.ReplicaError.TheVariants.{Tree, History as OfHistory}
use Rattle.syn_replica.specs.declared.error.ReplicaError.TheVariants.{Journal, Memory, Touched}
use Rattle.syn_replica.specs.declared.error.ReplicaError.TheVariants.{OldSession, Damaged}
use Rattle.syn_replica.specs.declared.error.ReplicaError.TheVariants.{WrongPair, OldVersion}
use Rattle.syn_replica.specs.Disks.{DiskStandsIn, IsOldDisk, IsUnlawful, MeansNothingIn}
use Rattle.syn_replica.specs.Migrating.{IsMigrateRefusal, IsOldAndFull}
use Rattle.syn_replica.specs.Refusals.{IsOneOf, greatest_refusals, lawful_refusals}
use Rattle.syn_journal.proofs.Meanings.{no_value, one_value}
use Rattle.syn_replica.proofs.VersionLemmas.{not_old, old_of}

-- ---- why a disk that stands for a history is not migrated

module _ (pair : ℕ) (bytes : List ℕ) (standing : Standing) (fits : pair < 2 ^ 64) where
  -- it gives something in its version
  not_unlawful : (version : Version) (u : IsUnlawful bytes) →
      GivesIn version pair u.value.image u.value.payloads standing → ⊥
  not_unlawful One u gives =
      u.not_old (old_of pair u.value.image u.value.payloads standing gives)
  not_unlawful Two u gives = u.nothing pair standing fits gives

  not_old_unlawful : (version : Version) → IsOldDisk bytes → MeansNothingIn One bytes →
      ((value : Value) → meaning bytes ≡ Ok value →
      GivesIn version pair value.image value.payloads standing) → ⊥
  not_old_unlawful One old m gives = m.nothing pair standing fits (gives m.value m.means)
  not_old_unlawful Two old m gives =
      not_old pair old.value.image old.value.payloads standing (gives old.value old.means) old.old

module _ (version : Version) (pair : ℕ) (bytes : List ℕ) (history : History)
    (fits : pair < 2 ^ 64) (there : DiskStandsIn version pair bytes history) where
  given_there : (value : Value) → meaning bytes ≡ Ok value →
      GivesIn version pair value.image value.payloads (standing_of history)
  given_there value means =
      subst (λ (v : Value). GivesIn version pair v.image v.payloads (standing_of history))
      (one_value (meaning bytes) there.value value there.means means) there.stands.gives

  pub migrates_lawful : (e : ReplicaError) → IsMigrateRefusal e bytes →
      IsOneOf lawful_refusals e
  migrates_lawful (Journal refused.Full) h = refl
  migrates_lawful (Journal refused.Device) h = refl
  migrates_lawful (Journal refused.Memory) h = refl
  migrates_lawful (Journal refused.JournalFull) h = absurd h
  migrates_lawful (Journal refused.Halted) h = absurd h
  migrates_lawful (Journal refused.NoImage) h =
      absurd (no_value (meaning bytes) there.value _ there.means h)
  migrates_lawful (Journal refused.Damaged) h =
      absurd (no_value (meaning bytes) there.value _ there.means h)
  migrates_lawful (Tree e) h = absurd h
  migrates_lawful (OfHistory e) h = absurd h
  migrates_lawful Memory h = refl
  migrates_lawful Touched h = absurd h
  migrates_lawful OldSession h = absurd h
  migrates_lawful Damaged (inl u) =
      absurd (not_unlawful pair bytes (standing_of history) fits version u
      (given_there u.value u.means))
  migrates_lawful Damaged (inr m) =
      absurd (not_old_unlawful pair bytes (standing_of history) fits version m.0 m.1 given_there)
  migrates_lawful WrongPair h = absurd h
  migrates_lawful OldVersion h = absurd h

-- and one of version 1 whose generation is the greatest
pub migrates_greatest : (e : ReplicaError) (bytes : List ℕ) → IsOldAndFull bytes →
    IsMigrateRefusal e bytes → IsOneOf greatest_refusals e
migrates_greatest (Journal refused.Full) bytes full h = refl
migrates_greatest (Journal refused.Device) bytes full h = refl
migrates_greatest (Journal refused.Memory) bytes full h = refl
migrates_greatest (Journal refused.JournalFull) bytes full h = absurd h
migrates_greatest (Journal refused.Halted) bytes full h = absurd h
migrates_greatest (Journal refused.NoImage) bytes full h =
    absurd (no_value (meaning bytes) full.value _ full.journal.means h)
migrates_greatest (Journal refused.Damaged) bytes full h =
    absurd (no_value (meaning bytes) full.value _ full.journal.means h)
migrates_greatest (Tree e) bytes full h = absurd h
migrates_greatest (OfHistory e) bytes full h = absurd h
migrates_greatest Memory bytes full h = refl
migrates_greatest Touched bytes full h = absurd h
migrates_greatest OldSession bytes full h = absurd h
migrates_greatest Damaged bytes full h = refl
migrates_greatest WrongPair bytes full h = absurd h
migrates_greatest OldVersion bytes full h = absurd h
