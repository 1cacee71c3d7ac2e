-- What a migration leaves of a disk, where it was first read as an archive's.
use Rattle.std.proofs.Common.{◌≡◌, ◌⊎◌, ◌∙◌, ◌++◌, ℕ, List, ◌∷◌, inl, inr, sym, ap, arith}
use Rattle.syn_archive.specs.Disks as archive
use Rattle.syn_archive.specs.declared.error.ArchiveError.{ArchiveError}
use Rattle.syn_archive.specs.declared.error.ArchiveError.TheVariants.{Damaged, Device, Full, Memory}
use Rattle.syn_disk.specs.Stops.{LeavesOnly, Untouched}
use Rattle.syn_disk.specs.declared.disk.Disk.{Ghosts}
use Rattle.syn_journal.proofs.Moments.{in_turn, weakened}
use Rattle.syn_journal.specs.Layout.{Value, meaning}
use Rattle.syn_model.specs.Archive as model
use Rattle.syn_model.specs.History.{History}
use Rattle.syn_model.specs.Image.{replica_front}
use Rattle.syn_model.specs.MarkSpelling.{archive_front}
use Rattle.syn_model.specs.Path.{Bytes}
use Rattle.syn_model.specs.Version.{Version, One}
use Rattle.syn_journal.proofs.Meanings.{one_value}
use Rattle.syn_replica.specs.Disks as replica
use Rattle.syn_replica.specs.Migrating.{OrBefore}

-- an archive's damage says that nothing was written
pub only_read : {A : Type 0} (e : ArchiveError) → e ≡ Damaged → (e ≡ Device) ⊎ A → A
only_read e is (inl device) = cc
only_read e is (inr it) = it

-- and that no archive is there
pub not_lawful : {A : Type 0} (e : ArchiveError) → e ≡ Damaged
    → (e ≡ Full) ⊎ ((e ≡ Device) ⊎ (e ≡ Memory)) → A
not_lawful e is (inl full) = cc
not_lawful e is (inr (inl device)) = cc
not_lawful e is (inr (inr memory)) = cc

-- what keeps an archive stands for it
pub keeps_stands : (version : Version) (pair : ℕ) (kept : model.Archive) (left generation : ℕ)
    (bytes : List ℕ) → archive.DiskKeepsIn version pair kept left generation bytes
    → archive.DiskStandsIn version pair bytes kept
keeps_stands version pair kept left generation bytes keeps = record {
  value = keeps.value;
  means = keeps.journal.means;
  stands = keeps.stands;
}

-- ---- the letters of an image

-- the last of the letters
letter_of : Bytes → ℕ
letter_of (a ∷ b ∷ c ∷ letter ∷ rest) = letter
letter_of bytes = 0

other_letters : (of_replica of_archive : Version) (rest more : Bytes)
    → replica_front of_replica ++ rest ≡ archive_front of_archive ++ more → ⊥
unfolding letter_of
other_letters of_replica of_archive rest more same =
    let letters : 82 ≡ 65 = ap letter_of same in absurd (omega (arith, letters))

-- a disk of a replica is not an archive's of version 1
pub no_old_archive : (version : Version) (pair : ℕ) (history : History) (left generation : ℕ)
    (bytes : List ℕ) → replica.DiskKeepsIn version pair history left generation bytes
    → ¬ archive.IsOldDisk bytes
no_old_archive version pair history left generation bytes keeps old =
    let same : keeps.value ≡ old.0 =
    one_value (meaning bytes) keeps.value old.0 keeps.journal.means old.1 in
    let images = ap (λ (v : Value). v.image) same in
    other_letters version One _ old.2.0 (sym keeps.stands.gives.image_is ∙ (images ∙ old.2.1))

-- ---- what a stop leaves

module _ {D : Type 0} (disk : Ghosts D) (Q : List ℕ → Type 0) where
  -- of a run that writes nothing
  pub stays : (old new : D)
      → Untouched disk.seen disk.may_leave disk.moment disk.left_since old new
      → LeavesOnly disk.moment disk.left_since old new (OrBefore (disk.may_leave old) Q)
  stays old new untouched =
      weakened disk.moment disk.left_since old new (disk.may_leave old)
      (OrBefore (disk.may_leave old) Q) (λ c was. inl was) untouched.any_moment

  -- and of another after it
  pub then_leaves : (old mid new : D)
      → Untouched disk.seen disk.may_leave disk.moment disk.left_since old mid
      → LeavesOnly disk.moment disk.left_since mid new (OrBefore (disk.may_leave mid) Q)
      → LeavesOnly disk.moment disk.left_since old new (OrBefore (disk.may_leave old) Q)
  then_leaves old mid new untouched leaves =
      in_turn disk.moment disk.left_since old mid new (OrBefore (disk.may_leave old) Q)
      (stays old mid untouched)
      (weakened disk.moment disk.left_since mid new (OrBefore (disk.may_leave mid) Q)
      (OrBefore (disk.may_leave old) Q) earlier leaves)
    where
      earlier : (c : List ℕ) → OrBefore (disk.may_leave mid) Q c
          → OrBefore (disk.may_leave old) Q c
      earlier c (inl was) = inl (untouched.nothing_new c was)
      earlier c (inr is) = inr is
