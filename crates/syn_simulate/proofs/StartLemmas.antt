-- A disk that was just formatted can start its machine, and three of them are those of a pair.
use Rattle.std.proofs.Common.{◌≡◌, ◌∙◌, [], ap, arith, inl, inr, refl, subst, sym, true, true≢false}
use Rattle.std.specs.List.{list_any}
use Rattle.std.specs.Prelude.{◌==◌, ◌⊎◌}
use Rattle.syn_archive.specs.Archive as archives
use Rattle.syn_archive.specs.Refusals as archive_refusals
use Rattle.syn_archive.specs.Refusals.{IsOfFormat}
use Rattle.syn_archive.specs.declared.archive.Archive.{Archive}
use Rattle.syn_archive.specs.declared.error.ArchiveError.{ArchiveError}
use Rattle.syn_archive.specs.declared.error.ArchiveError.TheVariants as archive_errors
use Rattle.syn_disk.specs.Arms.{Arms, is_stopped, no_arms}
use Rattle.syn_disk.specs.Calls.{Makes}
use Rattle.syn_disk.specs.declared.disk.Disk.{Ghosts}
use Rattle.syn_runs.specs.Acknowledged.{history_of}
use Rattle.syn_runs.specs.Headline.{IsPair, formatted}
use Rattle.syn_machine.specs.Network.{Which, Left, Right}
use Rattle.syn_world.specs.Starts.{CanStart, IsFromOutside}
use Rattle.syn_journal.specs.Calls.{IsFree}
use Rattle.syn_model.specs.Archive.{new_archive}
use Rattle.syn_model.specs.ArchiveImage.{ArchiveStandsFor}
use Rattle.syn_model.specs.Image.{StandsFor}
use Rattle.syn_model.specs.Refusal.{Refusal, Device, Memory, number}
use Rattle.syn_journal.specs.Calls.{armed_at}
use Rattle.syn_world.specs.CrashSafety.{disk_of}
use Rattle.syn_archive.specs.Keepings.{of_archive}
use Rattle.syn_replica.specs.Keepings.{of_side}
use Rattle.syn_journal.specs.Meaning.{IsDiskOf}
use Rattle.syn_refusal.specs.Refusals.{cause_of}
use Rattle.syn_refusal.specs.declared.refusal.Refusal as refusals
use Rattle.syn_replica.specs.Refusals.{IsOneOf, format_refusals}
use Rattle.syn_replica.specs.ErrorRefusals.{refusal_of}
use Rattle.syn_replica.specs.Replica as replicas
use Rattle.syn_replica.specs.declared.error.ReplicaError.{ReplicaError}
use Rattle.syn_replica.specs.declared.replica.Replica.{Replica}
use Rattle.syn_world.specs.Openings.{StandFor, shown_on}
use Rattle.syn_world.specs.declared.world.Disks.{Disks}

-- what a replica's format is refused with lies outside
format_cause : (cause : Refusal)
    → list_any (λ why. number why == number cause) format_refusals ≡ true
    → (cause ≡ Device) ⊎ (cause ≡ Memory)
format_cause Device h = inl refl
format_cause Memory h = inr refl
format_cause _ h = absurd (true≢false (sym h))

pub side_outside : (refusal : refusals.Refusal) (error : ReplicaError)
    → IsOneOf format_refusals error → cause_of refusal ≡ refusal_of error → IsFromOutside refusal
side_outside refusal error one is = elim (format_cause (refusal_of error) one) [
  | inl device ↦ inl (is ∙ device)
  | inr memory ↦ inr (is ∙ memory)
]

-- and so does that of an archive's
pub archive_outside : (refusal : refusals.Refusal) (error : ArchiveError) → IsOfFormat error
    → cause_of refusal ≡ archive_refusals.refusal_of error → IsFromOutside refusal
archive_outside refusal archive_errors.Device of_format is = inl is
archive_outside refusal archive_errors.Memory of_format is = inr is
archive_outside refusal _ of_format is = absurd of_format

-- where nothing is armed, seven device calls leave it so
free_after : (old new : Arms) → old ≡ no_arms → Makes 7 old new → IsFree new
unfolding Makes
free_after old new unarmed makes =
    let still : new ≡ no_arms = (subst (λ arms. Makes 7 arms new) unarmed makes).1.1.1.1.1.1.1 in
    record { goes = ap is_stopped still; unarmed_is = ap armed_at still }

module _ {D : Type 0} (disk : Ghosts D) where
  pub side_can : (old : Arms) (replica : Replica D disk) (made : D) → old ≡ no_arms
      → Makes 7 old (disk.arms (replicas.disk_of replica)) → replicas.pair_of replica ≡ 1
      → replicas.Stands replica [] → made ≡ replicas.disk_of replica
      → CanStart (of_side 1) (disk.arms made) (disk.seen made) []
  side_can old replica made unarmed makes pair stands is =
      subst (λ (d : D). CanStart (of_side 1) (disk.arms d) (disk.seen d) []) (sym is)
      (record {
        free = free_after old (disk.arms (replicas.disk_of replica)) unarmed makes;
        is_disk = record {
          value = stands.value;
          generation = replicas.generation_shown replica;
          journal = stands.runs.holds;
          stands = subst (λ p. StandsFor p stands.value.image stands.value.payloads []) pair
              stands.means;
        };
      })

  pub archive_can : (old : Arms) (archive : Archive D disk) (made : D) → old ≡ no_arms
      → Makes 7 old (disk.arms (archives.disk_of archive)) → archives.pair_of archive ≡ 1
      → archives.Stands archive new_archive → made ≡ archives.disk_of archive
      → CanStart (of_archive 1) (disk.arms made) (disk.seen made) new_archive
  archive_can old archive made unarmed makes pair stands is =
      subst (λ (d : D). CanStart (of_archive 1) (disk.arms d) (disk.seen d) new_archive) (sym is)
      (record {
        free = free_after old (disk.arms (archives.disk_of archive)) unarmed makes;
        is_disk = record {
          value = stands.value;
          generation = archives.generation_shown archive;
          journal = stands.runs.holds;
          stands = subst
              (λ p. ArchiveStandsFor p stands.value.image stands.value.payloads new_archive) pair
              stands.means;
        };
      })

  module _ (disks : Disks D)
      (left : CanStart (of_side 1) (disk.arms disks.left) (disk.seen disks.left) [])
      (right : CanStart (of_side 1) (disk.arms disks.right) (disk.seen disks.right) [])
      (archive : CanStart (of_archive 1) (disk.arms disks.archive) (disk.seen disks.archive)
      new_archive) where
    side_is : (which : Which) → IsDiskOf (of_side 1) (disk_of (shown_on disk.seen disks) which)
        (history_of formatted which)
    side_is Left = left.is_disk
    side_is Right = right.is_disk

    pub stand_for : IsPair formatted → StandFor disk.seen disk.arms 1 disks formatted
    stand_for pair = record {
      fits = omega arith;
      left = left.free;
      right = right.free;
      archive = archive.free;
      stand = record { side = side_is; archive = archive.is_disk; is_pair = pair };
    }
