-- An archive without marks makes a start of a run with any two replicas of its pair.
use Rattle.std.proofs.Common.{◌≡◌, ◌<◌, ◌≤◌, ◌^◌, ℕ, ap, subst, sym}
use Rattle.syn_archive.specs.Archive as archives
use Rattle.syn_archive.specs.Archive.{archive_after}
use Rattle.syn_archive.specs.Keepings.{of_archive}
use Rattle.syn_archive.specs.declared.archive.Archive.{Archive}
use Rattle.syn_disk.specs.declared.disk.Disk.{Ghosts}
use Rattle.syn_journal.specs.Meaning.{IsDiskOf}
use Rattle.syn_machine.specs.Network.{Left, Right}
use Rattle.syn_model.specs.Archive as model
use Rattle.syn_model.specs.ArchiveImage.{ArchiveStandsFor}
use Rattle.syn_model.specs.History.{History, last_session}
use Rattle.syn_model.specs.Image.{StandsFor}
use Rattle.syn_replica.specs.Keepings.{of_side}
use Rattle.syn_replica.specs.Replica as replicas
use Rattle.syn_replica.specs.declared.replica.Replica.{Replica}
use Rattle.syn_runs.specs.Acknowledged.{history_of}
use Rattle.syn_runs.specs.Headline.{UnmarkedIsPair, unmarked}
use Rattle.syn_world.specs.CrashSafety.{DiskBytes, DisksStand, UnmarkedStand, disk_of}
use Rattle.syn_world.specs.Following.{BeganUpTo, MeetPremise, disks_under}
use Rattle.syn_world.specs.Openings.{MayHold, shown_on}
use Rattle.syn_world.specs.declared.world.Disks.{Disks}

-- a disk that stands for a history has a lawful one
pub unmarked_stand : UnmarkedIsPair → UnmarkedStand
unmarked_stand is_pair pair session disks left right on_left on_right on_archive above_left
    above_right = record {
      side = λ which. elim which as (λ which. IsDiskOf (of_side pair) (disk_of disks which)
          (history_of (unmarked left right session) which)) [
            | Left ↦ on_left
            | Right ↦ on_right
          ];
      archive = on_archive;
      is_pair = is_pair left right session on_left.stands.lawful on_right.stands.lawful above_left
          above_right;
    }

module _ {D : Type 0} (disk : Ghosts D) (law : UnmarkedStand) (pair : ℕ) where
  -- the disk of a replica stands for its history, and that of an archive for what it keeps
  side_disk : (replica : Replica D disk) (history : History) → replicas.pair_of replica ≡ pair
      → replicas.Stands replica history
      → IsDiskOf (of_side pair) (disk.seen (replicas.disk_of replica)) history
  side_disk replica history of_pair stands = record {
    value = stands.value;
    generation = replicas.generation_shown replica;
    journal = stands.runs.holds;
    stands = subst (λ p. StandsFor p stands.value.image stands.value.payloads history) of_pair
        stands.means;
  }

  archive_disk : (archive : Archive D disk) (kept : model.Archive)
      → archives.pair_of archive ≡ pair → archives.Stands archive kept
      → IsDiskOf (of_archive pair) (disk.seen (archives.disk_of archive)) kept
  archive_disk archive kept of_pair stands = record {
    value = stands.value;
    generation = archives.generation_shown archive;
    journal = stands.runs.holds;
    stands = subst (λ p. ArchiveStandsFor p stands.value.image stands.value.payloads kept) of_pair
        stands.means;
  }

  module _ (session : ℕ) (left right : Replica D disk) (archive : Archive D disk)
      (on_left on_right : History) (is_left : BeganUpTo pair session on_left left)
      (is_right : BeganUpTo pair session on_right right)
      (of_pair : archives.pair_of archive ≡ pair)
      (stands : archives.Stands archive (archive_after session)) where
    abbrev disks : Disks D
    disks = disks_under left right archive

    began : (replica : Replica D disk) (history : History) → BeganUpTo pair session history replica
        → last_session history ≤ session
    began replica history is =
        subst (λ n. n ≤ session) (ap (λ s. s.session) is.stands.remembers.standing) is.begun

    are_pair : (shown : DiskBytes) → IsDiskOf (of_side pair) shown.left on_left
        → IsDiskOf (of_side pair) shown.right on_right
        → IsDiskOf (of_archive pair) shown.archive (archive_after session)
        → DisksStand pair shown (unmarked on_left on_right session)
    are_pair shown of_left of_right of_archive = law pair session shown on_left on_right of_left
        of_right of_archive (began left on_left is_left) (began right on_right is_right)

    left_shown : IsDiskOf (of_side pair) (disk.seen disks.left) on_left
    left_shown = side_disk left on_left is_left.of_pair is_left.stands

    right_shown : IsDiskOf (of_side pair) (disk.seen disks.right) on_right
    right_shown = side_disk right on_right is_right.of_pair is_right.stands

    archive_shown : IsDiskOf (of_archive pair) (disk.seen disks.archive) (archive_after session)
    archive_shown = archive_disk archive (archive_after session) of_pair stands

    -- a stop leaves on each of the three disks what it shows
    may_be_left : (shown : DiskBytes) → MayHold disk.may_leave disks shown
        → DisksStand pair shown (unmarked on_left on_right session)
    may_be_left shown may = are_pair shown
        (subst (λ b. IsDiskOf (of_side pair) b on_left)
        (sym (is_left.stands.runs.durable shown.left may.left)) left_shown)
        (subst (λ b. IsDiskOf (of_side pair) b on_right)
        (sym (is_right.stands.runs.durable shown.right may.right)) right_shown)
        (subst (λ b. IsDiskOf (of_archive pair) b (archive_after session))
        (sym (stands.runs.durable shown.archive may.archive)) archive_shown)

    pub meet_premise : pair < 2 ^ 64
        → MeetPremise disk pair disks (unmarked on_left on_right session)
    meet_premise fits = record {
      stand = λ free. record {
        fits = fits;
        left = free.left;
        right = free.right;
        archive = free.archive;
        stand = are_pair (shown_on disk.seen disks) left_shown right_shown archive_shown;
      };
      left = may_be_left;
    }
