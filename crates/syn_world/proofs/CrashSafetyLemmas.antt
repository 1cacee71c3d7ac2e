-- Three disks are a start, and what a run from them leaves stands for what it acknowledged.
use Rattle.std.proofs.Common.{◌≡◌, ℕ, ◌⊎◌, false, [], ◌∷◌, ◌++◌, Option, Some, None, refl, sym, ap}
use Rattle.std.proofs.Common.{◌∙◌, subst, inl, inr}
use Rattle.syn_model.specs.Path.{Bytes}
use Rattle.syn_model.specs.Event.{Event}
use Rattle.syn_model.specs.History.{History, IsAllowed}
use Rattle.syn_model.specs.Archive.{Archive, Kept, CanKeep, after_kept}
use Rattle.syn_journal.specs.Layout.{bytes_left}
use Rattle.syn_machine.specs.Machine.{Journaled, Up, unarmed}
use Rattle.syn_machine.specs.Network.{Which, Left, Right}
use Rattle.syn_runs.specs.Acknowledged.{Stores, history_of, stores_after, Grown, ArchiveGrown}
use Rattle.syn_runs.specs.World.{World, side_of}
use Rattle.syn_runs.specs.Runs.{stores_of, picture_of, OfEachRun, RunsStand}
use Rattle.syn_runs.specs.Headline.{LeavesPair}
use Rattle.syn_runs.specs.Picture as picture
use Rattle.syn_journal.specs.Meaning.{Keeping, IsDiskOf, IsOf, MayBeOf, as_kept, with_record}
use Rattle.syn_journal.specs.Meaning.{compacted}
use Rattle.syn_archive.specs.Keepings.{of_archive}
use Rattle.syn_replica.specs.Keepings.{of_side}
use Rattle.syn_world.specs.CrashSafety.{DiskBytes, DisksAreStart, DisksStand, IsOpenedFrom}
use Rattle.syn_world.specs.CrashSafety.{RunsRecover, disk_of}
use Rattle.syn_runs.proofs.StandLemmas.{at_start}

-- Before the run

module _ {V W : Type 0} (keeping : Keeping V W) (bytes : Bytes) (kept : V)
    (disk : IsDiskOf keeping bytes kept) where
  -- a machine as an opening of the disk gives it
  abbrev machine_of : Journaled V W
  machine_of = record {
    status = Up;
    value = kept;
    room = bytes_left disk.value;
    generation = disk.generation;
    compacting = false;
    writing = None;
    arms = unarmed;
    failures = 0;
  }

  is_of : IsOf keeping machine_of bytes
  is_of = record {
    value = disk.value;
    generation = disk.generation;
    journal = disk.journal;
    means = record { stands = disk.stands; room = refl; numbered = refl };
  }

module _ (pair : ℕ) (disks : DiskBytes) (stores : Stores) (d : DisksStand pair disks stores) where
  abbrev world_of : World
  world_of = record {
    pair = pair;
    left =
        record {
          journal = machine_of (of_side pair) disks.left stores.left (d.side Left);
          staging = None;
        };
    right =
        record {
          journal = machine_of (of_side pair) disks.right stores.right (d.side Right);
          staging = None;
        };
    coordinator =
        record {
          journal = machine_of (of_archive pair) disks.archive stores.archive d.archive;
          running = None;
        };
    sent = [];
    acknowledged = [];
    refusals = [];
    reports = [];
    log = [];
  }

  each_side : (which : Which) →
      IsOf (of_side pair) (side_of world_of which).journal (disk_of disks which)
  each_side Left = is_of (of_side pair) disks.left stores.left (d.side Left)
  each_side Right = is_of (of_side pair) disks.right stores.right (d.side Right)

  opened_from : IsOpenedFrom pair disks world_of
  opened_from = record {
    pair_is = refl;
    start = record {
      pair = d.is_pair;
      left = ((refl, refl, refl, refl, refl), refl);
      right = ((refl, refl, refl, refl, refl), refl);
      coordinator = ((refl, refl, refl, refl, refl), refl);
      nothing_yet = (refl, refl, refl, refl, refl);
    };
    side = each_side;
    archive = is_of (of_archive pair) disks.archive stores.archive d.archive;
  }

pub disks_are_start : DisksAreStart
disks_are_start pair disks stores d =
    (world_of pair disks stores d, opened_from pair disks stores d, refl)

-- After the run

-- what the disk of a machine stands for: what it keeps, or that with the record that was being
-- written
IsGrown : {V W : Type 0} → Keeping V W → Journaled V W → V → Type 0
IsGrown {W = W} keeping machine kept =
    (kept ≡ machine.value)
    ⊎ ((added : W) × (machine.writing ≡ Some added) × keeping.CanAdd machine.value added
    × (kept ≡ keeping.layout.after machine.value added))

module _ {V W : Type 0} (keeping : Keeping V W) (machine : Journaled V W) (bytes : Bytes) where
  recovers : MayBeOf keeping machine bytes →
      (kept : V) × IsDiskOf keeping bytes kept × IsGrown keeping machine kept
  unfolding IsGrown
  recovers may = elim may.means [
    | as_kept means ↦ (
      machine.value,
      record {
        value = may.value;
        generation = may.generation;
        journal = may.journal;
        stands = means.stands;
      },
      inl refl,
    )
    | with_record means ↦ (
      keeping.layout.after machine.value means.added,
      record {
        value = may.value;
        generation = may.generation;
        journal = may.journal;
        stands = means.stands;
      },
      inr (means.added, means.writing, means.can_add, refl),
    )
    | compacted means ↦ (
      machine.value,
      record {
        value = may.value;
        generation = may.generation;
        journal = may.journal;
        stands = means.stands;
      },
      inl refl,
    )
  ]

same_history : (writing : Option Event) (old new : History) → new ≡ old → Grown writing old new
same_history None old new e = e
same_history (Some event) old new e = inl e

history_grown : (pair : ℕ) (machine : Journaled History Event) (old new : History) →
    machine.value ≡ old → IsGrown (of_side pair) machine new → Grown machine.writing old new
unfolding IsGrown
history_grown pair machine old new is (inl same) = same_history machine.writing old new (same ∙ is)
history_grown pair machine old new is (inr (added, writing, allowed, more)) =
    subst (λ w. Grown w old new) (sym writing)
    (inr (subst (λ h. IsAllowed h added) is allowed, more ∙ ap (λ h. h ++ added ∷ []) is))

same_archive : (writing : Option Kept) (old new : Archive) → new ≡ old →
    ArchiveGrown writing old new
same_archive None old new e = e
same_archive (Some kept) old new e = inl e

archive_grown : (pair : ℕ) (machine : Journaled Archive Kept) (old new : Archive) →
    machine.value ≡ old → IsGrown (of_archive pair) machine new →
    ArchiveGrown machine.writing old new
unfolding IsGrown
archive_grown pair machine old new is (inl same) = same_archive machine.writing old new (same ∙ is)
archive_grown pair machine old new is (inr (added, writing, can, more)) =
    subst (λ w. ArchiveGrown w old new) (sym writing)
    (inr (subst (λ a. CanKeep a added) is can, more ∙ ap (λ a. after_kept a added) is))

pub runs_recover : RunsStand → OfEachRun LeavesPair → RunsRecover
runs_recover stays again pair disks later old new steps opened runs left =
    let before = stores_of old in
    let stands = stays before old new steps runs (at_start old opened.start.nothing_yet.1) in
    let of_left = recovers (of_side new.pair) new.left.journal later.left (left.side Left) in
    let of_right = recovers (of_side new.pair) new.right.journal later.right (left.side Right) in
    let of_both = recovers
    (of_archive new.pair) new.coordinator.journal later.archive left.archive in
    let now : Stores = record { left = of_left.0; right = of_right.0; archive = of_both.0 } in
    let after = stores_after before new.acknowledged in
    let left_grown =
    history_grown new.pair new.left.journal after.left of_left.0 stands.left of_left.2 in
    let right_grown =
    history_grown new.pair new.right.journal after.right of_right.0 stands.right of_right.2 in
    let grown = archive_grown new.pair new.coordinator.journal after.archive of_both.0
    stands.archive of_both.2 in (
      now,
      record {
        stand = record {
          side =
              λ which. elim which as (λ which. IsDiskOf (of_side new.pair) (disk_of later which)
              (history_of now which)) [
                | Left ↦ of_left.1
                | Right ↦ of_right.1
              ];
          archive = of_both.1;
          is_pair =
              again old new steps opened.start runs of_left.0 of_right.0 of_both.0 left_grown
              right_grown grown;
        };
        side =
            λ which. elim which as (λ which. Grown (picture.side_of (picture_of new)
            which).writing
            (history_of after which) (history_of now which)) [
              | Left ↦ left_grown
              | Right ↦ right_grown
            ];
        archive = grown;
      },
    )
