-- What is remembered of a record that could not be kept.
use Rattle.std.proofs.Common.{◌≡◌, ◌≢◌, ◌≤◌, ◌-◌, ◌||◌, ℕ, true, nat_le, List, [], ◌∷◌, length}
use Rattle.std.proofs.Common.{Option, Some, None, refl, sym, ap, ◌∙◌, subst, arith}
use Rattle.std.proofs.lemmas.Option.{none-some}
use Rattle.syn_archive.specs.declared.archive.Archive.{Archive}
use Rattle.syn_disk.specs.declared.disk.Disk.{Ghosts}
use Rattle.syn_journal.specs.Journal.{gate_of}
use Rattle.syn_machine.specs.Coordinator.{Keeps, archive_layout, cut_after, writes}
use Rattle.std.proofs.lemmas.Bool.Decides.{nat_tests}
use Rattle.syn_archive.specs.Archive.{left_shown, room_shown}
use Rattle.syn_archive.specs.Disks.{kept_size}
use Rattle.syn_machine.specs.Machine.{Arms, Compacts, Status, Up, after_device}
use Rattle.syn_machine.specs.Machine.{compacted, has_room, idle, not_compacted, unwritten, written}
use Rattle.syn_model.specs.Archive.{Kept}
use Rattle.syn_coordinator.specs.Machines.{Journal}
use Rattle.syn_coordinator.specs.Tries.{HoldsTried, IsShown, Tries}
use Rattle.syn_coordinator.specs.declared.tried.TriedRecord.{TriedRecord}

-- ---- what a journal writes

at_most : (m n : ℕ) → nat_le m n ≡ true → m ≤ n
at_most m n e = grind (arith, nat_tests)

none_some : (what : Kept) → [] ≡ what ∷ [] → ⊥
none_some what e = omega (arith, ap length e)

quiet_by : (pair : ℕ) (machine journal : Journal) (kept : Kept) (done : List Kept) (what : Kept) →
    Keeps pair machine kept journal done → machine.writing ≡ None → done ≡ what ∷ [] →
    journal.writing ≡ None
quiet_by pair machine journal kept done what (writes new acknowledged (idle is)) quiet some = quiet
quiet_by pair machine journal kept done what
    (writes new acknowledged (written arms is meets)) quiet some =
    quiet
quiet_by pair machine journal kept done what
    (writes new acknowledged (unwritten status arms failed is was meets)) quiet some =
    absurd (none_some what some)
quiet_by pair machine journal kept done what (cut_after is before stop) quiet some = quiet

-- one that goes on writes nothing more
pub kept_quiet : (pair : ℕ) (machine journal : Journal) (kept what : Kept) →
    Keeps pair machine kept journal (what ∷ []) → machine.writing ≡ None → journal.writing ≡ None
kept_quiet pair machine journal kept what keeps quiet =
    quiet_by pair machine journal kept (what ∷ []) what keeps quiet refl

-- one that kept nothing was writing the record, and had room for it
failed_by : (pair : ℕ) (machine journal : Journal) (kept : Kept) (done : List Kept) →
    Keeps pair machine kept journal done → done ≡ [] →
    has_room (archive_layout pair) machine kept ≡ true →
    (journal.writing ≡ Some kept) × (kept_size kept ≤ journal.room)
failed_by pair machine _ kept _ (writes _ _ (idle idle_is)) none has =
    absurd (none_some kept (sym none))
failed_by pair machine _ kept _ (writes _ _ (written arms idle_is meets)) none has =
    absurd (none_some kept (sym none))
failed_by pair machine _ kept _
    (writes _ _ (unwritten status arms failed idle_is was meets)) none has = (
      refl,
      at_most (kept_size kept) machine.room
          (sym (ap (λ b. b || nat_le (kept_size kept) machine.room) idle_is) ∙ has),
    )
failed_by pair machine _ kept _ (cut_after idle_is before stop) none has =
    absurd (none_some kept (sym none))

pub failed_at : (pair : ℕ) (machine journal : Journal) (kept : Kept) →
    Keeps pair machine kept journal [] → has_room (archive_layout pair) machine kept ≡ true →
    (journal.writing ≡ Some kept) × (kept_size kept ≤ journal.room)
failed_at pair machine journal kept keeps has =
    failed_by pair machine journal kept [] keeps refl has

pub compact_writes : (pair : ℕ) (machine journal : Journal) →
    Compacts (archive_layout pair) machine journal → journal.writing ≡ machine.writing
compact_writes pair machine journal (compacted arms meets) = refl
compact_writes pair machine journal (not_compacted status arms failures is meets) = refl

-- ---- what is remembered

-- the longest payload that fits is five bytes shorter than what is left
pub room_left : {D : Type 0} {disk : Ghosts D} (archive : Archive D disk) →
    room_shown archive ≡ left_shown archive - 5
room_left archive = by (gate_of archive.journaled.journal)
  where
    by : (gate : ℕ) → 4194304 - gate - 6 ≡ 4194304 - 1 - gate - 5
    by gate = omega arith

pub tries_none : (tried : Option TriedRecord) (journal : Journal) → tried ≡ None →
    journal.writing ≡ None → Tries tried journal
tries_none None journal none quiet = quiet
tries_none (Some tried) journal none quiet = absurd (none-some _ (sym none))

-- a machine that is up has nothing that was tried
pub untried_up : (tried : Option TriedRecord) (journal : Journal) → Tries tried journal →
    journal.status ≡ Up → tried ≡ None
untried_up None journal tries up = refl
untried_up (Some tried) journal tries up = absurd (tries.stopped up)

-- what was tried is remembered
pub tries_held : {D : Type 0} {disk : Ghosts D} (archive : Archive D disk) (what : Kept)
    (tried : Option TriedRecord) (journal : Journal) →
    HoldsTried archive what tried → journal.status ≢ Up → IsShown archive journal →
    (journal.writing ≡ Some what) × (kept_size what ≤ journal.room) → Tries tried journal
tries_held archive what None journal held stopped shown failed = absurd held
tries_held archive what (Some tried) journal held stopped shown failed =
    let at = shown.exactly what failed.0 in record {
      stopped = stopped;
      writing = failed.0 ∙ ap (λ k. Some k) (sym held.kept_is);
      room_is = held.room_is ∙ (room_left archive ∙ ap (λ n. n - 5) at.0);
      generation_is = held.generation_is ∙ at.1;
      fits = subst (λ k. kept_size k ≤ journal.room) (sym held.kept_is) failed.1;
    }

-- device calls that write nothing change nothing of it
pub tries_still : (tried : Option TriedRecord) (machine : Journal) (status : Status) (arms : Arms)
    (failed : ℕ) → (machine.status ≢ Up → status ≢ Up) → Tries tried machine →
    Tries tried (after_device machine status arms failed)
tries_still None machine status arms failed stops tries = tries
tries_still (Some tried) machine status arms failed stops tries = record {
  stopped = stops tries.stopped;
  writing = tries.writing;
  room_is = tries.room_is;
  generation_is = tries.generation_is;
  fits = tries.fits;
}
