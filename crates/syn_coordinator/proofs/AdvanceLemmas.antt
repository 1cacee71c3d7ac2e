-- What becomes of a record that is due is a step of the session through its plan.
use Rattle.std.proofs.Common.{◌≡◌, ◌≢◌, ℕ, Bool, true, false, List, [], ◌∷◌, ◌++◌, Option, Some}
use Rattle.std.proofs.Common.{None, refl, sym, ap, ◌∙◌, subst, inr}
use Rattle.std.specs.List.{slice_get}
use Rattle.syn_archive.specs.declared.archive.Archive.{Archive}
use Rattle.syn_disk.specs.declared.disk.Disk.{Ghosts}
use Rattle.syn_machine.specs.Coordinator.{Advances, Exchange, HasNoRoom, IsDue, IsToKeep, Keeps}
use Rattle.syn_machine.specs.Coordinator.{Walk, past, making_room, record_for, archive_layout}
use Rattle.syn_machine.specs.Coordinator as model
use Rattle.syn_machine.specs.Machine.{Compacts, Up, Halted, Down, Status, has_room}
use Rattle.syn_machine.specs.Network.{Which, Left, Right, other}
use Rattle.syn_machine.specs.Planning.{Planned, seen_on, WritesTo}
use Rattle.syn_model.specs.Archive.{Kept, Recorded}
use Rattle.syn_model.specs.Decision.{Item, ToLeft, ToRight, MarkSame, MarkDir, Conflict}
use Rattle.syn_refusal.specs.declared.refusal.Refusal.TheVariants as refusal
use Rattle.syn_coordinator.specs.Machines.{Journal}
use Rattle.syn_coordinator.specs.Tries.{HoldsTried, IsShown, Tries}
use Rattle.syn_coordinator.specs.declared.session_end.SessionEnd.{SessionEnd}
use Rattle.syn_coordinator.specs.declared.session_end.SessionEnd.TheVariants.{Early, Failed}
use Rattle.syn_coordinator.specs.declared.due.RecordOutcome.{RecordOutcome}
use Rattle.syn_coordinator.specs.declared.tried.TriedRecord.{TriedRecord}
use Rattle.syn_coordinator.proofs.TriedLemmas.{compact_writes, failed_at, kept_quiet}
use Rattle.syn_coordinator.proofs.TriedLemmas.{tries_held, tries_none}
use Rattle.syn_coordinator.specs.inner.Advancing.{Advanced, kept_it, refused_it, ended, stopped}
use Rattle.syn_coordinator.specs.inner.Advancing.{Remembers}
use Rattle.syn_coordinator.specs.RecordOutcome as due
use Rattle.syn_coordinator.specs.RecordOutcome.{IsReady, MakesRoom, TriesBy}
use Rattle.syn_coordinator.specs.RecordOutcome.{has_some, makes_some, Settles}
use Rattle.syn_coordinator.specs.Steps.{moves_on, moves_down}
use Rattle.syn_coordinator.proofs.DueLemmas.{ready_still}

-- ---- which record is due

-- what is due for an item is what is to be recorded for it
pub record_due : (item : ℕ) (planned : Planned) (taken : Exchange) (kept : Kept) →
    IsDue item planned taken kept → record_for planned planned.item ≡ Some kept
record_due item planned taken kept (model.done path since size is_done asked writes) =
    by planned.item taken.side writes
  where
    by : (item : Item) (side : Which) → WritesTo item side path →
        record_for planned item ≡ Some (Recorded path (seen_on planned (other side)).marks)
    by (ToLeft at) Left same = ap (λ p. Some (Recorded p planned.right.marks)) same
    by (ToRight at) Right same = ap (λ p. Some (Recorded p planned.left.marks)) same
    by (ToLeft at) Right never = absurd never
    by (ToRight at) Left never = absurd never
    by (MarkSame at) side never = absurd never
    by (MarkDir at) side never = absurd never
    by (Conflict at) side never = absurd never
record_due item planned taken kept (model.same path is same) = ap (record_for planned) is
record_due item planned taken kept (model.directory path is) = ap (record_for planned) is

-- ---- one walk after another

module _ (pair : ℕ) (plan : List Planned) (taken : Exchange) where
  -- where the status stays a walk goes on from where it came to
  pub goes_further : (first middle last : Walk) (before onward : List Kept) →
      Advances pair plan taken first before middle → middle.journal.status ≡ first.journal.status →
      Advances pair plan taken middle onward last →
      Advances pair plan taken first (before ++ onward) last
  goes_further first middle last before onward (model.stands walk) same rest = rest
  goes_further first middle last before onward
      (model.conflicts walk later kept planned path fresh at is more) same rest =
      model.conflicts walk last (kept ++ onward) planned path fresh at is
      (goes_further _ _ last kept onward more same rest)
  goes_further first middle last before onward
      (model.side_refuses walk later kept planned why fresh at refused for more) same rest =
      model.side_refuses walk last (kept ++ onward) planned why fresh at refused for
      (goes_further _ _ last kept onward more same rest)
  goes_further first middle last before onward
      (model.archive_refuses walk later kept planned what why fresh at is up refused more) same
      rest =
      model.archive_refuses walk last (kept ++ onward) planned what why fresh at is up refused
      (goes_further _ _ last kept onward more same rest)
  goes_further first middle last before onward
      (model.no_checkpoint walk later kept what fresh full greatest more) same rest =
      model.no_checkpoint walk last (kept ++ onward) what fresh full greatest
      (goes_further _ _ last kept onward more same rest)
  goes_further first middle last before onward
      (model.checkpoints walk later kept what journal fresh full less compacts up more) same rest =
      model.checkpoints walk last (kept ++ onward) what journal fresh full less compacts up
      (goes_further _ _ last kept onward more (same ∙ (full.to_keep.up ∙ sym up)) rest)
  goes_further first middle last before onward
      (model.checkpoint_breaks walk what journal fresh full less compacts in_doubt) same rest =
      absurd (in_doubt (same ∙ full.to_keep.up))
  goes_further first middle last before onward
      (model.keeps walk later what kept journal keep room kept_so up more) same rest =
      model.keeps walk last what (kept ++ onward) journal keep room kept_so up
      (goes_further _ _ last kept onward more (same ∙ (keep.up ∙ sym up)) rest)
  goes_further first middle last before onward
      (model.record_breaks walk what kept journal keep room kept_so in_doubt) same rest =
      absurd (in_doubt (same ∙ keep.up))

not_up : {s : Status} → s ≡ Down → s ≢ Up
not_up down up = cc

halted_not_up : {s : Status} → s ≡ Halted → s ≢ Up
halted_not_up halted up = cc

-- ---- what is remembered

module _ (before : Status) (tried : Option TriedRecord) (journal : Journal)
    (tries : Tries tried journal) where
  -- the machine is as it was
  pub remembers_still : (how : SessionEnd) → journal.status ≡ before →
      Remembers before tried journal how
  remembers_still how same = record {
    tries = tries;
    fails = λ up halted. absurd (halted_not_up halted (same ∙ up));
  }

  -- its device failed
  remembers_failed : Remembers before tried journal Failed
  remembers_failed = record { tries = tries; fails = λ _ _. refl }

-- ---- a step

module _ {D : Type 0} {disk : Ghosts D} (new : Archive D disk) (tried : Option TriedRecord)
    (pair : ℕ)
    (plan : List Planned) (taken : Exchange) (walk : Walk) (planned : Planned) (what : Kept)
    (fresh : walk.made_room ≡ false) (at : slice_get plan walk.cursor ≡ Some planned)
    (is_due : IsDue walk.cursor planned taken what) where
  to_keep : IsReady walk.journal what → IsToKeep plan taken walk what
  to_keep ready =
      record { planned = planned; at = at; due = is_due; can = ready.can; up = ready.up }

  no_room : IsReady walk.journal what → has_room (archive_layout pair) walk.journal what ≡ false →
      HasNoRoom pair plan taken walk what
  no_room ready none = record { to_keep = to_keep ready; no_room = none }

  room_made : IsReady walk.journal what → (between : Journal) →
      MakesRoom pair walk.journal what true between →
      IsToKeep plan taken (making_room walk between) what
  room_made ready between (makes_some now none less compacts up) =
      let still = ready_still new pair walk.journal what ready now compacts up in
      record { planned = planned; at = at; due = is_due; can = still.can; up = still.up }

  after_room : IsReady walk.journal what → (between : Journal) →
      MakesRoom pair walk.journal what true between → (kept : List Kept) (later : Walk) →
      Advances pair plan taken (making_room walk between) kept later →
      Advances pair plan taken walk kept later
  after_room ready between (makes_some now none less compacts up) kept later more =
      model.checkpoints walk later kept what now fresh (no_room ready none) less compacts up more

  -- a checkpoint that makes room writes no record
  quiet_between : (made : Bool) (between : Journal) →
      MakesRoom pair walk.journal what made between → walk.journal.writing ≡ None →
      between.writing ≡ None
  quiet_between made between (has_some enough) quiet = quiet
  quiet_between made between (makes_some now none less compacts up) quiet =
      compact_writes pair walk.journal now compacts ∙ quiet

  -- the record that is kept is not remembered
  tries_kept : (between journal : Journal) → Keeps pair between what journal (what ∷ []) →
      between.writing ≡ None → tried ≡ None → Tries tried journal
  tries_kept between journal keeps quiet none =
      tries_none tried journal none (kept_quiet pair between journal what what keeps quiet)

  -- the record whose device failed is
  tries_failed : (between journal : Journal) → Keeps pair between what journal [] →
      IsShown new journal → has_room (archive_layout pair) between what ≡ true →
      journal.status ≢ Up → HoldsTried new what tried → Tries tried journal
  tries_failed between journal keeps shown has stops held =
      tries_held new what tried journal held stops shown
      (failed_at pair between journal what keeps has)

  -- where the checkpoint for it failed none is
  tries_unsent : (journal : Journal) → Compacts (archive_layout pair) walk.journal journal →
      walk.journal.writing ≡ None → tried ≡ None → Tries tried journal
  tries_unsent journal compacts quiet none =
      tries_none tried journal none (compact_writes pair walk.journal journal compacts ∙ quiet)

  pub advanced : (became : RecordOutcome) → Settles new pair walk.journal what became →
      walk.journal.writing ≡ None → TriesBy new what None tried became →
      Advanced new tried pair plan taken walk planned what became
  unfolding no_room to_keep
  advanced became (due.recorded false between ready (has_some enough) has
      (moves_on journal (keeps, shown) up is)) quiet tries =
      kept_it journal (model.keeps walk (past walk journal) what
      [] journal (to_keep ready) has keeps up (model.stands (past walk journal))) up is
  advanced became (due.recorded true between ready room has (moves_on journal (keeps, shown) up is))
      quiet tries =
      kept_it journal (after_room ready between room (what ∷ []) (past walk journal)
      (model.keeps (making_room walk between) (past walk journal) what [] journal
      (room_made ready between room) has keeps up (model.stands (past walk journal)))) up is
  advanced became (due.recorded false between ready (has_some enough) has
      (moves_down journal (keeps, shown) cut down leaves)) quiet tries =
      stopped _ (record walk { journal = journal })
      (model.record_breaks walk what (what ∷ []) journal (to_keep ready) has keeps (not_up down))
      down cut leaves (tries_kept walk.journal journal keeps quiet tries)
  advanced became (due.recorded true between ready room has
      (moves_down journal (keeps, shown) cut down leaves)) quiet tries =
      stopped _ (record (making_room walk between) { journal = journal }) (after_room ready between
      room (what ∷ []) (record (making_room walk between) { journal = journal })
      (model.record_breaks (making_room walk between) what (what ∷ []) journal
      (room_made ready between room) has keeps (not_up down))) down cut leaves
      (tries_kept between journal keeps (quiet_between true between room quiet) tries)
  advanced became (due.archive_refuses why up refused is) quiet tries =
      refused_it why (model.archive_refuses walk _ [] planned what _ fresh at
      (record_due walk.cursor planned taken what is_due) (inr up) refused (model.stands _)) is
  advanced became (due.no_checkpoint ready none last is) quiet tries =
      refused_it refusal.Full
      (model.no_checkpoint walk _ [] what fresh (no_room ready none) last (model.stands _)) is
  advanced became (due.failed_before halted is) quiet tries =
      ended _ (Early refusal.Halted) walk refl (model.stands walk) refl refl
      (λ running same. model.failed_before planned what
      (subst (λ p. slice_get p walk.cursor ≡ Some planned) (sym same) at) is_due halted halted) is
      (remembers_still walk.journal.status tried walk.journal
      (tries_none tried _ tries quiet) _ refl)
  advanced became (due.checkpoint_breaks ready none less
      (moves_on journal compacts halted is)) quiet tries =
      ended _ Failed (record walk { journal = journal }) refl (model.checkpoint_breaks walk what
      journal fresh (no_room ready none) less compacts (halted_not_up halted)) refl refl
      (λ running same. model.fails ready.up halted) is
      (remembers_failed walk.journal.status tried journal
      (tries_unsent journal compacts quiet tries))
  advanced became (due.checkpoint_breaks ready none less
      (moves_down journal compacts cut down leaves)) quiet tries =
      stopped _ (record walk { journal = journal }) (model.checkpoint_breaks walk what journal fresh
      (no_room ready none) less compacts (not_up down)) down cut leaves
      (tries_unsent journal compacts quiet tries)
  advanced became (due.record_breaks false between ready (has_some enough) has
      (moves_on journal (keeps, shown) halted is)) quiet tries =
      ended _ Failed (record walk { journal = journal }) refl (model.record_breaks walk what
      [] journal (to_keep ready) has keeps (halted_not_up halted)) refl refl
      (λ running same. model.fails ready.up halted) is
      (remembers_failed walk.journal.status tried journal
      (tries_failed walk.journal journal keeps shown enough (halted_not_up halted) tries))
  advanced became (due.record_breaks true between ready room has
      (moves_on journal (keeps, shown) halted is)) quiet tries =
      ended _ Failed (record (making_room walk between) { journal = journal }) refl
      (after_room ready between room [] (record (making_room walk between) { journal = journal })
      (model.record_breaks (making_room walk between) what
      [] journal (room_made ready between room) has keeps (halted_not_up halted))) refl refl
      (λ running same. model.fails ready.up halted) is
      (remembers_failed walk.journal.status tried journal
      (tries_failed between journal keeps shown has (halted_not_up halted) tries))
  advanced became (due.record_breaks false between ready (has_some enough) has
      (moves_down journal (keeps, shown) cut down leaves)) quiet tries =
      stopped _ (record walk { journal = journal })
      (model.record_breaks walk what [] journal (to_keep ready) has keeps (not_up down)) down cut
      leaves (tries_failed walk.journal journal keeps shown enough (not_up down) tries)
  advanced became (due.record_breaks true between ready room has
      (moves_down journal (keeps, shown) cut down leaves)) quiet tries =
      stopped _ (record (making_room walk between) { journal = journal })
      (after_room ready between room [] (record (making_room walk between) { journal = journal })
      (model.record_breaks (making_room walk between) what [] journal (room_made ready between room)
      has keeps (not_up down))) down cut leaves
      (tries_failed between journal keeps shown has (not_up down) tries)
  advanced became (due.no_room_left between ready room none is) quiet tries =
      ended _ (Early refusal.JournalFull) (making_room walk between) refl (after_room ready between
      room
      [] (making_room walk between) (model.stands (making_room walk between))) refl refl
      (λ running same. model.no_room_left what
      (subst (λ p. HasNoRoom pair p taken (making_room walk between) what) (sym same)
      (record { to_keep = room_made ready between room; no_room = none })) refl) is
      (remembers_still walk.journal.status tried between
      (tries_none tried _ tries (quiet_between true between room quiet)) _
      ((room_made ready between room).up ∙ sym ready.up))
  advanced became (due.no_memory is) quiet tries =
      ended _ (Early refusal.Memory) walk refl (model.stands walk) refl refl
      (λ running same. model.no_memory refl) is
      (remembers_still walk.journal.status tried walk.journal
      (tries_none tried _ tries quiet) _ refl)
  advanced became (due.no_memory_after between ready room is) quiet tries =
      ended _ (Early refusal.Memory) (making_room walk between) refl (after_room ready between room
      [] (making_room walk between) (model.stands (making_room walk between))) refl refl
      (λ running same. model.no_memory ((room_made ready between room).up ∙ sym ready.up)) is
      (remembers_still walk.journal.status tried between
      (tries_none tried _ tries (quiet_between true between room quiet)) _
      ((room_made ready between room).up ∙ sym ready.up))
