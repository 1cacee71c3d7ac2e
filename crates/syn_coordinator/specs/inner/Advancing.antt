-- What a record that is due does to the walk of a session through its plan.
use Rattle.std.specs.Prelude.{◌≡◌, ◌⊎◌, ℕ, true, List, [], ◌∷◌, MatchResult, Option, Result, Some}
use Rattle.std.specs.Prelude.{None}
use Rattle.syn_archive.specs.Archive.{disk_of}
use Rattle.syn_archive.specs.declared.archive.Archive.{Archive}
use Rattle.syn_coordinator.specs.PlanRunners.{BreaksNothing, BreaksOff, BreaksUnsent}
use Rattle.syn_coordinator.specs.declared.plan_runner.PlanRunner.{PlanRunner}
use Rattle.syn_coordinator.specs.declared.session_end.SessionEnd.{SessionEnd}
use Rattle.syn_coordinator.specs.declared.session_end.SessionEnd.TheVariants.{Early, Failed}
use Rattle.syn_coordinator.specs.declared.session_end.SessionEnd.TheVariants.{PlanDone}
use Rattle.syn_disk.specs.Arms.{is_stopped}
use Rattle.syn_disk.specs.declared.disk.Disk.{Ghosts}
use Rattle.syn_machine.specs.Coordinator.{Advances, EndsFor, Exchange, Running, Walk, past}
use Rattle.syn_machine.specs.Coordinator.{plan_of, refusing}
use Rattle.syn_machine.specs.Machine.{Down, Halted, Status, Up}
use Rattle.syn_machine.specs.Planning.{Planned}
use Rattle.syn_coordinator.specs.Machines.{IsMachine, Journal, LeavesMachine}
use Rattle.syn_coordinator.specs.Tries.{Tries}
use Rattle.syn_coordinator.specs.declared.due.RecordOutcome.{RecordOutcome}
use Rattle.syn_coordinator.specs.declared.due.RecordOutcome.TheVariants.{Recorded, Refused}
use Rattle.syn_coordinator.specs.declared.due.RecordOutcome.TheVariants.{Ends, Unsent}
use Rattle.syn_coordinator.specs.declared.due.RecordOutcome.TheVariants as due
use Rattle.syn_coordinator.specs.declared.tried.TriedRecord.{TriedRecord}
use Rattle.syn_model.specs.Archive.{Kept}
use Rattle.syn_model.specs.Refusal.{Refusal as Why, Device}
use Rattle.syn_refusal.specs.Refusals.{cause_of}
use Rattle.syn_refusal.specs.declared.refusal.Refusal.{Refusal}

-- What ended a session early, if anything did
abbrev pub ended_by : SessionEnd → Option Why
ended_by PlanDone = None
ended_by (Early why) = Some (cause_of why)
ended_by Failed = Some Device

-- it ends so where what was due ends so
abbrev pub EndsAs : RecordOutcome → SessionEnd → Type 0
EndsAs (Ends why) how = how ≡ Early why
EndsAs Unsent how = how ≡ Failed
EndsAs due.Tried how = how ≡ Failed
EndsAs _ how = ⊥

-- it remembers what was sent and not kept; and where it was up before and is halted, its session
-- ended for that
pub record Remembers (before : Status) (tried : Option TriedRecord) (journal : Journal)
    (how : SessionEnd)
    : Type 0 where
  pub tries : Tries tried journal
  pub fails : before ≡ Up → journal.status ≡ Halted → how ≡ Failed

-- what was kept then
abbrev pub kept_by : Kept → RecordOutcome → List Kept
kept_by what Recorded = what ∷ []
kept_by what (Refused why) = []
kept_by what (Ends why) = []
kept_by what Unsent = []
kept_by what due.Tried = []

-- what was due breaks off only where it ends for the device
abbrev pub BreaksBy : {D : Type 0} → {disk : Ghosts D} → PlanRunner D disk → PlanRunner D disk →
    RecordOutcome → Type 0
BreaksBy old new Unsent = BreaksUnsent old new
BreaksBy old new due.Tried = BreaksOff old new
BreaksBy old new _ = BreaksNothing old new

-- and so does a session that ends
abbrev pub BreaksAs : {D : Type 0} → {disk : Ghosts D} → PlanRunner D disk → PlanRunner D disk →
    SessionEnd → Type 0
BreaksAs old new Failed = BreaksUnsent old new ⊎ BreaksOff old new
BreaksAs old new _ = BreaksNothing old new

-- a call goes through the plan of its session: as long as it goes on nothing breaks
abbrev pub Breaks : {D : Type 0} → {disk : Ghosts D} → {A : Type 0} → PlanRunner D disk →
    PlanRunner D disk → Result A SessionEnd → Type 0
Breaks old new result = MatchResult result (λ _. BreaksNothing old new) (BreaksAs old new)

-- It goes past the item, whose record is kept or refused; or the session ends at it; or the machine
-- was stopped there
pub data Advanced {D : Type 0} {disk : Ghosts D} (new : Archive D disk) (tried : Option TriedRecord)
    (pair : ℕ) (plan : List Planned) (taken : Exchange) (walk : Walk)
    (planned : Planned) (what : Kept) : RecordOutcome → Type 0 where
  kept_it : (journal : Journal) → Advances pair plan taken walk (what ∷ []) (past walk journal) →
      journal.status ≡ Up → IsMachine new pair journal →
      Advanced new tried pair plan taken walk planned what Recorded
  refused_it : (why : Refusal) →
      Advances pair plan taken walk [] (refusing walk (cause_of why) planned) →
      IsMachine new pair walk.journal →
      Advanced new tried pair plan taken walk planned what (Refused why)
  ended : (due : RecordOutcome) (how : SessionEnd) (later : Walk) → EndsAs due how →
      Advances pair plan taken walk [] later →
      later.cursor ≡ walk.cursor → later.refused ≡ walk.refused →
      ((running : Running) → plan_of running ≡ plan →
      EndsFor pair running taken walk.journal.status later (ended_by how)) →
      IsMachine new pair later.journal →
      Remembers walk.journal.status tried later.journal how →
      Advanced new tried pair plan taken walk planned what due
  stopped : (due : RecordOutcome) (later : Walk) →
      Advances pair plan taken walk (kept_by what due) later → later.journal.status ≡ Down →
      is_stopped (disk.arms (disk_of new)) ≡ true →
      LeavesMachine disk (disk_of new) pair later.journal → Tries tried later.journal →
      Advanced new tried pair plan taken walk planned what due
