-- How a call goes through the plan of its session, and what it has come to then.
use Rattle.std.specs.Option.{option_map_or}
use Rattle.std.specs.Prelude.{◌≡◌, ◌≤◌, ℕ, true, false, List, [], ◌++◌, Option, None}
use Rattle.syn_archive.specs.Archive.{disk_of}
use Rattle.syn_archive.specs.declared.archive.Archive.{Archive}
use Rattle.syn_coordinator.specs.declared.session_end.SessionEnd.{SessionEnd}
use Rattle.syn_coordinator.specs.inner.Advancing.{Remembers}
pub use Rattle.syn_coordinator.specs.inner.Advancing.{ended_by}
use Rattle.syn_disk.specs.Arms.{is_stopped}
use Rattle.syn_disk.specs.declared.disk.Disk.{Ghosts}
use Rattle.syn_machine.specs.Coordinator.{Advances, EndsFor, Exchange, Running, Walk}
use Rattle.syn_machine.specs.Machine.{Down}
use Rattle.syn_coordinator.specs.Machines.{IsMachine, Journal, LeavesMachine}
use Rattle.syn_coordinator.specs.Tries.{Tries}
use Rattle.syn_coordinator.specs.declared.tried.TriedRecord.{TriedRecord}
use Rattle.syn_model.specs.Archive.{Kept}
use Rattle.syn_scan.specs.Found.{Found}
use Rattle.syn_session.specs.Carrying.{AsksOne}
use Rattle.syn_session.specs.Plans.{Plan}
use Rattle.syn_session.specs.Stages.{AreAskedBefore, Carries, IsPlanProgress, Reached, plan_in}
use Rattle.syn_session.specs.declared.plan_progress.PlanProgress.{PlanProgress}
use Rattle.syn_session.specs.declared.session.Asks.{Asks}

abbrev pub plan_at : Reached → Plan
plan_at reached = option_map_or (λ plan. plan) reached.plan []

abbrev pub walk_at : Journal → Reached → Walk
walk_at journal reached = record {
  journal = journal;
  cursor = reached.cursor;
  refused = reached.refused;
  made_room = false;
}

-- it has kept this since, with the same plan
pub record HasKept (before after : Reached) (kept : List Kept) : Type 0 where
  pub plan : after.plan ≡ before.plan
  pub kept_is : after.kept ≡ before.kept ++ kept

-- from one item to a later one: whatever the call does from there on, it does from here on
pub record Passes (pair : ℕ) (taken : Exchange) (old : Journal) (before : Reached) (new : Journal)
    (after : Reached) (kept : List Kept) : Type 0 where
  pub status : new.status ≡ old.status
  pub quiet : old.writing ≡ None → new.writing ≡ None
  pub has : HasKept before after kept
  pub leads : (later : Walk) (rest : List Kept)
      → Advances pair (plan_at before) taken (walk_at new after) rest later
      → Advances pair (plan_at before) taken (walk_at old before) (kept ++ rest) later

-- the call has come so far, and the machine goes on
pub record Comes {D : Type 0} {disk : Ghosts D} (new : Archive D disk) (pair : ℕ)
    (taken : Exchange) (old : Journal) (before : Reached) (kept : List Kept)
    (progress : PlanProgress)
    (left right : Found) : Type 0 where
  pub journal : Journal
  pub after : Reached
  pub passes : Passes pair taken old before journal after kept
  pub is : IsMachine new pair journal
  pub progress_is : IsPlanProgress progress left right after

-- The session ends so; or the machine is down. It remembers what could not be kept
pub data Ends {D : Type 0} {disk : Ghosts D} (new : Archive D disk) (tried : Option TriedRecord)
    (pair : ℕ) (taken : Exchange) (old : Journal) (before : Reached) (kept : List Kept)
    (progress : PlanProgress) (left right : Found) (ended : SessionEnd) : Type 0 where
  ends : (walk : Walk) (after : Reached) →
      Advances pair (plan_at before) taken (walk_at old before) kept walk →
      walk.cursor ≡ after.cursor → walk.refused ≡ after.refused → HasKept before after kept →
      ((running : Running) → running.plan ≡ before.plan →
      EndsFor pair running taken old.status walk (ended_by ended)) →
      IsMachine new pair walk.journal → IsPlanProgress progress left right after →
      Remembers old.status tried walk.journal ended →
      Ends new tried pair taken old before kept progress left right ended
  goes_down : (walk : Walk) →
      Advances pair (plan_at before) taken (walk_at old before) kept walk →
      is_stopped (disk.arms (disk_of new)) ≡ true → walk.journal.status ≡ Down →
      LeavesMachine disk (disk_of new) pair walk.journal → Tries tried walk.journal →
      Ends new tried pair taken old before kept progress left right ended

-- no request is out for the item that it has come to, or for a later one
pub record IsAtItem (progress : PlanProgress) (left right : Found) (taken : List Exchange)
    (reached : Reached) : Type 0 where
  pub progress_is : IsPlanProgress progress left right reached
  pub asked : AreAskedBefore (plan_in progress left right) progress.cursor taken

-- it has come to an item that is carried, and asks a side for this
pub record ComesToAsk {D : Type 0} {disk : Ghosts D} (new : Archive D disk) (pair : ℕ)
    (taken : Exchange) (old : Journal) (before : Reached) (kept : List Kept)
    (progress : PlanProgress)
    (left right : Found) (all : List Exchange) (asks : Asks) : Type 0 where
  pub journal : Journal
  pub after : Reached
  pub passes : Passes pair taken old before journal after kept
  pub onward : before.cursor ≤ after.cursor
  pub is : IsMachine new pair journal
  pub carries : Carries journal.value progress left right all after
      (λ transfer. AsksOne transfer all asks)
