-- An archive is halted after a call only where a device call failed in it, or the machine stopped.
use Rattle.std.proofs.Common.{◌≡◌, ◌⊎◌, ◌<◌, ◌∙◌, ℕ, true, List, inl, inr, subst}
use Rattle.std.proofs.Common.{sym}
use Rattle.std.proofs.lemmas.Bool.{false≢true}
use Rattle.syn_archive.specs.Archive.{IsHalted, Stands, disk_of}
use Rattle.syn_archive.specs.declared.archive.Archive.{Archive}
use Rattle.syn_coordinator.specs.PlanRunners.{BreaksOff, BreaksUnsent}
use Rattle.syn_coordinator.specs.PlanRunners.{FailsOrStops as Counted}
use Rattle.syn_coordinator.specs.declared.plan_runner.PlanRunner.{PlanRunner}
use Rattle.syn_coordinator.specs.declared.session_end.SessionEnd.{SessionEnd}
use Rattle.syn_coordinator.specs.inner.Advancing.{BreaksAs}
use Rattle.syn_coordinator.specs.inner.Taking.{TakesEnd, at_once, ends, goes_down}
use Rattle.syn_disk.specs.Arms.{is_stopped}
use Rattle.syn_disk.specs.declared.disk.Disk.{Ghosts}
use Rattle.syn_machine.specs.Coordinator.{Exchange, Running}
use Rattle.syn_machine.specs.Machine.{Up}
use Rattle.syn_coordinator.specs.Machines.{IsMachine, Journal}
use Rattle.syn_coordinator.specs.Steps.{KeepsSo, moves_down, moves_on}
use Rattle.syn_coordinator.proofs.DueLemmas.{not_halted, when_halted, when_up}
use Rattle.syn_model.specs.Archive.{Kept}
use Rattle.syn_model.specs.Archive as model
use Rattle.syn_session.specs.declared.session.Session.{Session}

-- a machine that is up is not halted
pub up_not_halted : {D : Type 0} {disk : Ghosts D} (new : Archive D disk) (pair : ℕ)
    (journal : Journal) → IsMachine new pair journal → journal.status ≡ Up → IsHalted new → ⊥
up_not_halted new pair journal is up halted =
    not_halted new pair journal is (when_up new pair journal is up) halted

-- nor is an archive that stands for something
pub stands_not_halted : {D : Type 0} {disk : Ghosts D} (new : Archive D disk)
    (kept : model.Archive) → Stands new kept → IsHalted new → ⊥
stands_not_halted new kept stands halted = false≢true (sym stands.runs.running ∙ halted)

-- where something was kept and the archive is halted, the machine stopped
pub keeps_not_halted : {D : Type 0} {disk : Ghosts D} (new : Archive D disk) (pair : ℕ)
    (machine : Journal) (kept : Kept) (done : List Kept) →
    KeepsSo new pair machine kept done Up → IsHalted new →
    is_stopped (disk.arms (disk_of new)) ≡ true
keeps_not_halted new pair machine kept done (moves_on journal keeps up is) halted =
    absurd (up_not_halted new pair journal is up halted)
keeps_not_halted new pair machine kept done (moves_down journal keeps stopped down leaves) halted =
    stopped

module _ {D : Type 0} {disk : Ghosts D} (old new : PlanRunner D disk) where
  abbrev FailsOrStops : Type 0
  FailsOrStops = (disk.failures (disk_of old.archive) < disk.failures (disk_of new.archive))
      ⊎ (is_stopped (disk.arms (disk_of new.archive)) ≡ true)

  counted_so : Counted old new → FailsOrStops
  counted_so (inl grew) = inl grew
  counted_so (inr stopped) = inr stopped.0

  in_doubt : BreaksUnsent old new ⊎ BreaksOff old new → FailsOrStops
  in_doubt (inl unsent) = counted_so unsent.counted
  in_doubt (inr off) = counted_so off.counted

  -- the session ended in the call
  pub ends_by_failure : (pair : ℕ) (journal : Journal) → journal.status ≡ Up → (running : Running)
      (taken : Exchange) (session : Session) (kept : List Kept) (ended : SessionEnd) →
      TakesEnd new.archive new.tried pair journal running taken session kept ended →
      BreaksAs old new ended → IsHalted new.archive → FailsOrStops
  ends_by_failure pair journal up running taken session kept _
      (at_once why fault tells is nothing tries) breaks halted =
      absurd (up_not_halted new.archive pair journal is up halted)
  ends_by_failure pair journal up running taken session kept _
      (ends ended walk after walks cursor refused why is tells remembers) breaks halted =
      in_doubt (subst (BreaksAs old new)
      (remembers.fails up (when_halted new.archive pair walk.journal is halted)) breaks)
  ends_by_failure pair journal up running taken session kept _
      (goes_down ended walk after walks stopped down leaves tries) breaks halted = inr stopped

-- and so it was where the calls before and after it left the archive
pub fails_or_stops : {D : Type 0} {disk : Ghosts D} (first old new last : PlanRunner D disk) →
    old.archive ≡ first.archive → last.archive ≡ new.archive → FailsOrStops old new →
    FailsOrStops first last
fails_or_stops {D} {disk} first old new last before later how =
    subst (λ a. (disk.failures (disk_of a) < disk.failures (disk_of last.archive))
    ⊎ (is_stopped (disk.arms (disk_of last.archive)) ≡ true)) before
    (subst (λ b. (disk.failures (disk_of old.archive) < disk.failures (disk_of b))
    ⊎ (is_stopped (disk.arms (disk_of b)) ≡ true)) (sym later) how)
