-- What refuses a start or a checkpoint.
use Rattle.std.proofs.Common.{◌≡◌, ◌≢◌, ◌<◌, ◌⊎◌, ℕ, Some, Result, Ok, Err, inl, inr, refl, subst}
use Rattle.std.proofs.Common.{ap, sym}
use Rattle.std.specs.Prelude.{IfErr, MatchResult, OnOk}
use Rattle.syn_archive.specs.Refusals as kept
use Rattle.syn_archive.specs.declared.error.ArchiveError.{ArchiveError}
use Rattle.syn_archive.specs.declared.error.ArchiveError.TheVariants as archive
use Rattle.syn_disk.specs.declared.disk.Disk.{Ghosts}
use Rattle.syn_machine.specs.Coordinator.{Call, CoordinatorMachine, coordinator_kind}
use Rattle.syn_machine.specs.MachineSteps.{Checkpoints}
use Rattle.syn_journal.specs.Endings as endings
use Rattle.syn_journal.proofs.Spent.{counted as grew}
use Rattle.syn_coordinator.proofs.DueLemmas.{device_or_other}
use Rattle.syn_model.specs.Refusal as why
use Rattle.syn_model.specs.Refusal.{first_cause}
use Rattle.syn_refusal.specs.Refusals.{cause_of}
use Rattle.syn_refusal.specs.declared.refusal.Refusal.{Refusal}
use Rattle.syn_coordinator.specs.Coordinators.{all_causes, checkpoint_causes, device_of}
use Rattle.syn_coordinator.specs.Refusals.{CountsFailures, refusal_of}
use Rattle.syn_coordinator.specs.declared.coordinator.Coordinator.{Coordinator}
use Rattle.syn_coordinator.specs.declared.error.StartError.{StartError}
use Rattle.syn_coordinator.specs.declared.error.StartError.TheVariants as session
use Rattle.syn_sync.specs.Refusals.{Refuses, fails, no_room, no_start, no_start_after, stopped}
use Rattle.syn_sync.specs.Refusals.{unanswered}
use Rattle.syn_sync.specs.inner.Calling.{IsUnended}

pub is_start_device : (e : StartError) → (e ≡ session.Device) ⊎ (e ≢ session.Device)
is_start_device session.Full = inr (λ is. cc)
is_start_device session.JournalFull = inr (λ is. cc)
is_start_device session.Device = inl refl
is_start_device session.Halted = inr (λ is. cc)
is_start_device session.Memory = inr (λ is. cc)
is_start_device session.Busy = inr (λ is. cc)

-- what was done, where something was
pub on_ok : {X E : Type 0} (P : Type 0) (result : Result X E) → P → OnOk result P
on_ok P (Ok x) holds = holds
on_ok P (Err e) holds = tt

-- the count of failed device calls grew, where an error is the device's
counted : (e : StartError) (a b : ℕ) → e ≡ session.Device → CountsFailures e a b → a < b
counted session.Device a b is counts = counts
counted session.Full a b is counts = cc
counted session.JournalFull a b is counts = cc
counted session.Halted a b is counts = cc
counted session.Memory a b is counts = cc
counted session.Busy a b is counts = cc

module _ {D : Type 0} {disk : Ghosts D} where
  -- how many device calls of its disk failed
  abbrev pub failures_of : Coordinator D disk → ℕ
  failures_of coordinator = disk.failures (device_of coordinator)

  start_refused_at : (old new : Coordinator D disk) (pair : ℕ) (machine : CoordinatorMachine)
      (e : StartError) → (e ≡ session.Device) ⊎ (e ≢ session.Device)
      → CountsFailures e (failures_of old) (failures_of new)
      → (e ≢ session.Device → first_cause (all_causes pair machine) ≡ Some (refusal_of e))
      → Refuses old new pair machine (refusal_of e)
  start_refused_at old new pair machine e (inl is) counts refused =
      subst (λ x. Refuses old new pair machine (refusal_of x)) (sym is)
      (fails (counted e (failures_of old) (failures_of new) is counts))
  start_refused_at old new pair machine e (inr is) counts refused =
      no_start (refusal_of e) (refused is)

  pub start_refused : (old new : Coordinator D disk) (pair : ℕ) (machine : CoordinatorMachine)
      (e : StartError) → CountsFailures e (failures_of old) (failures_of new)
      → (e ≢ session.Device → first_cause (all_causes pair machine) ≡ Some (refusal_of e))
      → Refuses old new pair machine (refusal_of e)
  start_refused old new pair machine e counts refused =
      start_refused_at old new pair machine e (is_start_device e) counts refused

  after_refused_at : (old middle new : Coordinator D disk) (pair : ℕ)
      (machine between : CoordinatorMachine) (call : Call) (e : StartError)
      → (e ≡ session.Device) ⊎ (e ≢ session.Device)
      → first_cause (all_causes pair machine) ≡ Some why.JournalFull
      → Checkpoints (coordinator_kind pair) machine between call
      → failures_of middle ≡ failures_of old
      → CountsFailures e (failures_of middle) (failures_of new)
      → (e ≢ session.Device → first_cause (all_causes pair between) ≡ Some (refusal_of e))
      → Refuses old new pair machine (refusal_of e)
  after_refused_at old middle new pair machine between call e (inl is) full made same counts
      refused =
      subst (λ x. Refuses old new pair machine (refusal_of x)) (sym is)
      (fails (subst (λ n. n < failures_of new) same
      (counted e (failures_of middle) (failures_of new) is counts)))
  after_refused_at old middle new pair machine between call e (inr is) full made same counts
      refused = no_start_after (refusal_of e) between call full made (refused is)

  pub after_refused : (old middle new : Coordinator D disk) (pair : ℕ)
      (machine between : CoordinatorMachine) (call : Call) (e : StartError)
      → first_cause (all_causes pair machine) ≡ Some why.JournalFull
      → Checkpoints (coordinator_kind pair) machine between call
      → failures_of middle ≡ failures_of old
      → CountsFailures e (failures_of middle) (failures_of new)
      → (e ≢ session.Device → first_cause (all_causes pair between) ≡ Some (refusal_of e))
      → Refuses old new pair machine (refusal_of e)
  after_refused old middle new pair machine between call e full made same counts refused =
      after_refused_at old middle new pair machine between call e (is_start_device e) full made
      same counts refused

  checkpoint_refused_at : (old new : Coordinator D disk) (pair : ℕ)
      (machine : CoordinatorMachine) (e : ArchiveError)
      → (e ≡ archive.Device) ⊎ (e ≢ archive.Device)
      → first_cause (all_causes pair machine) ≡ Some why.JournalFull
      → endings.CountsFailures (Some (kept.refusal_of e)) (failures_of old) (failures_of new)
      → (e ≢ archive.Device → first_cause (checkpoint_causes machine) ≡ Some (kept.refusal_of e))
      → Refuses old new pair machine (kept.refusal_of e)
  checkpoint_refused_at old new pair machine e (inl is) full counts refused =
      subst (λ x. Refuses old new pair machine (kept.refusal_of x)) (sym is)
      (fails (grew (kept.refusal_of e) (failures_of old) (failures_of new)
      (ap kept.refusal_of is) counts))
  checkpoint_refused_at old new pair machine e (inr is) full counts refused =
      no_room (kept.refusal_of e) full (refused is)

  pub checkpoint_refused : (old new : Coordinator D disk) (pair : ℕ)
      (machine : CoordinatorMachine) (e : ArchiveError)
      → first_cause (all_causes pair machine) ≡ Some why.JournalFull
      → endings.CountsFailures (Some (kept.refusal_of e)) (failures_of old) (failures_of new)
      → (e ≢ archive.Device → first_cause (checkpoint_causes machine) ≡ Some (kept.refusal_of e))
      → Refuses old new pair machine (kept.refusal_of e)
  checkpoint_refused old new pair machine e full counts refused =
      checkpoint_refused_at old new pair machine e (device_or_other e) full counts refused

  -- what was refused before any device call failed
  pub refuses_from : (old middle new : Coordinator D disk) (pair : ℕ)
      (machine : CoordinatorMachine) (reason : why.Refusal)
      → failures_of middle ≡ failures_of old
      → Refuses middle new pair machine reason → Refuses old new pair machine reason
  refuses_from old middle new pair machine _ same (no_start reason is) = no_start reason is
  refuses_from old middle new pair machine _ same (no_room reason full is) =
      no_room reason full is
  refuses_from old middle new pair machine _ same
      (no_start_after reason between call full made is) =
      no_start_after reason between call full made is
  refuses_from old middle new pair machine _ same (fails more) =
      fails (subst (λ n. n < failures_of new) same more)
  refuses_from old middle new pair machine _ same (stopped is) = stopped is
  refuses_from old middle new pair machine _ same (unanswered is) = unanswered is

  unended_at : (old new : Coordinator D disk) (pair : ℕ) (machine : CoordinatorMachine)
      (reason : Refusal) → IsUnended new reason
      → Refuses old new pair machine (cause_of reason)
  unended_at old new pair machine reason (inl (is, cut)) =
      subst (Refuses old new pair machine) (sym is) (stopped cut)
  unended_at old new pair machine reason (inr (is, still)) =
      subst (Refuses old new pair machine) (sym is) (unanswered still)

  -- a session that does not end
  pub unended : (old new : Coordinator D disk) (pair : ℕ) (machine : CoordinatorMachine)
      (result : Result (Unit {0}) Refusal) → IfErr result (λ reason. IsUnended new reason)
      → IfErr result (λ reason. Refuses old new pair machine (cause_of reason))
  unended old new pair machine (Ok done) is = tt
  unended old new pair machine (Err reason) is = unended_at old new pair machine reason is

  -- what a second start comes to
  pub restarted : {A : Type 0} (result : Result A Refusal) (Started : A → Type 0)
      (Called : Type 0) (old middle new : Coordinator D disk) (pair : ℕ)
      (machine : CoordinatorMachine) → failures_of middle ≡ failures_of old
      → MatchResult result Started
      (λ reason. Called × Refuses middle new pair machine (cause_of reason))
      → MatchResult result Started
      (λ reason. Called × Refuses old new pair machine (cause_of reason))
  restarted (Ok sends) Started Called old middle new pair machine same is = is
  restarted (Err reason) Started Called old middle new pair machine same is =
      (is.0, refuses_from old middle new pair machine (cause_of reason) same is.1)
