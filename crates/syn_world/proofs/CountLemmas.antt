-- The coordinator's machine counts no more failed calls than its disk, whatever call is made of it.
use Rattle.std.proofs.Common.{◌≡◌, ◌⊎◌, ◌≤◌, ◌∙◌, ◌+◌, ℕ, List, Option, Some, arith, inl, inr}
use Rattle.std.proofs.Common.{refl, ap, subst, sym, true}
use Rattle.std.proofs.lemmas.Bool.{false≢true}
use Rattle.syn_archive.specs.Archive.{IsHalted, disk_of}
use Rattle.syn_coordinator.specs.Coordinators.{BreaksOff, FailsOrStops, HaltsByFailure, Stands}
use Rattle.syn_coordinator.specs.Coordinators.{TellsNone, archive_of, device_of}
use Rattle.syn_coordinator.specs.declared.coordinator.Coordinator.{Coordinator as Session}
use Rattle.syn_disk.specs.declared.disk.Disk.{Ghosts}
use Rattle.syn_machine.specs.Coordinator.{Advances, Call, CoordinatorMachine, CoordinatorStarts}
use Rattle.syn_machine.specs.Coordinator.{CoordinatorTakes, CoordinatorTicks, Exchange, Keeps}
use Rattle.syn_machine.specs.Coordinator.{Takes, Walk, archive_layout, coordinator_kind}
use Rattle.syn_machine.specs.Coordinator.{cut_after, gives_up, ignores, no_session, resends}
use Rattle.syn_machine.specs.Coordinator.{start_breaks, takes, writes}
use Rattle.syn_machine.specs.Coordinator as walk
use Rattle.syn_machine.specs.Machine.{Arms, Compacts, Down, Halted, Meets, Status, Up, Writes}
use Rattle.syn_machine.specs.Machine.{after_device, all_made, compacted, idle, not_compacted}
use Rattle.syn_machine.specs.Machine.{one_fails, one_stops, unwritten}
use Rattle.syn_machine.specs.Machine as kinds
use Rattle.syn_machine.specs.MachineSteps.{Checkpoints, checkpoints}
use Rattle.syn_machine.specs.Network.{Which}
use Rattle.syn_machine.specs.Planning.{Planned}
use Rattle.syn_machine.specs.Session.{Running}
use Rattle.syn_machine.specs.Side.{Reply}
use Rattle.syn_world.proofs.SideLemmas.{halted_not_down, halted_not_up}
use Rattle.syn_world.specs.Coordinators.{archive_disk}
use Rattle.syn_world.specs.declared.coordinator.CoordinatorHost.{CoordinatorHost}
use Rattle.syn_coordinator.specs.Machines.{Journal}
use Rattle.syn_coordinator.proofs.DueLemmas.{when_halted}
use Rattle.syn_model.specs.Archive.{Kept}
use Rattle.syn_journal.specs.Calls.{CountsNoMore}
use Rattle.syn_coordinator.specs.Refusals.{CountsFailures}
use Rattle.syn_coordinator.specs.declared.error.StartError.{StartError}
use Rattle.syn_coordinator.specs.declared.error.StartError.TheVariants as session_error

-- at most one call failed, and the machine is halted where one did
abbrev pub FailsOnce : Journal → Journal → Type 0
FailsOnce was now =
    (now.failures ≤ was.failures) ⊎ ((now.failures ≤ was.failures + 1) × (now.status ≡ Halted))

-- and it was up before
abbrev pub FailsFromUp : Journal → Journal → Type 0
FailsFromUp was now = (now.failures ≤ was.failures)
    ⊎ ((now.failures ≤ was.failures + 1) × (was.status ≡ Up) × (now.status ≡ Halted))

pub from_up : (was now : Journal) → was.status ≡ Up → FailsOnce was now → FailsFromUp was now
from_up was now up (inl none) = inl none
from_up was now up (inr one) = inr (one.0, up, one.1)

-- none failed where it is up
none_up : (was now : Journal) → now.status ≡ Up → FailsOnce was now → now.failures ≤ was.failures
none_up was now up (inl none) = none
none_up was now up (inr one) = absurd (halted_not_up (sym one.1 ∙ up))

meets_once : (arms : Arms) (calls : ℕ) (now : Arms) (failed : ℕ) (status : Status) →
    Meets arms calls status now failed → (failed ≡ 0) ⊎ ((failed ≡ 1) × (status ≡ Halted))
meets_once arms calls _ _ _ (all_made fail stop) = inl refl
meets_once arms calls _ _ _ (one_fails made less fail stop) = inr (refl, refl)
meets_once arms calls _ _ _ (one_stops made less fail stop) = inl refl

device_once : (was middle : Journal) (arms now : Arms) (calls failed : ℕ) (status : Status) →
    middle.failures ≡ was.failures → Meets arms calls status now failed →
    FailsOnce was (after_device middle status now failed)
device_once was middle arms now calls failed status same meets =
    elim (meets_once arms calls now failed status meets)
    as (λ _. FailsOnce was (after_device middle status now failed)) [
      | inl none ↦ inl (omega (arith, same, none))
      | inr one ↦ let is = one.0 in inr (omega (arith, same, is), one.1)
    ]

module _ (pair : ℕ) (machine : Journal) where
  pub compacts_once : (journal : Journal) → Compacts (archive_layout pair) machine journal →
      FailsOnce machine journal
  compacts_once _ (compacted arms meets) = inl (omega arith)
  compacts_once _ (not_compacted status arms failed either meets) =
      device_once machine (record machine { compacting = true }) machine.arms arms 6 failed status
      refl meets

  writes_once : (journal : Journal) (kept : Kept) (told : List Kept) →
      Writes (archive_layout pair) machine kept journal told → FailsOnce machine journal
  writes_once _ kept _ (idle is) = inl (omega arith)
  writes_once _ kept _ (kinds.written arms is meets) = inl (omega arith)
  writes_once _ kept _ (unwritten status arms failed is either meets) =
      device_once machine (record machine { writing = Some kept }) machine.arms arms 4 failed status
      refl meets

  pub keeps_once : (journal : Journal) (kept : Kept) (told : List Kept) →
      Keeps pair machine kept journal told → FailsOnce machine journal
  keeps_once journal kept told (writes _ _ done) = writes_once journal kept told done
  keeps_once _ kept _ (cut_after fresh before stop) = inl (omega arith)

-- after a call that left it up
up_after : (was middle now : Journal) → was.status ≡ Up → middle.failures ≤ was.failures →
    FailsFromUp middle now → FailsFromUp was now
up_after was middle now up less (inl none) = inl (omega (arith, less, none))
up_after was middle now up less (inr one) =
    let most = one.0 in inr (omega (arith, less, most), up, one.2)

module _ (pair : ℕ) (plan : List Planned) (taken : Exchange) where
  advances_once : (start end : Walk) (kept : List Kept) →
      Advances pair plan taken start kept end → FailsFromUp start.journal end.journal
  advances_once start _ _ (walk.stands _) = inl (omega arith)
  advances_once start end kept (walk.conflicts _ _ _ planned path free at is more) =
      advances_once _ end kept more
  advances_once start end kept (walk.side_refuses _ _ _ planned why free at said for more) =
      advances_once _ end kept more
  advances_once start end kept
      (walk.archive_refuses _ _ _ planned what why free at is either because more) =
      advances_once _ end kept more
  advances_once start end kept (walk.no_checkpoint _ _ _ what free full greatest more) =
      advances_once _ end kept more
  advances_once start end kept
      (walk.checkpoints _ _ _ what journal free full less compacts up more) =
      up_after start.journal journal end.journal full.to_keep.up
      (none_up start.journal journal up (compacts_once pair start.journal journal compacts))
      (advances_once _ end kept more)
  advances_once start _ _ (walk.checkpoint_breaks _ what journal free full less compacts broke) =
      from_up start.journal journal full.to_keep.up
      (compacts_once pair start.journal journal compacts)
  advances_once start end _ (walk.keeps _ _ what kept journal due room keeps up more) =
      up_after start.journal journal end.journal due.up
      (none_up start.journal journal up (keeps_once pair start.journal journal what _ keeps))
      (advances_once _ end kept more)
  advances_once start _ kept (walk.record_breaks _ what _ journal due room keeps broke) =
      from_up start.journal journal due.up (keeps_once pair start.journal journal what kept keeps)

module _ (pair : ℕ) (machine : CoordinatorMachine) where
  takes_once : (running : Running) (taken : Exchange) (next : CoordinatorMachine) (made : Call) →
      Takes pair machine running taken next made → FailsFromUp machine.journal next.journal
  takes_once running taken _ _ (walk.ends_at_once why either) = inl (omega arith)
  takes_once running taken _ _ (walk.Takes.stops plan logged at kept sound has through is) =
      advances_once pair _ taken _ at kept through
  takes_once running taken _ _ (walk.ends plan logged at kept why sound has through ends) =
      advances_once pair _ taken _ at kept through
  takes_once running taken _ _
      (walk.Takes.goes_on plan logged at kept left right sound has through room same past asks) =
      advances_once pair _ taken _ at kept through

  pub reply_once : (from : Which) (session number : ℕ) (reply : Reply) (next : CoordinatorMachine)
      (made : Call) → CoordinatorTakes pair machine from session number reply next made →
      FailsFromUp machine.journal next.journal
  reply_once from session number reply next made (takes running request _ _ expected taken) =
      takes_once running _ next made taken
  reply_once from session number reply _ _ (ignores none) = inl (omega arith)

  pub checkpoint_once : machine.journal.status ≡ Up → (next : CoordinatorMachine) (made : Call) →
      Checkpoints (coordinator_kind pair) machine next made →
      FailsFromUp machine.journal next.journal
  checkpoint_once up _ _ (checkpoints journal compacts) =
      from_up machine.journal journal up (compacts_once pair machine.journal journal compacts)

  pub start_once : machine.journal.status ≡ Up → (preference : Option Which)
      (next : CoordinatorMachine) (made : Call) →
      CoordinatorStarts pair preference machine next made →
      FailsFromUp machine.journal next.journal
  start_once up preference _ _
      (walk.CoordinatorStarts.starts session journal is lawful keeps now) =
      from_up machine.journal journal up (keeps_once pair machine.journal journal _ _ keeps)
  start_once up preference _ _ (start_breaks session journal kept is keeps broke) =
      from_up machine.journal journal up (keeps_once pair machine.journal journal _ kept keeps)

pub tick_once : (machine next : CoordinatorMachine) (made : Call) →
    CoordinatorTicks machine next made → FailsFromUp machine.journal next.journal
tick_once machine _ _ (no_session none) = inl (omega arith)
tick_once machine _ _ (resends running is not) = inl (omega arith)
tick_once machine _ _ (gives_up running why is either) = inl (omega arith)

-- a tick leaves the archive
pub still_halts : {D : Type 0} {disk : Ghosts D} (old new : Session D disk) →
    archive_of new ≡ archive_of old → HaltsByFailure old new
still_halts old new same pair machine stands up halted =
    absurd (halted_not_up (sym (when_halted (archive_of old) pair machine.journal stands.journal
    (subst (λ a. IsHalted a) same halted)) ∙ up))

pub still_grew : {D : Type 0} {disk : Ghosts D} (old new : Session D disk) →
    archive_of new ≡ archive_of old →
    disk.failures (device_of old) ≤ disk.failures (device_of new)
still_grew {D} {disk} old new same =
    let is = ap (λ a. disk.failures (disk_of a)) same in omega (arith, is)

-- a machine that is down makes no call
pub down_still : {D : Type 0} {disk : Ghosts D} {was now : CoordinatorHost D disk} → was ≡ now →
    disk.failures (archive_disk was) ≤ disk.failures (archive_disk now)
down_still {D} {disk} same =
    let is = ap (λ h. disk.failures (archive_disk h)) same in omega (arith, is)

-- an answer that is taken uncounts no call that failed
pub reply_grew : {D : Type 0} {disk : Ghosts D} (old new : Session D disk) →
    TellsNone old new ⊎ BreaksOff old new →
    disk.failures (device_of old) ≤ disk.failures (device_of new)
reply_grew {D} {disk} old new breaks = by breaks
  where
    counted_grew : FailsOrStops old new →
        disk.failures (device_of old) ≤ disk.failures (device_of new)
    counted_grew (inl less) = omega (arith, less)
    counted_grew (inr stopped) = let same = stopped.1 in omega (arith, same)

    none_grew :
        (disk.failures (device_of new) ≡ disk.failures (device_of old)) ⊎ FailsOrStops old new →
        disk.failures (device_of old) ≤ disk.failures (device_of new)
    none_grew (inl same) = omega (arith, same)
    none_grew (inr counted) = counted_grew counted

    by : TellsNone old new ⊎ BreaksOff old new →
        disk.failures (device_of old) ≤ disk.failures (device_of new)
    by (inl none) = none_grew none.counted
    by (inr off) = counted_grew off.counted

-- nor does one that starts a session
pub start_grew : (e : StartError) (old new : ℕ) → CountsFailures e old new → old ≤ new
start_grew session_error.Device old new less = omega (arith, less)
start_grew session_error.Full old new same = omega (arith, same)
start_grew session_error.JournalFull old new same = omega (arith, same)
start_grew session_error.Halted old new same = omega (arith, same)
start_grew session_error.Memory old new same = omega (arith, same)
start_grew session_error.Busy old new same = omega (arith, same)

-- A call from one coordinator to the other, whose machine halts only where a device call failed
module _ {D : Type 0} {disk : Ghosts D} (old new : Session D disk) (pair : ℕ)
    (machine : CoordinatorMachine) (stands : Stands old pair machine)
    (halts : HaltsByFailure old new)
    (grew : disk.failures (device_of old) ≤ disk.failures (device_of new))
    (next : CoordinatorMachine) where
  abbrev Counts : Type 0
  Counts = CountsNoMore (disk.failures (device_of old)) (disk.failures (device_of new))
      machine.journal next.journal

  -- it goes on, or is down
  pub counts_so : FailsFromUp machine.journal next.journal →
      Stands new pair next ⊎ (next.journal.status ≡ Down) → Counts
  counts_so (inl none) either = omega (arith, none, grew)
  counts_so (inr one) (inr down) = absurd (halted_not_down (sym one.2 ∙ down))
  counts_so (inr one) (inl now) =
      elim (halts pair machine stands one.1 is_halted) as (λ _. Counts) [
        | inl failed ↦ let most = one.0 in omega (arith, most, failed)
        | inr stopped ↦ absurd (false≢true (sym now.journal.goes ∙ stopped))
      ]
    where
      is_halted : IsHalted (archive_of new)
      is_halted = elim now.journal.state as (λ _. IsHalted (archive_of new)) [
        | inl runs ↦ absurd (halted_not_up (sym one.2 ∙ runs.up))
        | inr fails ↦ fails.is_halted
      ]
