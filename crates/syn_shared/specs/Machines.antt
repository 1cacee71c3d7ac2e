-- A hold as a step of the world's side, whatever agent the side has beside the replica.
use Rattle.std.specs.Prelude.{◌≡◌, ◌⊎◌, ◌+◌, ◌≤◌, ℕ, true, [], ◌∷◌, ◌++◌, length, List, Option}
use Rattle.std.specs.Prelude.{None, Some, Result, Ok, Err, IsErrAnd}
use Rattle.syn_agent.specs.Machines.{IsOf, IsLeftAs}
use Rattle.syn_agent.specs.declared.agent.Agent.{Agent}
use Rattle.syn_disk.specs.declared.disk.Disk.{Ghosts}
use Rattle.syn_machine.specs.Machine.{Status, Up, Halted, Down, Arms, Journaled, Meets, Writes}
use Rattle.syn_machine.specs.Machine.{Compacts, Opens, after_device}
use Rattle.syn_machine.specs.SideMachine.{SideMachine, side_layout, with_journal, causes_of}
use Rattle.syn_machine.specs.MachineSteps.{is_halted, full_generation}
use Rattle.syn_model.specs.Event.{Event}
use Rattle.syn_model.specs.History.{History, IsAllowed}
use Rattle.syn_model.specs.Refusal.{Device, Memory, Cause, first_cause}
use Rattle.syn_model.specs.Refusal as why
use Rattle.syn_replica.specs.ErrorRefusals.{refusal_of}
use Rattle.syn_replica.specs.declared.error.ReplicaError.{ReplicaError}
use Rattle.syn_replica.specs.declared.replica.Replica.{Replica}

-- why the world refuses a call on the journal of a side, before lack of memory
abbrev pub causes_before : SideMachine → List Cause → List Cause
causes_before machine causes = (is_halted machine.journal.status, why.Halted) ∷ causes

-- the first of the causes refuses it, or lack of memory where none stands
abbrev pub IsRefused : SideMachine → List Cause → ReplicaError → Type 0
IsRefused machine causes error =
    first_cause (causes_before machine causes ++ (true, Memory) ∷ []) ≡ Some (refusal_of error)

-- none of them stands
abbrev pub IsMade : SideMachine → List Cause → Type 0
IsMade machine causes = first_cause (causes_before machine causes) ≡ None

-- the refusal where memory may be wanting before another cause is looked at
abbrev pub IsRefusedEarly : SideMachine → Option why.Refusal → ReplicaError → Type 0
IsRefusedEarly machine cause error =
    ((machine.journal.status ≡ Halted) × (refusal_of error ≡ why.Halted))
    ⊎ ((machine.journal.status ≡ Up)
    × ((refusal_of error ≡ Memory) ⊎ (cause ≡ Some (refusal_of error))))

-- what is answered of a machine that was left so; one that stopped is not heard
abbrev pub Says : {X : Type 0} → Status → X → Result X ReplicaError → Type 0
Says Up value answer = answer ≡ Ok value
Says Halted value answer = IsErrAnd answer (λ e. refusal_of e ≡ Device)
Says Down value answer = Unit {0}

module _ {D : Type 0} {disk : Ghosts D} (pair : ℕ) (left : Replica D disk) (agent : Agent)
    (machine : SideMachine) where
  -- the machine's journal went on so, and the replica is that of the machine with it
  abbrev pub GoesTo : Journaled History Event → Type 0
  GoesTo journal = IsLeftAs pair left agent (with_journal machine journal)

  -- The event is written as a side of the world writes it, also where the device fails or is
  -- stopped; or it is refused, and the replica stays that of the machine
  pub data WritesEvent (event : Event) (Allowed : Type 0) (Refused : ReplicaError → Type 0)
      : Result ℕ ReplicaError → Type 0 where
    writes : (answer : Result ℕ ReplicaError) (journal : Journaled History Event)
        (events : List Event) → machine.journal.status ≡ Up → Allowed →
        Writes (side_layout pair) machine.journal event journal events →
        Says journal.status (length machine.journal.value + 1) answer → GoesTo journal →
        WritesEvent event Allowed Refused answer
    refuses : (e : ReplicaError) → Refused e → IsOf pair left agent machine →
        WritesEvent event Allowed Refused (Err e)

  -- an edit of a user, in the world's words
  abbrev pub EditsSide : Event → Result ℕ ReplicaError → Type 0
  EditsSide event = let causes = causes_of pair machine event in
      WritesEvent event (IsMade machine causes) (IsRefused machine causes)

  -- A checkpoint of the side, or its refusal
  pub data CompactsSide : Result Unit ReplicaError → Type 0 where
    compacts : (answer : Result Unit ReplicaError) (journal : Journaled History Event) →
        IsMade machine (full_generation machine.journal.generation) →
        Compacts (side_layout pair) machine.journal journal → Says journal.status tt answer →
        GoesTo journal → CompactsSide answer
    keeps : (e : ReplicaError) →
        IsRefused machine (full_generation machine.journal.generation) e →
        IsOf pair left agent machine → CompactsSide (Err e)

  -- Another opening of the side by at least one device call: it gives what the disk may mean; or
  -- the machine stopped in it, its device failed, or memory was refused after the device calls
  pub data ReopensSide : Result Unit ReplicaError → Type 0 where
    opens : (calls : ℕ) (journal : Journaled History Event) (events : List Event) → 1 ≤ calls →
        Opens (side_layout pair) IsAllowed machine.journal calls journal events →
        IsOf pair left agent (with_journal machine journal) → ReopensSide (Ok tt)
    stops_within : (answer : Result Unit ReplicaError) (calls failed : ℕ) (arms : Arms) →
        Meets machine.journal.arms calls Down arms failed →
        GoesTo (after_device machine.journal Down arms failed) → ReopensSide answer
    fails : (e : ReplicaError) (calls failed : ℕ) (arms : Arms) → refusal_of e ≡ Device →
        Meets machine.journal.arms calls Halted arms failed →
        IsOf pair left agent (with_journal machine (after_device machine.journal Halted arms
        failed)) → ReopensSide (Err e)
    has_no_memory : (e : ReplicaError) (calls failed : ℕ) (arms : Arms) →
        refusal_of e ≡ Memory → Meets machine.journal.arms calls Up arms failed →
        IsOf pair left agent (with_journal machine (after_device machine.journal
        machine.journal.status arms failed)) → ReopensSide (Err e)
