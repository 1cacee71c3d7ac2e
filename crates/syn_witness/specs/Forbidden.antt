-- What no run does.
use Rattle.std.specs.Prelude.{ℕ, ◌+◌, ◌≤◌, ◌<◌, ◌≡◌, ◌≢◌, ◌⊎◌, true, List, [], ◌∷◌, ◌++◌, length}
use Rattle.std.specs.Prelude.{slice_get, Option, Some, None, IsSomeAnd, All, Contains}
use Rattle.syn_model.specs.Refusal.{Refusal, Device, JournalFull, NoAnswer, TooLarge, BadMessage}
use Rattle.syn_model.specs.Event.{Edit}
use Rattle.syn_model.specs.Path.{Path}
use Rattle.syn_model.specs.Decision.{path_of}
use Rattle.syn_machine.specs.Side.{Begin, ListAt}
use Rattle.syn_machine.specs.Network.{Which, Asks}
use Rattle.syn_machine.specs.Report.{Complete}
use Rattle.syn_machine.specs.Coordinator.{CoordinatorMachine, Running, Exchange, Call, Takes}
use Rattle.syn_machine.specs.Coordinator.{CoordinatorStarts, CoordinatorTicks, fault_of}
use Rattle.syn_machine.specs.Coordinator.{took_not_dir, hearing, Walk, IsToKeep, Advances}
use Rattle.syn_machine.specs.Coordinator.{BothBegun, IsDue, HasNoRoom}
use Rattle.syn_machine.specs.Planning.{Planned}
use Rattle.syn_model.specs.Archive.{Kept}
use Rattle.syn_machine.specs.Machine.{Halted, Down, IsBefore}
use Rattle.syn_runs.specs.World.{World, Machine, At, Step, Edits, Stop, Steps, Runs, side_of}
use Rattle.syn_runs.specs.World.{status_of, failures_of}
use Rattle.syn_runs.specs.Runs.{IsStart}

-- without a stop among the steps no machine goes down
abbrev pub StaysWithoutStop : Type 0
StaysWithoutStop = (old new : World) (steps : List Step) → IsStart old → Runs old steps new →
    ((machine : Machine) (call : ℕ) → Contains steps (Stop machine call) → ⊥) →
    (machine : Machine) → status_of new machine ≢ Down

-- an edit takes its side down only where a stop is armed at one of its four device calls
abbrev pub StopsAsArmed : Type 0
StopsAsArmed = (old new : World) (side : Which) (user : ℕ) (edit : Edit) →
    Steps old (Edits side user edit) new → status_of old (At side) ≢ Down →
    status_of new (At side) ≡ Down → let stop = (side_of old side).journal.arms.stop in
    (1 ≤ stop) × (stop ≤ 4)

-- an edit is not acknowledged where one of its four device calls is armed
abbrev pub ArmedCallsCome : Type 0
ArmedCallsCome = (old new : World) (side : Which) (user : ℕ) (edit : Edit) → let arms =
    (side_of old side).journal.arms in
    (IsBefore 4 arms.fail × IsBefore 4 arms.stop → ⊥) → Steps old (Edits side user edit) new →
    new.acknowledged ≡ old.acknowledged

-- a session that has just started is not given up at its first tick
abbrev pub StartsFresh : Type 0
StartsFresh = (pair : ℕ) (preference : Option Which) (old started new : CoordinatorMachine)
    (call ticked : Call) →
    CoordinatorStarts pair preference old started call → CoordinatorTicks started new ticked →
    All (λ report. report.ended ≢ Some NoAnswer) ticked.reports

-- no side is asked twice to begin a session, but by a resend
abbrev pub BeginsOnce : Type 0
BeginsOnce = (old new : World) (steps : List Step) → IsStart old → Runs old steps new →
    (side : Which) (session m n pair again : ℕ) →
    Contains new.sent (Asks side session m (Begin pair)) →
    Contains new.sent (Asks side session n (Begin again)) → m ≡ n

-- an answer with no fault in it ends no session 22 or 23
abbrev pub FaultsAlone : Type 0
FaultsAlone = (pair : ℕ) (old : CoordinatorMachine) (running : Running) (taken : Exchange)
    (new : CoordinatorMachine) (call : Call) →
    Takes pair old running taken new call →
    fault_of running.taken taken.side taken.request taken.reply ≡ None →
    All (λ report. (report.ended ≢ Some TooLarge) × (report.ended ≢ Some BadMessage)) call.reports

-- a session that took an answer of a path as no directory does not report Complete
abbrev pub UnstableIsIncomplete : Type 0
UnstableIsIncomplete = (pair : ℕ) (old : CoordinatorMachine) (running : Running) (taken : Exchange)
    (new : CoordinatorMachine) (call : Call) →
    Takes pair old running taken new call → took_not_dir (hearing running taken) ≡ true →
    All (λ report. report.end ≢ Complete) call.reports

-- no side is asked for a listing before both have answered that they have begun
abbrev pub ListsAfterBegun : Type 0
ListsAfterBegun = (pair : ℕ) (old : CoordinatorMachine) (running : Running) (taken : Exchange)
    (new : CoordinatorMachine) (call : Call) → Takes pair old running taken new call →
    (side : Which) (session number : ℕ) (path : Path) →
    Contains call.messages (Asks side session number (ListAt path)) →
    BothBegun (hearing running taken).taken

-- a session whose archive's device fails in a call does not go on
abbrev pub FailureEnds : Type 0
FailureEnds = (pair : ℕ) (old : CoordinatorMachine) (running : Running) (taken : Exchange)
    (new : CoordinatorMachine) (call : Call) →
    Takes pair old running taken new call → new.journal.status ≢ old.journal.status →
    new.running ≡ None

-- the refusal is of an item of the plan from the one cursor on and before the other
abbrev pub IsPassed : List Planned → Walk → Walk → Refusal × Path → Type 0
IsPassed plan walk later refusal = (item : ℕ) × (planned : Planned) × (walk.cursor ≤ item)
    × (item < later.cursor) × (slice_get plan item ≡ Some planned)
    × (refusal.1 ≡ path_of planned.item)

-- no walk goes back, and each refusal that it adds is of an item that it passed
abbrev pub RefusedIsPassed : Type 0
RefusedIsPassed = (pair : ℕ) (plan : List Planned) (taken : Exchange) (walk later : Walk)
    (kept : List Kept) → Advances pair plan taken walk kept later →
    (walk.cursor ≤ later.cursor)
    × ((more : List (Refusal × Path)) × (later.refused ≡ walk.refused ++ more)
    × All (IsPassed plan walk later) more)

-- the record is due for an item of the plan from the one cursor on and up to the other
abbrev pub IsDueWithin : List Planned → Exchange → Walk → Walk → Kept → Type 0
IsDueWithin plan taken walk later kept = (item : ℕ) × (planned : Planned) × (walk.cursor ≤ item)
    × (item ≤ later.cursor) × (slice_get plan item ≡ Some planned) × IsDue item planned taken kept

-- and each record that it keeps is due for an item that it came to
abbrev pub KeptIsDue : Type 0
KeptIsDue = (pair : ℕ) (plan : List Planned) (taken : Exchange) (walk later : Walk)
    (kept : List Kept) → Advances pair plan taken walk kept later →
    All (IsDueWithin plan taken walk later) kept

-- a checkpoint that an answer makes is followed by the record that it was made for, or by nothing
-- more of that answer
abbrev pub RecordsAfterRoom : Type 0
RecordsAfterRoom = (pair : ℕ) (plan : List Planned) (taken : Exchange) (walk later : Walk)
    (kept : List Kept) →
    Advances pair plan taken walk kept later → walk.made_room ≡ true →
    ((later.cursor ≡ walk.cursor) × (later.journal.generation ≡ walk.journal.generation))
    ⊎ IsSomeAnd (slice_get kept 0) (IsToKeep plan taken walk)

-- a walk that makes a checkpoint comes to a record that is due and does not fit
abbrev pub CheckpointsAreNeeded : Type 0
CheckpointsAreNeeded = (pair : ℕ) (plan : List Planned) (taken : Exchange) (walk later : Walk)
    (kept : List Kept) → Advances pair plan taken walk kept later →
    walk.journal.generation < later.journal.generation →
    (between : Walk) × (earlier : List Kept) × (what : Kept)
    × Advances pair plan taken walk earlier between × (between.cursor ≤ later.cursor)
    × HasNoRoom pair plan taken between what

-- an answer makes at most one checkpoint more than it keeps records
abbrev pub CheckpointsAreForRecords : Type 0
CheckpointsAreForRecords = (pair : ℕ) (old : CoordinatorMachine) (running : Running)
    (taken : Exchange)
    (new : CoordinatorMachine) (call : Call) → Takes pair old running taken new call →
    new.journal.generation ≤ old.journal.generation + length call.kept + 1

-- a session that no side refused 8 ends 8 only where a checkpoint in that answer left no room for
-- the record that is due
abbrev pub FullAfterCheckpoint : Type 0
FullAfterCheckpoint = (pair : ℕ) (old : CoordinatorMachine) (running : Running) (taken : Exchange)
    (new : CoordinatorMachine) (call : Call) → Takes pair old running taken new call →
    fault_of running.taken taken.side taken.request taken.reply ≡ None →
    All (λ report. report.ended ≡ Some JournalFull →
    old.journal.generation < new.journal.generation) call.reports

-- a machine is halted only after one of its device calls failed, so where none fails in a run none
-- is
abbrev pub HaltedAfterFailure : Type 0
HaltedAfterFailure = (old new : World) (steps : List Step) → IsStart old → Runs old steps new →
    (machine : Machine) →
    (failures_of old machine ≤ failures_of new machine)
    × (status_of new machine ≡ Halted → failures_of old machine < failures_of new machine)

-- a step that is refused 9 had a device call that failed
abbrev pub RefusedAfterFailure : Type 0
RefusedAfterFailure = (old new : World) (step : Step) → Steps old step new →
    new.refusals ≡ old.refusals ++ Device ∷ [] →
    (machine : Machine) × (failures_of old machine < failures_of new machine)

-- and so had an answer without a fault that ends a session 9
abbrev pub EndsAfterFailure : Type 0
EndsAfterFailure = (pair : ℕ) (old : CoordinatorMachine) (running : Running) (taken : Exchange)
    (new : CoordinatorMachine) (call : Call) → Takes pair old running taken new call →
    fault_of running.taken taken.side taken.request taken.reply ≡ None →
    All (λ report. report.ended ≡ Some Device →
    old.journal.failures < new.journal.failures) call.reports
