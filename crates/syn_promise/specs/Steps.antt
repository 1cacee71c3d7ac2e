-- What comes of the steps of a run: each is made, or its user is told why not.
use Rattle.std.specs.Prelude.{ℕ, ◌≡◌, ◌≢◌, ◌⊎◌, ◌+◌, List, [], ◌∷◌, ◌++◌, All, map, filter_map}
use Rattle.std.specs.Prelude.{Contains, Option, Some, None, IsSomeAnd}
use Rattle.syn_model.specs.Refusal.{Refusal, Busy, Device, Full, Halted, JournalFull, Memory}
use Rattle.syn_model.specs.Event.{Edit, Event, Edited, Began}
use Rattle.syn_model.specs.History.{event_refusal}
use Rattle.syn_model.specs.Archive.{Kept, Session}
use Rattle.syn_machine.specs.Network.{Which}
use Rattle.syn_runs.specs.World.{Machine, At, Coordinator, Step, Edits, Start, Deliver}
use Rattle.syn_runs.specs.World.{Checkpoint, Open, Reopen}
use Rattle.syn_runs.specs.Acknowledged.{Ack, Happened, Kept_by, Stores, history_of}
use Rattle.syn_runs.specs.Acknowledged.{stores_after}
use Rattle.syn_promise.specs.Power.{Power, On, Off, Turns}

-- Whether a machine is on or off; and the change that it was making as it stopped or as its device
-- failed, which its next opening may give back
pub record Condition : Type 0 where
  pub power : Power
  pub making : Option Ack

abbrev pub working : Condition
working = record { power = On; making = None }

-- a machine that is on, and was open since a change of it was cut off, may make another
abbrev pub IsAble : Condition → Type 0
IsAble condition = (condition.power ≢ Off) × (condition.making ≡ None)

-- the number of a session that a start made, and the side that this start prefers
abbrev pub Started : Type 0
Started = ℕ × Option Which

abbrev pub started_by : Step → Ack → Option Started
started_by (Start preference) (Kept_by (Session session)) = Some (session, preference)
started_by _ _ = None

-- the machine that a user asks for something by the step may refuse it so, where it stands for this
abbrev pub MayRefuse : Stores → Step → Refusal → Type 0
MayRefuse stands (Edits side user edit) why =
    (event_refusal (history_of stands side) (Edited user edit) ≡ Some why)
    ⊎ Contains (Halted ∷ JournalFull ∷ Memory ∷ Device ∷ []) why
MayRefuse stands (Start preference) why =
    Contains (Halted ∷ Busy ∷ Full ∷ JournalFull ∷ Memory ∷ Device ∷ []) why
MayRefuse stands (Checkpoint machine) why = Contains (Halted ∷ Full ∷ Memory ∷ Device ∷ []) why
MayRefuse stands (Open machine) why = Contains (Device ∷ Memory ∷ []) why
MayRefuse stands (Reopen machine) why = Contains (Device ∷ Memory ∷ []) why
MayRefuse stands _ why = ⊥

-- nothing has to come of the step
abbrev pub OwesNothing : Step → Type 0
OwesNothing (Edits side user edit) = ⊥
OwesNothing (Start preference) = ⊥
OwesNothing (Open machine) = ⊥
OwesNothing (Reopen machine) = ⊥
OwesNothing _ = Unit {0}

-- what a session that was started changes on a side and in the archive, beside its number
abbrev pub IsOfSession : List Started → Ack → Type 0
IsOfSession started (Happened side (Edited user edit)) = ⊥
IsOfSession started (Happened side (Began session)) =
    (preference : Option Which) × Contains started (session, preference)
IsOfSession started (Kept_by (Session session)) = ⊥
IsOfSession started _ = Unit {0}

-- The changes that the step makes, where the machines stand for this and these sessions were
-- started: an edit, where no rule refuses it; the next number of a session; or a session's, where a
-- message is delivered
abbrev pub Makes : Stores → List Started → Step → List Ack → Type 0
Makes stands started (Edits side user edit) acks = (acks ≡ Happened side (Edited user edit) ∷ [])
    × (event_refusal (history_of stands side) (Edited user edit) ≡ None)
Makes stands started (Start preference) acks =
    acks ≡ Kept_by (Session (stands.archive.last_session + 1)) ∷ []
Makes stands started (Deliver message) acks = All (IsOfSession started) acks
Makes stands started _ acks = ⊥

-- they are of this machine: one event of a side, or records of the archive
abbrev pub AreOf : Machine → List Ack → Type 0
AreOf (At side) acks = (event : Event) × (acks ≡ Happened side event ∷ [])
AreOf Coordinator acks = (kept : List Kept) × (acks ≡ map Kept_by kept)

-- What comes of a step, where the machines stand for this, and are in such a condition before it
-- and after it: what is acknowledged, and what its user is refused
pub data Comes (stands : Stores) (started : List Started) (was now : Machine → Condition) :
    Step → List Ack → List Refusal → Type 0 where
  made : (step : Step) (machine : Machine) (acks : List Ack) → IsAble (was machine) →
      AreOf machine acks → Makes stands started step acks →
      Comes stands started was now step acks []
  refused : (step : Step) (why : Refusal) → MayRefuse stands step why →
      Comes stands started was now step [] (why ∷ [])
  edit_lost : (side : Which) (user : ℕ) (edit : Edit) → (now (At side)).power ≡ Off →
      Comes stands started was now (Edits side user edit) [] []
  start_lost : (preference : Option Which) → (now Coordinator).power ≡ Off →
      Comes stands started was now (Start preference) [] []
  opened : (step : Step) (machine : Machine) (acks : List Ack) →
      Contains (Open machine ∷ Reopen machine ∷ []) step → IsAble (now machine) →
      (acks ≡ []) ⊎ IsSomeAnd (was machine).making (λ ack. acks ≡ ack ∷ []) →
      Comes stands started was now step acks []
  was_open : (machine : Machine) → (was machine).power ≢ Off →
      Comes stands started was now (Open machine) [] []
  reopening_lost : (machine : Machine) → (now machine).power ≡ Off →
      Comes stands started was now (Reopen machine) [] []
  nothing : (step : Step) → OwesNothing step → Comes stands started was now step [] []

-- why a change is cut off in this step: its machine is off after it; or its device failed, which
-- is told to the user of an edit or a start, and to nobody where a message was delivered
abbrev pub IsCut : Step → List Refusal → Power → Type 0
IsCut (Deliver message) told power = told ≡ []
IsCut _ told power = ((power ≡ Off) × (told ≡ [])) ⊎ (told ≡ Device ∷ [])

-- What the step leaves of the change that a machine was making: it stays so, or the machine is
-- opened and forgets it, whether it gave it back or not; or the machine makes the next change of
-- this step, after those that were acknowledged, and that is cut off
pub data Leaves (stands : Stores) (started : List Started) (machine : Machine) (step : Step)
    (acks : List Ack) (told : List Refusal) (was now : Condition) : Type 0 where
  stays : now.making ≡ was.making → Leaves stands started machine step acks told was now
  forgets : Contains (Open machine ∷ Reopen machine ∷ []) step → now.making ≡ None →
      Leaves stands started machine step acks told was now
  cut_off : (ack : Ack) → now.making ≡ Some ack → IsAble was → AreOf machine (acks ++ ack ∷ []) →
      Makes stands started step (acks ++ ack ∷ []) → IsCut step told now.power →
      Leaves stands started machine step acks told was now

-- What comes of all steps, one after another, from machines that are on: the conditions of the
-- machines, the sessions that were started, what was acknowledged, and what users were refused
pub data Come (before : Stores) : (Machine → Condition) → List Started → List Step → List Ack →
    List Refusal → Type 0 where
  no_step : Come before (λ machine. working) [] [] [] []
  one_more : (steps : List Step) (step : Step) (acks more : List Ack) (told later : List Refusal)
      (was now : Machine → Condition) (started : List Started) →
      Come before was started steps acks told →
      ((machine : Machine) → Turns machine step later (was machine).power (now machine).power
      × Leaves (stores_after before acks) started machine step more later (was machine)
      (now machine)) →
      Comes (stores_after before acks) started was now step more later →
      Come before now (started ++ filter_map (started_by step) more) (steps ++ step ∷ [])
      (acks ++ more) (told ++ later)
