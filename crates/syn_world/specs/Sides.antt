-- Which of the model's machines a side is, up or down, and what a call of it does.
use Rattle.std.specs.Prelude.{◌≡◌, ◌<◌, ◌≤◌, ℕ, Bool, true, false, List, [], ◌∷◌, Option, Some}
use Rattle.std.specs.Prelude.{IfSome, None, length, option_map}
use Rattle.syn_agent.specs.Machines.{IsOf}
use Rattle.syn_disk.specs.Arms.{Arms, is_stopped}
use Rattle.syn_disk.specs.declared.disk.Disk.{Ghosts}
use Rattle.syn_machine.specs.Machine.{Up, Down, unarmed}
use Rattle.syn_machine.specs.Side.{Request}
use Rattle.syn_machine.specs.SideMachine.{SideMachine}
use Rattle.syn_world.specs.Outcomes.{Acknowledges, refused_in}
use Rattle.syn_world.specs.SideSteps.{Answers, SideStep}
use Rattle.syn_world.specs.declared.outcome.SideOutcome.{SideOutcome}
use Rattle.syn_world.specs.declared.outcome.SideOutcome.TheVariants.{Nothing, Refused}
use Rattle.syn_world.specs.declared.side.DownSide.{DownSide}
use Rattle.syn_world.specs.declared.side.SideAnswer.{SideAnswer}
use Rattle.syn_world.specs.declared.side.SideCall.{SideCall}
use Rattle.syn_world.specs.declared.side.SideHost.{SideHost}
use Rattle.syn_world.specs.declared.side.SideHost.TheVariants as host
use Rattle.syn_world.specs.declared.side.UpSide.{UpSide}
use Rattle.syn_message.specs.Replies.{IsLawfulReply, reply_of}
use Rattle.syn_model.specs.Event.{Event}
use Rattle.syn_model.specs.Path.{Bytes}
use Rattle.syn_model.specs.Spelling.{event_spelling}
use Rattle.syn_journal.specs.Calls.{CountsNoMore}
use Rattle.syn_journal.specs.Machines.{Rests}
use Rattle.syn_replica.specs.Keepings.{of_side}
use Rattle.syn_refusal.specs.declared.refusal.Refusal.{Refusal}
use Rattle.syn_replica.specs.Machines.{LeavesMachine}
use Rattle.syn_replica.specs.Replica.{disk_of, position_shown, tried_shown}
use Rattle.syn_replica.specs.declared.replica.Replica.{Replica}

-- the event that was being written is what was sent to the disk last
abbrev pub TriesWriting : SideMachine → Option Bytes → Type 0
TriesWriting machine tried = (event : Event) → machine.journal.writing ≡ Some event →
    tried ≡ Some (event_spelling event)

-- The replica with its agent is the machine, which is not down. Nothing is being written while it
-- is up
pub record RunsAs {D : Type 0} {disk : Ghosts D} (pair : ℕ) (side : UpSide D disk)
    (machine : SideMachine) : Type 0 where
  pub is : IsOf pair side.replica side.agent machine
  pub idle : machine.journal.status ≡ Up → machine.journal.writing ≡ None
  pub tries : TriesWriting machine (tried_shown side.replica)

-- The machine is down and rests on the disk. Nothing is staged, and so many events were
-- acknowledged
pub record RestsAs {D : Type 0} (arms : D → Arms) (may_leave : D → Bytes → Type 0) (pair : ℕ)
    (side : DownSide D) (machine : SideMachine) : Type 0 where
  pub rests : Rests arms may_leave (of_side pair) side.disk machine.journal
  pub unstaged : machine.staging ≡ None
  pub position_is : side.position ≡ length machine.journal.value
  pub tries : TriesWriting machine (option_map (λ spelled. spelled.items) side.tried)

-- A replica is left so as its machine stops; this is what was sent to its disk last
pub record StopsAs {D : Type 0} {disk : Ghosts D} (pair position : ℕ) (tried : Option Bytes)
    (replica : Replica D disk) (machine : SideMachine) : Type 0 where
  pub down : machine.journal.status ≡ Down
  pub unarmed_is : machine.journal.arms ≡ unarmed
  pub unstaged : machine.staging ≡ None
  pub position_is : position ≡ length machine.journal.value
  pub tries : TriesWriting machine tried
  pub leaves : LeavesMachine replica pair machine.journal

-- the side is the machine
abbrev pub IsHost : {D : Type 0} → {disk : Ghosts D} → ℕ → SideHost D disk → SideMachine → Type 0
IsHost {D} {disk} pair (host.Up side) machine = RunsAs pair side machine
IsHost {D} {disk} pair (host.Down side) machine =
    RestsAs disk.arms disk.may_leave pair side machine

-- the replica of a side that is up
abbrev pub replica_in : {D : Type 0} → {disk : Ghosts D} → UpSide D disk → Replica D disk
replica_in side = side.replica

-- and of one that is up or down
abbrev pub replica_of : {D : Type 0} → {disk : Ghosts D} → SideHost D disk →
    Option (Replica D disk)
replica_of (host.Up side) = Some side.replica
replica_of (host.Down side) = None

-- its disk, up or down
abbrev pub side_disk : {D : Type 0} → {disk : Ghosts D} → SideHost D disk → D
side_disk (host.Up side) = disk_of side.replica
side_disk (host.Down side) = side.disk

abbrev pub HasStopped : {D : Type 0} → {disk : Ghosts D} → UpSide D disk → Bool
HasStopped {D} {disk} side = is_stopped (disk.arms (disk_of side.replica))

-- The machine stopped in a call, before which so many events were acknowledged, and nothing comes
-- of the call
abbrev pub Stops : {D : Type 0} → {disk : Ghosts D} → UpSide D disk → ℕ → Option Bytes →
    SideCall D disk → Type 0
Stops side position tried call = (call.outcome ≡ Nothing)
    × ((pair : ℕ) (machine : SideMachine) → StopsAs pair position tried side.replica machine →
    IsHost pair call.side machine)

-- the disk of the side that a call leaves has counted as many failed calls as its replica's
abbrev pub HasCounted : {D : Type 0} → {disk : Ghosts D} → UpSide D disk → SideCall D disk → Type 0
HasCounted {D} {disk} side call =
    disk.failures (side_disk call.side) ≡ disk.failures (disk_of side.replica)

-- a call goes on with the outcome, or its machine stopped
pub record Settles {D : Type 0} {disk : Ghosts D} (side : UpSide D disk) (position : ℕ)
    (outcome : SideOutcome) (call : SideCall D disk) : Type 0 where
  pub goes_on : HasStopped side ≡ false → (call.outcome ≡ outcome)
      × ((pair : ℕ) (machine : SideMachine) → RunsAs pair side machine →
      IsHost pair call.side machine)
  pub stops : HasStopped side ≡ true → Stops side position (tried_shown side.replica) call
  pub counted : HasCounted side call

-- it acknowledges the event that was sent to the disk last
pub record SettlesAdded {D : Type 0} {disk : Ghosts D} (side : UpSide D disk) (position : ℕ)
    (call : SideCall D disk) : Type 0 where
  pub goes_on : HasStopped side ≡ false → (event : Event) →
      tried_shown side.replica ≡ Some (event_spelling event) →
      (refused_in call.outcome ≡ []) × Acknowledges call.outcome (event ∷ [])
      × ((pair : ℕ) (machine : SideMachine) → machine.journal.status ≡ Up →
      RunsAs pair side machine → IsHost pair call.side machine)
  pub stops : HasStopped side ≡ true → Stops side position (tried_shown side.replica) call
  pub counted : HasCounted side call

-- What an opening gave of the event that was being written: it is there where there are more
-- events than before
pub record Gains (outcome : SideOutcome) (before now : ℕ) (tried : Option Bytes) : Type 0 where
  pub more : (event : Event) → before < now → tried ≡ Some (event_spelling event) →
      Acknowledges outcome (event ∷ [])
  pub none : now ≤ before → Acknowledges outcome []
  pub refuses : refused_in outcome ≡ []

pub record SettlesOpened {D : Type 0} {disk : Ghosts D} (side : UpSide D disk) (position : ℕ)
    (tried : Option Bytes) (call : SideCall D disk) : Type 0 where
  pub goes_on : HasStopped side ≡ false →
      Gains call.outcome position (position_shown side.replica) tried
      × ((pair : ℕ) (machine : SideMachine) → RunsAs pair side machine →
      IsHost pair call.side machine)
  pub stops : HasStopped side ≡ true → Stops side position tried call
  pub counted : HasCounted side call

-- the side as it was, and a refusal
pub record IsRefused {D : Type 0} {disk : Ghosts D} (side : UpSide D disk) (refusal : Refusal)
    (call : SideCall D disk) : Type 0 where
  pub side_is : call.side ≡ host.Up side
  pub outcome_is : call.outcome ≡ Refused refusal

-- a machine that counts no more failed calls than the side's disk, which had counted so many before
abbrev pub CountsFrom : {D : Type 0} → {disk : Ghosts D} → ℕ → SideHost D disk → SideMachine →
    SideMachine → Type 0
CountsFrom {D} {disk} before side machine next =
    CountsNoMore before (disk.failures (side_disk side)) machine.journal next.journal

-- A call that leaves the side so is such a step of its machine, and the outcome tells what it
-- acknowledged and refused
pub record IsStep {D : Type 0} {disk : Ghosts D} (pair : ℕ) (machine : SideMachine) (before : ℕ)
    (Step : SideStep) (side : SideHost D disk) (outcome : SideOutcome) : Type 0 where
  pub next : SideMachine
  pub events : List Event
  pub step : Step next events (refused_in outcome)
  pub acknowledges : Acknowledges outcome events
  pub is : IsHost pair side next
  pub counts : CountsFrom before side machine next

abbrev pub CallIsStep : {D : Type 0} → {disk : Ghosts D} → ℕ → SideMachine → ℕ → SideStep →
    SideCall D disk → Type 0
CallIsStep pair machine before Step call =
    IsStep pair machine before Step call.side call.outcome

-- and so is one that takes a request, whose reply is one that can be sent
abbrev pub AnswerIsStep : {D : Type 0} → {disk : Ghosts D} → ℕ → SideMachine → ℕ → ℕ → Request →
    SideAnswer D disk → Type 0
AnswerIsStep pair machine before session request answer =
    CallIsStep pair machine before
    (Answers pair machine session request (option_map reply_of answer.reply)) answer.call
    × IfSome answer.reply (λ said. IsLawfulReply (reply_of said))
