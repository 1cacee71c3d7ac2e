-- Which of the model's worlds a world is.
use Rattle.std.specs.Prelude.{◌≡◌, ◌++◌, ℕ, List, length, map, All, MatchResult, Result}
use Rattle.std.specs.Prelude.{[], Bool, Option, None, Some, false, option_map}
use Rattle.syn_archive.specs.declared.archive.Archive.{Archive}
use Rattle.syn_disk.specs.declared.disk.Disk.{Ghosts}
use Rattle.syn_runs.specs.Acknowledged as model
use Rattle.syn_runs.specs.Acknowledged.{Happened, Kept_by}
use Rattle.syn_machine.specs.Coordinator.{Call}
use Rattle.syn_machine.specs.Network.{Which, Answers, Asks, Message as Sent}
use Rattle.syn_machine.specs.Report.{Report as Reported}
use Rattle.syn_runs.specs.World.{World as ModelWorld, Step, Steps, says}
use Rattle.syn_world.specs.Coordinators.{IsCoordinator}
use Rattle.syn_world.specs.Outcomes.{Acknowledges, causes_in, refused_in}
use Rattle.syn_world.specs.Sides.{IsHost, replica_of}
use Rattle.syn_world.specs.declared.coordinator.CoordinatorHost.{CoordinatorHost}
use Rattle.syn_world.specs.declared.coordinator.CoordinatorHost.TheVariants as host
use Rattle.syn_world.specs.declared.outcome.CoordinatorOutcome.{CoordinatorOutcome}
use Rattle.syn_world.specs.declared.outcome.SideOutcome.{SideOutcome}
use Rattle.syn_message.specs.Replies.{IsLawfulReply, reply_of}
use Rattle.syn_path.specs.Sides.{which_of}
use Rattle.syn_message.specs.declared.reply.Reply.{Reply}
use Rattle.syn_path.specs.declared.side.Side.{Side}
use Rattle.syn_path.specs.declared.side.Side.TheVariants as side
use Rattle.syn_model.specs.Archive.{Kept}
use Rattle.syn_model.specs.Event.{Event}
use Rattle.syn_model.specs.Path.{Bytes}
use Rattle.syn_model.specs.Refusal.{Refusal}
use Rattle.syn_model.specs.Spelling.{event_spelling}
use Rattle.syn_archive.specs.Keepings.{of_archive}
use Rattle.syn_replica.specs.Keepings.{of_side}
use Rattle.syn_journal.specs.Meaning.{MayBeOf}
use Rattle.syn_refusal.specs.Refusals.{cause_of}
use Rattle.syn_refusal.specs.declared.refusal.Refusal.{Refusal as Code}
use Rattle.syn_replica.specs.declared.replica.Replica.{Replica}
use Rattle.syn_coordinator.specs.Coordinators.{archive_of, in_report}
use Rattle.syn_session.specs.Reports.{report_model}
use Rattle.syn_session.specs.Sendings as sendings
use Rattle.syn_coordinator.specs.Tries.{listed}
use Rattle.syn_session.specs.declared.report.Report.{Report}
use Rattle.syn_image.specs.Archives.{kept_of}
use Rattle.syn_image.specs.declared.kept.Kept.{Kept as KeptBy}
use Rattle.syn_world.specs.Failures.{Counts, FailWithDisks, failures_in, last_of}
use Rattle.syn_world.specs.declared.lists.Ack.{Ack}
use Rattle.syn_world.specs.declared.lists.Ack.TheVariants as acks
use Rattle.syn_world.specs.declared.lists.Lists.{Lists}
use Rattle.syn_world.specs.declared.lists.Message.{Message}
use Rattle.syn_world.specs.declared.lists.Message.TheVariants as messages
use Rattle.syn_world.specs.declared.running.Running.{Running}
use Rattle.syn_world.specs.declared.world.Disks.{Disks}
use Rattle.syn_world.specs.declared.world.World.{World}

-- what was acknowledged, an event as it is spelled
pub data Told : Type 0 where
  TellsEvent : Which → Bytes → Told
  TellsKept : Kept → Told

abbrev pub told_by : model.Ack → Told
told_by (Happened side event) = TellsEvent side (event_spelling event)
told_by (Kept_by kept) = TellsKept kept

abbrev pub told_in : Ack → Told
told_in (acks.Event side spelled) = TellsEvent (which_of side) spelled.items
told_in (acks.Kept kept) = TellsKept (kept_of kept)

-- what an archive kept
abbrev pub told_kept : KeptBy → Told
told_kept kept = TellsKept (kept_of kept)

-- a report with the number of acknowledgements up to it
abbrev pub report_in : Report × ℕ → Reported × ℕ
report_in one = (report_model one.0, one.1)

abbrev pub message_of : Message → Sent
message_of (messages.Asks sending) = sendings.message_of sending
message_of (messages.Answers from answered) =
    Answers (which_of from) answered.session answered.number (reply_of answered.reply)

-- what a side said is a reply that can be sent
abbrev pub CanBeSent : Sent → Type 0
CanBeSent (Asks to session number request) = Unit {0}
CanBeSent (Answers from session number reply) = IsLawfulReply reply

-- The lists are those of the model, and each reply in them is lawful
pub record IsListed (lists : Lists) (world : ModelWorld) : Type 0 where
  pub sent : map message_of lists.sent.items ≡ world.sent
  pub acknowledged : map told_in lists.acknowledged.items ≡ map told_by world.acknowledged
  pub refusals : map cause_of lists.refusals.items ≡ world.refusals
  pub reports : map report_in lists.reports.items ≡ world.reports
  pub lawful : All CanBeSent world.sent

-- and so are the machines that run
pub record RunsMachines {D : Type 0} {disk : Ghosts D} (world : Running D disk)
    (model : ModelWorld) : Type 0 where
  pub pair : world.pair ≡ model.pair
  pub left : IsHost model.pair world.left model.left
  pub right : IsHost model.pair world.right model.right
  pub coordinator : IsCoordinator model.pair world.coordinator model.coordinator

-- what runs is this one of the model
pub record IsRunning {D : Type 0} {disk : Ghosts D} (world : Running D disk)
    (model : ModelWorld) : Type 0 where
  pub machines : RunsMachines world model
  pub lists : IsListed world.lists model

-- What a world shows

-- the machines and lists, which are there but within a step
abbrev pub running_in : {D : Type 0} → {disk : Ghosts D} → World D disk → Option (Running D disk)
running_in world = world.running

-- a step was refused 11
abbrev pub is_spent : {D : Type 0} → {disk : Ghosts D} → World D disk → Bool
is_spent world = world.is_spent

-- the messages that were sent
abbrev pub sent_by : {D : Type 0} → {disk : Ghosts D} → Option (Running D disk) → List Message
sent_by (Some running) = running.lists.sent.items
sent_by None = []

abbrev pub sent_in : {D : Type 0} → {disk : Ghosts D} → World D disk → List Message
sent_in world = sent_by (running_in world)

-- what was acknowledged
abbrev pub acknowledged_by : {D : Type 0} → {disk : Ghosts D} → Option (Running D disk) → List Ack
acknowledged_by (Some running) = running.lists.acknowledged.items
acknowledged_by None = []

abbrev pub acknowledged_in : {D : Type 0} → {disk : Ghosts D} → World D disk → List Ack
acknowledged_in world = acknowledged_by (running_in world)

-- what a step was refused with
abbrev pub refusals_by : {D : Type 0} → {disk : Ghosts D} → Option (Running D disk) → List Code
refusals_by (Some running) = running.lists.refusals.items
refusals_by None = []

abbrev pub refusals_in : {D : Type 0} → {disk : Ghosts D} → World D disk → List Code
refusals_in world = refusals_by (running_in world)

-- the reports, each with the number of acknowledgements up to it
abbrev pub reports_by : {D : Type 0} → {disk : Ghosts D} → Option (Running D disk) →
    List (Report × ℕ)
reports_by (Some running) = running.lists.reports.items
reports_by None = []

abbrev pub reports_in : {D : Type 0} → {disk : Ghosts D} → World D disk → List (Report × ℕ)
reports_in world = reports_by (running_in world)

-- the replica of a side that is up
abbrev pub replica_by : {D : Type 0} → {disk : Ghosts D} → Option (Running D disk) → Side →
    Option (Replica D disk)
replica_by (Some running) side.Left = replica_of running.left
replica_by (Some running) side.Right = replica_of running.right
replica_by None side = None

abbrev pub replica_in : {D : Type 0} → {disk : Ghosts D} → World D disk → Side →
    Option (Replica D disk)
replica_in world side = replica_by (running_in world) side

-- the archive of a coordinator that is up
abbrev pub archive_at : {D : Type 0} → {disk : Ghosts D} → CoordinatorHost D disk →
    Option (Archive D disk)
archive_at (host.Up coordinator) = Some (archive_of coordinator)
archive_at (host.Down rest) = None

abbrev pub archive_by : {D : Type 0} → {disk : Ghosts D} → Option (Running D disk) →
    Option (Archive D disk)
archive_by (Some running) = archive_at running.coordinator
archive_by None = None

abbrev pub archive_in : {D : Type 0} → {disk : Ghosts D} → World D disk →
    Option (Archive D disk)
archive_in world = archive_by (running_in world)

-- the pair
abbrev pub pair_by : {D : Type 0} → {disk : Ghosts D} → Option (Running D disk) → ℕ
pair_by (Some running) = running.pair
pair_by None = 0

abbrev pub pair_in : {D : Type 0} → {disk : Ghosts D} → World D disk → ℕ
pair_in world = pair_by (running_in world)

-- the machines of the world are the model's, whatever its lists have
pub record HasMachines {D : Type 0} {disk : Ghosts D} (world : World D disk)
    (model : ModelWorld) : Type 0 where
  pub running : Running D disk
  pub there : running_in world ≡ Some running
  pub are : RunsMachines running model

-- the world is this one of the model, and no step of it was refused 11
pub record IsWorld {D : Type 0} {disk : Ghosts D} (world : World D disk)
    (model : ModelWorld) : Type 0 where
  pub running : Running D disk
  pub there : running_in world ≡ Some running
  pub is : IsRunning running model
  pub goes : is_spent world ≡ false

-- whatever a stop may now leave on each of the disks may be its machine's
pub record AreLeft {D : Type 0} (may_leave : D → Bytes → Type 0) (disks : Disks D)
    (model : ModelWorld) : Type 0 where
  pub left : (bytes : Bytes) → may_leave disks.left bytes →
      MayBeOf (of_side model.pair) model.left.journal bytes
  pub right : (bytes : Bytes) → may_leave disks.right bytes →
      MayBeOf (of_side model.pair) model.right.journal bytes
  pub archive : (bytes : Bytes) → may_leave disks.archive bytes →
      MayBeOf (of_archive model.pair) model.coordinator.journal bytes

-- A step ends so: the world is the model's; or a list of the world could not grow, and its disks
-- come back as the step left them
abbrev pub EndsSo : {D : Type 0} → {disk : Ghosts D} → Result (Running D disk) (Running D disk) →
    ModelWorld → Type 0
EndsSo {D} {disk} result model =
    MatchResult result (λ world. IsRunning world model) (λ world. RunsMachines world model)

-- a step of the world is one of the model, and no machine counts more failures in it than its disk,
-- which had counted so many before
pub record GoesSo {D : Type 0} {disk : Ghosts D} (old : ModelWorld) (before : Counts) (step : Step)
    (result : Result (Running D disk) (Running D disk)) : Type 0 where
  pub new : ModelWorld
  pub steps : Steps old step new
  pub ends : EndsSo result new
  pub counts : FailWithDisks old new before (failures_in (last_of result))

-- what came of a side's step is in the lists
pub record Notes (old new : Lists) (side : Side) (outcome : SideOutcome) : Type 0 where
  pub sent : new.sent ≡ old.sent
  pub reports : new.reports ≡ old.reports
  pub acknowledged : (events : List Event) → Acknowledges outcome events →
      map told_in new.acknowledged.items ≡ map told_in old.acknowledged.items
      ++ map (λ event. told_by (Happened (which_of side) event)) events
  pub refusals : map cause_of new.refusals.items
      ≡ map cause_of old.refusals.items ++ refused_in outcome

-- the lists of a world after a side's step that sent nothing
pub record Grows (old new : ModelWorld) (side : Which) (events : List Event)
    (outcome : SideOutcome) : Type 0 where
  pub sent : new.sent ≡ old.sent
  pub reports : new.reports ≡ old.reports
  pub acknowledged : new.acknowledged
      ≡ old.acknowledged ++ map (λ event. Happened side event) events
  pub refusals : new.refusals ≡ old.refusals ++ refused_in outcome

-- a side's reply is in the lists, if it said one
pub record Hears (old new : Lists) (side : Side) (session number : ℕ)
    (reply : Option Reply) : Type 0 where
  pub sent : map message_of new.sent.items ≡ map message_of old.sent.items
      ++ says (which_of side) session number (option_map reply_of reply)
  pub acknowledged : new.acknowledged ≡ old.acknowledged
  pub refusals : new.refusals ≡ old.refusals
  pub reports : new.reports ≡ old.reports

-- what came of a step of the coordinator is in the lists
pub record Takes (old new : Lists) (outcome : CoordinatorOutcome) : Type 0 where
  pub sent : map message_of new.sent.items ≡ map message_of old.sent.items
      ++ sendings.messages_of outcome.sent.items
  pub acknowledged : map told_in new.acknowledged.items ≡ map told_in old.acknowledged.items
      ++ map told_kept outcome.kept.items
  pub reports : map report_in new.reports.items ≡ map report_in old.reports.items
      ++ map (λ report. (report, length new.acknowledged.items))
      (in_report (option_map report_model outcome.ended))
  pub refusals : map cause_of new.refusals.items
      ≡ map cause_of old.refusals.items ++ causes_in outcome.refused

-- an opening found this and was refused so, if it was, and nothing else came of it
pub record TellsFound (outcome : CoordinatorOutcome) (found : Option KeptBy)
    (refused : Option Code) : Type 0 where
  pub kept : map kept_of outcome.kept.items ≡ listed (option_map kept_of found)
  pub sent : outcome.sent.items ≡ []
  pub ended : outcome.ended ≡ None
  pub refused_is : outcome.refused ≡ refused

-- the lists of a world after a step of the coordinator
pub record Goes (old new : ModelWorld) (made : Call) (refusals : List Refusal) : Type 0 where
  pub sent : new.sent ≡ old.sent ++ made.messages
  pub acknowledged : new.acknowledged ≡ old.acknowledged ++ map Kept_by made.kept
  pub reports : new.reports ≡ old.reports
      ++ map (λ report. (report, length new.acknowledged)) made.reports
  pub refusals_are : new.refusals ≡ old.refusals ++ refusals

-- the lists of a world after a side's answer
pub record GrowsBy (old new : ModelWorld) (side : Which) (messages : List Sent)
    (events : List Event) : Type 0 where
  pub sent : new.sent ≡ old.sent ++ messages
  pub reports : new.reports ≡ old.reports
  pub acknowledged : new.acknowledged
      ≡ old.acknowledged ++ map (λ event. Happened side event) events
  pub refusals : new.refusals ≡ old.refusals

-- one that takes no memory
pub record StaysSo {D : Type 0} {disk : Ghosts D} (old : ModelWorld) (before : Counts)
    (step : Step) (world : Running D disk) : Type 0 where
  pub new : ModelWorld
  pub steps : Steps old step new
  pub is : IsRunning world new
  pub counts : FailWithDisks old new before (failures_in world)
