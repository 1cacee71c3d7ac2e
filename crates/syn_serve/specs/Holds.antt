-- What one hold of the shared replica answers, and what it leaves.
use Rattle.std.specs.Prelude.{◌≡◌, ◌⊎◌, ℕ, Option, Some, None, Result, Ok, Err}
use Rattle.std.specs.Option.{option_map}
use Rattle.syn_agent.specs.Agents.{side_of}
use Rattle.syn_agent.specs.Answers.{Answers as AnswersOf, IsUnchanged, room_for}
use Rattle.syn_agent.specs.Causes.{CountsFailures}
use Rattle.syn_agent.specs.declared.agent.Agent.{Agent}
use Rattle.syn_disk.specs.declared.disk.Disk.{Ghosts}
use Rattle.syn_machine.specs.Server.{Server}
use Rattle.syn_machine.specs.Side.{Request, Reply, Refused as Refuses, TakesMemory, answer}
use Rattle.syn_machine.specs.SideMachine.{ServesHalted}
use Rattle.syn_history.specs.Status.{identity_of as bytes_of, status_of}
use Rattle.syn_history.specs.declared.status.Identity.{Identity}
use Rattle.syn_history.specs.declared.status.ReplicaStatus.{ReplicaStatus}
use Rattle.syn_lock.specs.declared.own.Pass.{Pass}
use Rattle.syn_message.specs.UserReplies.{UserReply, Edited as IsEdited, Got, States, Refused}
use Rattle.syn_message.specs.Users.{UserRequest, Edits as WishesEdit, Gets as WishesGet, AsksStatus}
use Rattle.syn_model.specs.Event.{Edited}
use Rattle.syn_model.specs.History.{History}
use Rattle.syn_model.specs.Refusal.{Memory}
use Rattle.syn_replica.specs.Growth.{IsGrown}
use Rattle.syn_replica.specs.ErrorRefusals.{refusal_of}
use Rattle.syn_replica.specs.Replica.{IsHalted, Stands, disk_of, pair_of}
use Rattle.syn_replica.specs.declared.error.ReplicaError.{ReplicaError}
use Rattle.syn_replica.specs.declared.error.ReplicaError.TheVariants.{Tree}
use Rattle.syn_replica.specs.declared.replica.Replica.{Replica}
use Rattle.syn_serve.specs.Begins.{BeginsOnce, IsBegunElsewhere}
use Rattle.syn_serve.specs.Messages.{Message, Asks, Wishes, Response, Answers, Tells}
use Rattle.syn_serve.specs.OverConnections.{HoldsFor, IsServed}
use Rattle.syn_shared.specs.Edits.{Edits}
use Rattle.syn_shared.specs.Reads.{Gets, Tells as TellsStatus}
use Rattle.syn_shared.specs.Shared.{HeldAfterWait, identity_of}
use Rattle.syn_shared.specs.declared.shared.SharedReplica.{SharedReplica}
use Rattle.syn_tree.specs.Contents.{content_of}
use Rattle.syn_tree.specs.declared.content.Content.{Content}
use Rattle.syn_tree.specs.declared.error.TreeError.TheVariants.{Absent}

-- What the agent of one thread answers from the replica found, and what that leaves. `begun` is the
-- session that was begun over the connection last
pub record AnswersAlone {D : Type 0} {disk : Ghosts D} (begun : Option ℕ) (agent after : Agent)
    (session : ℕ) (request : Request) (reply : Reply) (found left : Replica D disk) : Type 0 where
  -- it is a hold of the server, under whatever number the request came
  pub holds : (pair connection number : ℕ) (server : Server)
      → IsServed pair found agent server connection
      → HoldsFor pair found left agent after server connection session number request reply
  -- for every history that the replica stands for
  pub answers : (history : History) → Stands found history
      → AnswersOf found left agent after history session request reply
  pub halted : (history : History) → IsHalted found
      → ServesHalted (side_of history agent) session request
      (answer (side_of history after) reply)
  pub unchanged : IsHalted found → IsUnchanged found left
  pub grown : IsGrown found left
  -- when memory is refused, and when the device failed
  pub memory : (history : History) → Stands found history ⊎ IsHalted found
      → reply ≡ Refuses Memory
      → TakesMemory (pair_of found) (room_for found) (side_of history agent) session request
  pub failures : CountsFailures reply (disk.failures (disk_of found))
      (disk.failures (disk_of left))
  -- no session is begun that another connection began
  pub once : BeginsOnce begun session reply found left

-- it answers nothing, and leaves the replica as it was found
abbrev pub Declines : {D : Type 0} → {disk : Ghosts D} → Option ℕ → ℕ → Request → Replica D disk
    → Replica D disk → Type 0
Declines begun session request found left =
    (left ≡ found) × IsBegunElsewhere begun session request found

-- what a user is told of an edit, of what stands at a path, and of where the replica is
abbrev pub told_edit : Result ℕ ReplicaError → UserReply
told_edit (Ok position) = IsEdited position
told_edit (Err e) = Refused (refusal_of e)

abbrev pub told_get : Result Content ReplicaError → UserReply
told_get (Ok content) = Got (Some (content_of content))
told_get (Err (Tree Absent)) = Got None
told_get (Err e) = Refused (refusal_of e)

abbrev pub told_status : Option Identity → Result ReplicaStatus ReplicaError → UserReply
told_status identity (Ok status) = States (option_map bytes_of identity) (status_of status)
told_status identity (Err e) = Refused (refusal_of e)

module _ {D : Type 0} {disk : Ghosts D} (shared : SharedReplica D disk)
    (old new : Pass (Replica D disk)) where
  -- A user is told what the edit, the reading or the status of one thread answers within one hold.
  -- With the status goes the identity of the shared replica
  abbrev pub Grants : UserRequest → UserReply → Type 0
  Grants (WishesEdit user edit) told =
      (answer : Result ℕ ReplicaError) × (told ≡ told_edit answer)
      × HeldAfterWait shared old new (Edits (Edited user edit) answer)
  Grants (WishesGet path) told =
      (answer : Result Content ReplicaError) × (told ≡ told_get answer)
      × HeldAfterWait shared old new (Gets path answer)
  Grants (AsksStatus place) told =
      (answer : Result ReplicaStatus ReplicaError)
      × (told ≡ told_status (identity_of shared) answer)
      × HeldAfterWait shared old new (TellsStatus place answer)

  -- One hold answers the message; the reply has its session and its number. A user's leaves the
  -- agent as it was
  abbrev pub Responds : Option ℕ → Agent → Agent → Message → Response → Type 0
  Responds begun agent after (Asks asked) (Answers answered) =
      (answered.session ≡ asked.session) × (answered.number ≡ asked.number)
      × HeldAfterWait shared old new
      (AnswersAlone begun agent after asked.session asked.request answered.reply)
  Responds begun agent after (Wishes asked) (Tells answered) =
      (answered.number ≡ asked.number) × (after ≡ agent) × Grants asked.request answered.reply
  Responds begun agent after (Asks asked) (Tells answered) = ⊥
  Responds begun agent after (Wishes asked) (Answers answered) = ⊥

  -- one hold declines to begin the session of the message, which another connection began
  abbrev pub DeclinesMessage : Option ℕ → Message → Type 0
  DeclinesMessage begun (Asks asked) =
      HeldAfterWait shared old new (Declines begun asked.session asked.request)
  DeclinesMessage begun (Wishes asked) = ⊥
