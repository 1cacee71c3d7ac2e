-- What is promised of a run, in one record.
use Rattle.std.specs.Prelude.{ℕ, ◌≡◌, ◌≢◌, ◌⊎◌, List, [], ◌∷◌, ◌++◌, Option, Some, take, All}
use Rattle.std.specs.Prelude.{AllPairs, Contains, IsSomeAnd}
use Rattle.syn_model.specs.Path.{Path}
use Rattle.syn_model.specs.Tree.{Tree}
use Rattle.syn_model.specs.Event.{Token, Replaced}
use Rattle.syn_model.specs.History.{History}
use Rattle.syn_model.specs.Refusal.{BadMessage}
use Rattle.syn_model.specs.Archive.{Session, BothHeld}
use Rattle.syn_machine.specs.Network.{Which}
use Rattle.syn_runs.specs.World.{Machine, At, Coordinator, Step}
use Rattle.syn_runs.specs.Acknowledged.{Ack, Kept_by, Stores, history_of}
use Rattle.syn_runs.specs.Acknowledged.{stores_after, kept_in_session}
use Rattle.syn_machine.specs.Planning.{SessionPlan, Log}
use Rattle.syn_machine.specs.Report.{Report}
use Rattle.syn_runs.specs.Headline.{IsQuietSession, IsOtherToken, PlansWith}
pub use Rattle.syn_promise.specs.Told.{Told}
use Rattle.syn_promise.specs.Steps.{Condition, Started, Come}
use Rattle.syn_promise.specs.Records.{KeepsToPlan}
use Rattle.syn_promise.specs.Sessions.{IsPlanned, Synchronizes, Tells}

-- a machine stands for the same in both
abbrev pub AreSame : Machine → Stores → Stores → Type 0
AreSame (At side) one other = history_of one side ≡ history_of other side
AreSame Coordinator one other = one.archive ≡ other.archive

-- A report, after so much was acknowledged. Its session was started by then, and none after it; a
-- plan that the session has was made by then; the session did what the report tells; and no side's
-- answer was another than what was asked for
pub record Reports (before : Stores) (started : List Started) (sessions : Log)
    (acknowledged : List Ack) (one : Report × ℕ) : Type 0 where
  pub started_before : Contains (take one.1 acknowledged) (Kept_by (Session one.0.session))
  pub last : (stores_after before (take one.1 acknowledged)).archive.last_session ≡ one.0.session
  pub planned_before : (made : SessionPlan) → Contains sessions made →
      made.session ≡ one.0.session → IsPlanned before started (take one.1 acknowledged) made
  pub tells : Tells sessions (kept_in_session (take one.1 acknowledged)) one.0
  pub no_bad_message : one.0.ended ≢ Some BadMessage

-- A run by these steps began as the disks stood for `before`, and told this. A stop of all machines
-- after it left disks that stand for `now`. Three fields are witnesses of it, of which the others
-- speak: `conditions`, how each machine was left; `started`, the sessions that starts made, with
-- what these prefer; and `sessions`, those that planned, with what they saw
pub record Promised (before : Stores) (steps : List Step) (told : Told) (now : Stores) :
    Type 0 where
  pub conditions : Machine → Condition
  pub started : List Started
  pub sessions : Log
  -- each step was made as it was asked for, or its user was told why not, or its machine was off;
  -- and nothing else was made
  pub steps_are_made : Come before conditions started steps told.acknowledged told.refused
  -- what was acknowledged stands, with at most the one change that each machine was making
  pub stand : (machine : Machine) → AreSame machine now (stores_after before told.acknowledged)
      ⊎ IsSomeAnd (conditions machine).making
      (λ ack. AreSame machine now (stores_after before (told.acknowledged ++ ack ∷ [])))
  -- each change was due when it was written: one of a session kept to its plan
  pub due : (earlier later : List Ack) (ack : Ack) → told.acknowledged ≡ earlier ++ ack ∷ later →
      KeepsToPlan sessions (stores_after before earlier) ack
  -- so is one that stands though it was not acknowledged
  pub unacknowledged_due : (machine : Machine) (ack : Ack) →
      (conditions machine).making ≡ Some ack →
      AreSame machine now (stores_after before (told.acknowledged ++ ack ∷ [])) →
      KeepsToPlan sessions (stores_after before told.acknowledged) ack
  -- each entry of the archive was held by both sides
  pub held : BothHeld now.left now.right now.archive.marks
  -- a session makes one plan, of what it found
  pub one_plan : AllPairs (λ earlier later. earlier.session ≢ later.session) sessions
  pub planned : All (IsPlanned before started told.acknowledged) sessions
  -- no replacement is made twice
  pub not_twice : (side : Which) (earlier later : History) (token : Token) (path : Path)
      (since : ℕ) (new : Tree) →
      history_of now side ≡ earlier ++ Replaced token path since new ∷ later →
      All (IsOtherToken token) later
  -- a complete session with no edit since it began synchronizes what it found
  pub synchronized : (report : Report) (found after : Stores) →
      IsQuietSession before told.acknowledged told.reports report found after →
      (preference : Option Which) × PlansWith sessions report.session preference
      × Synchronizes preference found after
  -- a session makes one report, of what it did
  pub one_report : AllPairs (λ earlier later. earlier.0.session ≢ later.0.session) told.reports
  pub reported : All (Reports before started sessions told.acknowledged) told.reports
