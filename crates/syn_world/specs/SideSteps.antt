-- A request that a side's machine takes, and what else a step of it is.
use Rattle.std.specs.Prelude.{◌≡◌, ℕ, List, [], Option, None}
use Rattle.syn_machine.specs.Machine.{Down, Journaled}
use Rattle.syn_machine.specs.MachineSteps.{Effect}
use Rattle.syn_machine.specs.Side.{Request, Reply}
use Rattle.syn_machine.specs.SideMachine.{SideMachine, SideTakes}
use Rattle.syn_model.specs.Event.{Event}
use Rattle.syn_model.specs.History.{History}
use Rattle.syn_model.specs.Refusal.{Refusal}

-- what keeps a side's history
abbrev pub Journal : Type 0
Journal = Journaled History Event

-- what a step may leave of a side's machine, the events that it acknowledges, and what a user is
-- refused
abbrev pub SideStep : Type 1
SideStep = Effect SideMachine (List Event)

-- a request is taken, and refuses no user; a machine that is down takes none
pub data Answers (pair : ℕ) (machine : SideMachine) (session : ℕ) (request : Request)
    (reply : Option Reply) : SideMachine → List Event → List Refusal → Type 0 where
  no_side : machine.journal.status ≡ Down → reply ≡ None →
      Answers pair machine session request reply machine [] []
  takes : (next : SideMachine) (events : List Event) →
      SideTakes pair machine session request next reply events →
      Answers pair machine session request reply next events []
