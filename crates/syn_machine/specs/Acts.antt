-- What the coordinator does, in one act after another.
use Rattle.std.specs.Prelude.{ℕ, ◌≡◌, List, [], ◌∷◌, Option}
use Rattle.syn_model.specs.Refusal.{Refusal}
use Rattle.syn_machine.specs.MachineSteps.{Effect, MachineCall, Does}
use Rattle.syn_machine.specs.Side.{Reply}
use Rattle.syn_machine.specs.Network.{Which}
use Rattle.syn_machine.specs.Coordinator.{CoordinatorMachine, coordinator_kind, Call, Starts}
use Rattle.syn_machine.specs.Coordinator.{CoordinatorTakes, CoordinatorTicks}

-- what it is called with: a start, which prefers a side or none, a side's reply, that time went by,
-- or a call of the machine itself
pub data Act : Type 0 where
  Starting : (preference : Option Which) → Act
  Taking : (from : Which) (session number : ℕ) (reply : Reply) → Act
  Ticking : Act
  Calling : (call : MachineCall) → Act

-- with what the call gave, and what its user was refused
pub record Done : Type 0 where
  pub act : Act
  pub call : Call
  pub refusals : List Refusal

-- one act
abbrev pub Acts : ℕ → CoordinatorMachine → Act → Effect CoordinatorMachine Call
Acts pair old (Starting preference) new call refusals = Starts pair preference old new call refusals
Acts pair old (Taking from session number reply) new call refusals =
    CoordinatorTakes pair old from session number reply new call × (refusals ≡ [])
Acts pair old Ticking new call refusals = CoordinatorTicks old new call × (refusals ≡ [])
Acts pair old (Calling itself) new call refusals =
    Does (coordinator_kind pair) old itself new call refusals

-- acts, one after another
abbrev pub ActsAll : ℕ → CoordinatorMachine → List Done → CoordinatorMachine → Type 0
ActsAll pair old [] new = new ≡ old
ActsAll pair old (done ∷ later) new =
    (between : CoordinatorMachine) × Acts pair old done.act between done.call done.refusals
    × ActsAll pair between later new
