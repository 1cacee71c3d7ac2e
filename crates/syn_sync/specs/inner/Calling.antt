-- Calls of a coordinator that hear nothing.
use Rattle.std.specs.Prelude.{◌≡◌, ◌⊎◌, ℕ, false, true, List, [], Option}
use Rattle.syn_disk.specs.Arms.{is_stopped}
use Rattle.syn_disk.specs.declared.disk.Disk.{Ghosts}
use Rattle.syn_machine.specs.Acts.{ActsAll, Done}
use Rattle.syn_machine.specs.Coordinator.{CoordinatorMachine}
use Rattle.syn_machine.specs.Network.{Message, Which}
use Rattle.syn_model.specs.Refusal as why
use Rattle.syn_refusal.specs.Refusals.{cause_of}
use Rattle.syn_refusal.specs.declared.refusal.Refusal.{Refusal}
use Rattle.syn_coordinator.specs.Coordinators.{Stands, device_of, runs}
use Rattle.syn_coordinator.specs.declared.coordinator.Coordinator.{Coordinator}
use Rattle.syn_sync.specs.Runs.{Begins, Down, answers_in, frames_in, frames_to}

-- the acts lead to the coordinator's machine, or it went down in the last; none takes a reply, and
-- these messages are what they sent
pub record Calls {D : Type 0} {disk : Ghosts D} (new : Coordinator D disk) (pair : ℕ)
    (machine : CoordinatorMachine) (messages : List Message) : Type 0 where
  pub acts : List Done
  pub reached : CoordinatorMachine
  pub leads : ActsAll pair machine acts reached
  pub ends : Stands new pair reached ⊎ Down new pair reached
  pub silent : (side : Which) → answers_in side acts ≡ []
  pub sends : is_stopped (disk.arms (device_of new)) ≡ false → (side : Which)
      → frames_in side acts ≡ frames_to side messages

-- and they begin a session that prefers a side or none
abbrev pub Starting : {D : Type 0} → {disk : Ghosts D} → Option Which → Coordinator D disk → ℕ
    → CoordinatorMachine → List Message → Type 0
Starting preference new pair machine messages =
    (calls : Calls new pair machine messages) × Begins preference calls.acts

-- the session does not end: the machine was stopped, or no tick ends it
abbrev pub IsUnended : {D : Type 0} → {disk : Ghosts D} → Coordinator D disk → Refusal → Type 0
IsUnended {D} {disk} new refusal =
    ((cause_of refusal ≡ why.Device) × (is_stopped (disk.arms (device_of new)) ≡ true))
    ⊎ ((cause_of refusal ≡ why.NoAnswer) × (runs new ≡ true))
