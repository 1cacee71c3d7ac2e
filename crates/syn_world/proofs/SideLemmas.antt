-- A side that runs as a machine, and what device calls leave of it.
use Rattle.std.proofs.Common.{◌≡◌, ◌≢◌, ◌⊎◌, ◌∙◌, ℕ, Option, Some, None, refl, sym, ap}
use Rattle.std.proofs.Common.{arith, inl, inr, false}
use Rattle.std.specs.Prelude.{length}
use Rattle.syn_agent.specs.declared.agent.Agent.{Agent}
use Rattle.syn_disk.specs.declared.disk.Disk.{Ghosts}
use Rattle.syn_machine.specs.Machine.{Status, Up, Halted, Down}
use Rattle.syn_machine.specs.SideMachine.{SideMachine, staging_after}
use Rattle.syn_machine.specs.Side.{Staging}
use Rattle.syn_world.specs.Sides.{CountsFrom, RunsAs, side_disk}
use Rattle.syn_world.specs.declared.side.SideCall.{SideCall}
use Rattle.syn_world.specs.declared.side.SideHost.TheVariants as host
use Rattle.syn_world.specs.declared.side.UpSide.{UpSide}
use Rattle.syn_model.specs.Event.{Event}
use Rattle.syn_model.specs.History.{History}
use Rattle.syn_replica.specs.Machines.{StandsAs}
use Rattle.syn_replica.specs.Replica.{IsHalted, Remembers, Stands, disk_of, position_shown}
use Rattle.syn_replica.specs.declared.replica.Replica.{Replica}

-- how many calls of its disk failed
abbrev pub failed_by : {D : Type 0} → {disk : Ghosts D} → Replica D disk → ℕ
failed_by {D} {disk} replica = disk.failures (disk_of replica)

abbrev pub side_of : {D : Type 0} → {disk : Ghosts D} → Replica D disk → Agent → UpSide D disk
side_of replica agent = record { replica = replica; agent = agent }

-- a side that stays as it was counts as it did
pub counts_still : {D : Type 0} {disk : Ghosts D} (side : UpSide D disk) (machine : SideMachine)
    (call : SideCall D disk) → call.side ≡ host.Up side
    → CountsFrom (failed_by side.replica) call.side machine machine
counts_still {D} {disk} side machine call same =
    let is = ap (λ s. disk.failures (side_disk s)) same in omega (arith, is)

pub up_not_down : Up ≢ Down
up_not_down e = cc

pub halted_not_down : Halted ≢ Down
halted_not_down e = cc

pub halted_not_up : Halted ≢ Up
halted_not_up e = cc

pub none_not_some : (event : Event) → ◌≢◌ {A = Option Event} None (Some event)
none_not_some event e = cc

-- a machine that goes on keeps what is staged
pub still_staged : (status : Status) (staging : Option Staging) → status ≢ Down →
    staging_after status staging ≡ staging
still_staged Up staging other = refl
still_staged Halted staging other = refl
still_staged Down staging other = absurd (other refl)

module _ {D : Type 0} {disk : Ghosts D} (pair : ℕ) (side : UpSide D disk) (machine : SideMachine)
    (runs : RunsAs pair side machine) where
  abbrev value : History
  value = machine.journal.value

  -- it is up and stands for its history, or it is halted and remembers it
  pub state : ((machine.journal.status ≡ Up) × Stands side.replica machine.journal.value)
      ⊎ ((machine.journal.status ≡ Halted) × IsHalted side.replica
      × Remembers side.replica machine.journal.value)
  state = by machine.journal.status refl runs.is.keeps.stands
    where
      by : (status : Status) → machine.journal.status ≡ status →
          StandsAs status side.replica machine.journal.value →
          ((machine.journal.status ≡ Up) × Stands side.replica machine.journal.value)
          ⊎ ((machine.journal.status ≡ Halted) × IsHalted side.replica
          × Remembers side.replica machine.journal.value)
      by Up is stands = inl (is, stands)
      by Halted is stands = inr (is, stands.0, stands.1)
      by Down is stands = absurd stands

  pub not_down : machine.journal.status ≢ Down
  not_down down = elim state [
    | inl up ↦ up_not_down (sym up.0 ∙ down)
    | inr halted ↦ halted_not_down (sym halted.0 ∙ down)
  ]

  pub remembers : Remembers side.replica machine.journal.value
  remembers = elim state as (λ _. Remembers side.replica machine.journal.value) [
    | inl up ↦ up.1.remembers
    | inr halted ↦ halted.2
  ]

  pub position_is : position_shown side.replica ≡ length machine.journal.value
  position_is = ap (λ s. s.position) remembers.standing

  -- the status is told by the replica
  pub when_up : (IsHalted side.replica → ⊥) →
      (machine.journal.status ≡ Up) × Stands side.replica machine.journal.value
  when_up running =
      elim state as (λ _. (machine.journal.status ≡ Up)
      × Stands side.replica machine.journal.value) [
        | inl up ↦ up
        | inr halted ↦ absurd (running halted.1)
      ]

  pub when_halted : IsHalted side.replica → machine.journal.status ≡ Halted
  when_halted halted = elim state as (λ _. machine.journal.status ≡ Halted) [
    | inl up ↦ absurd (let k : ◌≡◌ false _ = sym up.1.runs.running ∙ halted in cc)
    | inr is ↦ is.0
  ]
