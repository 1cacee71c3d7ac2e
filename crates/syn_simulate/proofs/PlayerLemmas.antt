-- Where a step leads a player.
use Rattle.std.proofs.Common.{◌≡◌, Bool, List, [], ◌∷◌, length, refl, sym, ap, ◌∙◌, subst, inl, inr}
use Rattle.std.proofs.lemmas.List.{length-map}
use Rattle.std.specs.Global.{Vec}
use Rattle.syn_disk.specs.declared.disk.Disk.{Ghosts}
use Rattle.syn_runs.specs.World.{World as ModelWorld, Step, Steps}
use Rattle.syn_simulate.specs.Lines.{Begins, Plays, Said, Says}
use Rattle.syn_simulate.specs.Players.{AreFlags, HasBegun, HasPlayed, IsPlayer}
use Rattle.syn_simulate.specs.States.{Moves, State, noted}
use Rattle.syn_simulate.specs.declared.player.Player.{Player}
use Rattle.syn_simulate.specs.declared.turn.PlayedStep.{PlayedStep}
use Rattle.syn_simulate.proofs.LineLemmas.{begins_moves, plays_moves}
use Rattle.syn_simulate.proofs.MoveLemmas.{moves_run, stays_noted}
use Rattle.syn_world.specs.Failures.{Counts}
use Rattle.syn_world.specs.Runs.{HasMade, HasTried}
use Rattle.syn_world.specs.Worlds.{AreLeft, HasMachines, IsWorld, message_of, sent_by, sent_in}
use Rattle.syn_world.specs.declared.world.Disks.{Disks}
use Rattle.syn_world.specs.declared.world.World.{World}

-- the state after a step
abbrev after_step : State → Step → ModelWorld → State
after_step old step world = record { world = world; delivered = noted old step }

one : (old : State) (step : Step) (new : ModelWorld) → Steps old.world step new
    → Moves old (step ∷ []) (after_step old step new)
one old step new goes = (after_step old step new, record { steps = goes; delivered = refl }, refl)

module _ {D : Type 0} {disk : Ghosts D} where
  -- as many were sent as the list has
  pub sent_count : (world : World D disk) (model : ModelWorld) → IsWorld world model
      → length (sent_in world) ≡ length model.sent
  sent_count world model is =
      ap (λ r. length (sent_by r)) is.there
      ∙ (sym (length-map is.running.lists.sent.items message_of)
      ∙ ap (λ l. length l) is.is.lists.sent)

  -- the machines of a world that goes on
  pub has_machines : (world : World D disk) (model : ModelWorld) → IsWorld world model
      → HasMachines world model
  has_machines world model is = record {
    running = is.running;
    there = is.there;
    are = is.is.machines;
  }

  module _ (old : State) where
    pub has_played : (what : Said) (made : List Step) (new : State) (player : Player D disk)
        → Plays what old made new → IsPlayer player new → HasPlayed what old player
    has_played what made new player plays is = record {
      steps = made;
      new = new;
      plays = plays;
      runs = moves_run old new made (plays_moves what old new made plays);
      is = is;
    }

    pub has_begun : (what : Said) (made : List Step) (new : State) (disks : Disks D)
        → Begins what old made new → AreLeft disk.may_leave disks new.world
        → HasBegun disk what old disks
    has_begun what made new disks begins left = record {
      made = made;
      new = new;
      begins = begins;
      runs = moves_run old new made (begins_moves what old new made begins);
      left = left;
    }

    -- the world after a step, and what is then delivered
    pub step_made : (before : Counts) (step : Step) (player : Player D disk) (world : World D disk)
        (flags : Vec Bool) (turns : Vec PlayedStep) → IsPlayer player old
        → HasMade old.world before step world → AreFlags flags (noted old step)
        → HasPlayed (Says (step ∷ [])) old (record {
          world = world;
          delivered = flags;
          lowest = player.lowest;
          turns = turns;
        })
    step_made before step player world flags turns was so are =
        has_played (Says (step ∷ [])) (step ∷ []) (after_step old step so.new) _
        (refl, one old step so.new so.steps)
        (record {
          world = so.is;
          flags = are;
          below = λ number low. stays_noted old step number (was.below number low);
        })

    -- no step, and the disks as they were
    pub step_none : (step : Step) (disks : Disks D) → AreLeft disk.may_leave disks old.world
        → HasBegun disk (Says (step ∷ [])) old disks
    step_none step disks left =
        has_begun (Says (step ∷ [])) [] old disks (step ∷ [], refl, refl) left

    -- or the disks as it left them
    pub step_cut : (before : Counts) (step : Step) (world : World D disk) (disks : Disks D)
        → HasTried old.world before step world
        → ((model : ModelWorld) → HasMachines world model → AreLeft disk.may_leave disks model)
        → HasBegun disk (Says (step ∷ [])) old disks
    step_cut before step world disks so left = elim so.steps [
      | inl goes ↦
          has_begun (Says (step ∷ [])) (step ∷ []) (after_step old step so.new) disks
          ([], refl, one old step so.new goes) (left so.new so.has)
      | inr same ↦
          step_none step disks
          (left old.world (subst (λ w. HasMachines world w) same so.has))
    ]
