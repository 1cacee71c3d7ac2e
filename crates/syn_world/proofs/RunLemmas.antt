-- A world that goes by steps, one after another.
use Rattle.std.proofs.Common.{◌≡◌, ℕ, List, [], ◌∷◌, ◌++◌, Option, Result, Ok, Err}
use Rattle.std.proofs.Common.{refl, sym, ap, ◌∙◌, subst, inl, inr, Some, None, false}
use Rattle.std.specs.Prelude.{map, option_map, slice_get}
use Rattle.std.proofs.lemmas.Option.{slice_get-map}
use Rattle.std.proofs.lemmas.List.{append_assoc}
use Rattle.syn_disk.specs.declared.disk.Disk.{Ghosts}
use Rattle.syn_machine.specs.Network.{Message as Sent}
use Rattle.syn_runs.specs.World.{World as ModelWorld, Step, Steps, Runs}
use Rattle.syn_world.specs.Failures.{Counts, FailWithDisks, failures_in}
use Rattle.syn_world.specs.Runs.{Attempts, EndsWithin, HasMade, HasRun, HasTried, no_memory, steps}
use Rattle.syn_world.specs.Worlds.{HasMachines, IsRunning, IsWorld, RunsMachines, StaysSo}
use Rattle.syn_world.specs.Worlds.{is_spent, message_of, running_in}
use Rattle.syn_world.specs.declared.lists.Message.{Message}
use Rattle.syn_world.proofs.FailureLemmas.{counts_more}
use Rattle.syn_world.specs.declared.running.Running.{Running}
use Rattle.syn_world.specs.declared.world.World.{World}

-- one step more
pub runs_more : (old middle new : ModelWorld) (made : List Step) (step : Step)
    → Runs old made middle → Steps middle step new → Runs old (made ++ step ∷ []) new
runs_more old middle new [] step same goes =
    (new, subst (λ w. Steps w step new) same goes, refl)
runs_more old middle new (first ∷ made) step (between, begins, runs) goes =
    (between, begins, runs_more between middle new made step runs goes)

-- the value of an option that has one
pub value_is : {T : Type 0} (one other : T) → Some one ≡ Some other → one ≡ other
value_is {T} one other same = ap (value_or one) same
  where
    value_or : T → Option T → T
    value_or none (Some value) = value
    value_or none None = none

module _ {D : Type 0} {disk : Ghosts D} (model : ModelWorld) (world : World D disk)
    (running : Running D disk) where
  -- what is taken out of a world is what it runs
  pub taken_out : IsWorld world model → Some running ≡ running_in world → IsRunning running model
  taken_out is same =
      subst (λ r. IsRunning r model) (sym (value_is running is.running (same ∙ is.there))) is.is

  pub machines_out : HasMachines world model → Some running ≡ running_in world
      → RunsMachines running model
  machines_out has same =
      subst (λ r. RunsMachines r model) (sym (value_is running has.running (same ∙ has.there)))
      has.are

module _ {D : Type 0} {disk : Ghosts D} (old : ModelWorld) (before : Counts) (step : Step) where
  -- a step that takes no memory
  pub stays_so : (running : Running D disk) → StaysSo old before step running
      → Attempts old before step (Ok running)
  stays_so running so =
      steps (record { new = so.new; steps = so.steps; ends = so.is; counts = so.counts })

  -- the world with the machines after a step that was made
  pub has_made : (next : Running D disk) (world : World D disk) → running_in world ≡ Some next
      → is_spent world ≡ false → Attempts {D = D} {disk = disk} old before step (Ok next)
      → HasMade old before step world
  has_made next world there goes (steps so) = record {
    new = so.new;
    steps = so.steps;
    is = record { running = next; there = there; is = so.ends; goes = goes };
    counts = so.counts;
  }
  has_made next world there goes (no_memory running is are counts) =
      absurd (ok_not_err next running is)
    where
      ok_not_err : (a b : Running D disk)
          → let one : Result (Running D disk) (Running D disk) = Ok a in
          let other : Result (Running D disk) (Running D disk) = Err b in one ≡ other → ⊥
      ok_not_err a b e = subst is_ok e tt
        where
          is_ok : Result (Running D disk) (Running D disk) → Type 0
          is_ok (Ok a) = Unit {0}
          is_ok (Err b) = ⊥

  -- or after one that was refused
  pub has_tried : (last : Running D disk) (world : World D disk) → running_in world ≡ Some last
      → Attempts {D = D} {disk = disk} old before step (Err last) → HasTried old before step world
  has_tried last world there (steps so) = record {
    new = so.new;
    steps = inl so.steps;
    has = record { running = last; there = there; are = so.ends };
    counts = so.counts;
  }
  has_tried last world there (no_memory running is are counts) = record {
    new = old;
    steps = inr refl;
    has = record {
      running = last;
      there = there;
      are = subst (λ r. RunsMachines r old) (back_is last running is) are;
    };
    counts = subst (λ r. FailWithDisks old old before (failures_in r)) (back_is last running is)
        counts;
  }
    where
      in_err : Running D disk → Result (Running D disk) (Running D disk) → Running D disk
      in_err other (Ok a) = other
      in_err other (Err b) = b

      back_is : (a b : Running D disk) →
          let one : Result (Running D disk) (Running D disk) = Err a in
          let other : Result (Running D disk) (Running D disk) = Err b in one ≡ other → b ≡ a
      back_is a b e = sym (ap (in_err a) e)

module _ {D : Type 0} {disk : Ghosts D} (old : ModelWorld) (before : Counts) where
  -- the world after the next step
  pub runs_on : (made : List Step) (step : Step) (world next : World D disk)
      (had : HasRun old before made world) → HasMade had.new (failures_in had.is.running) step next
      → HasRun old before (made ++ step ∷ []) next
  runs_on made step world next had so = record {
    new = so.new;
    runs = runs_more old had.new so.new made step had.runs so.steps;
    is = so.is;
    counts = counts_more old had.new so.new before (failures_in had.is.running)
        (failures_in so.is.running) had.counts so.counts;
  }

  -- or where it was refused
  pub ends_with : (made : List Step) (step : Step) (rest : List Step) (world last : World D disk)
      (had : HasRun old before made world) → HasTried had.new (failures_in had.is.running) step last
      → EndsWithin old before (made ++ step ∷ rest) last
  ends_with made step rest world last had so = elim so.steps [
    | inl goes ↦ record {
      made = made ++ step ∷ [];
      rest = rest;
      all = append_assoc made (step ∷ []) rest;
      new = so.new;
      runs = runs_more old had.new so.new made step had.runs goes;
      has = so.has;
      counts = counts_more old had.new so.new before (failures_in had.is.running)
          (failures_in so.has.running) had.counts so.counts;
    }
    | inr same ↦ record {
      made = made;
      rest = step ∷ rest;
      all = refl;
      new = had.new;
      runs = had.runs;
      has = record {
        running = so.has.running;
        there = so.has.there;
        are = subst (RunsMachines so.has.running) same so.has.are;
      };
      counts = counts_more old had.new had.new before (failures_in had.is.running)
          (failures_in so.has.running) had.counts
          (subst (λ w. FailWithDisks had.new w (failures_in had.is.running)
          (failures_in so.has.running)) same so.counts);
    }
  ]

-- the message with a number, as the model has it
pub sent_is : (messages : List Message) (sent : List Sent) (number : ℕ) (one : Option Message)
    → map message_of messages ≡ sent → slice_get messages number ≡ one
    → slice_get sent number ≡ option_map message_of one
sent_is messages sent number one same is =
    ap (λ l. slice_get l number) (sym same)
    ∙ (slice_get-map message_of messages number ∙ ap (option_map message_of) is)
