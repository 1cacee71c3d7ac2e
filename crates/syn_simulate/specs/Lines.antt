-- What lines say, as steps of a world.
use Rattle.std.specs.List.{range_with_len}
use Rattle.std.specs.Prelude.{◌≡◌, ◌++◌, ◌+◌, ◌-◌, ◌≤◌, ℕ, List, [], ◌∷◌, length, map, option_map}
use Rattle.syn_runs.specs.World as model
use Rattle.syn_path.specs.Sides.{which_of}
use Rattle.syn_simulate.specs.Drains.{DeliversLowest, Drains}
use Rattle.syn_simulate.specs.States.{Moves, State}
use Rattle.syn_simulate.specs.declared.player.TheConstants.{MOST_DRAINED}
use Rattle.syn_simulate.specs.declared.line.Line.{Line}
use Rattle.syn_simulate.specs.declared.line.Line.TheVariants.{Edit, Start, Tick, Deliver, Drain}
use Rattle.syn_simulate.specs.declared.line.Line.TheVariants.{Checkpoint, Fail, Stop, Open, Reopen}
use Rattle.syn_tree.specs.Edits.{edit_of}
use Rattle.syn_world.specs.Steps.{machine_of}

-- the messages from the first number to the last, none if the last is lower
abbrev pub deliveries : ℕ → ℕ → List model.Step
deliveries first last = map model.Deliver (range_with_len first (last + 1 - first))

-- what a line says: these steps, or to drain
pub data Said : Type 0 where
  Says : List model.Step → Said
  ToDrain : Said

abbrev pub said : Line → Said
said (Edit side user edit) = Says (model.Edits (which_of side) user (edit_of edit) ∷ [])
said (Start preference) = Says (model.Start (option_map which_of preference) ∷ [])
said Tick = Says (model.Tick ∷ [])
said (Deliver first last) = Says (deliveries first last)
said Drain = ToDrain
said (Checkpoint at) = Says (model.Checkpoint (machine_of at) ∷ [])
said (Fail at call) = Says (model.Fail (machine_of at) call ∷ [])
said (Stop at calls leaves) = Says (model.Stop (machine_of at) calls ∷ [])
said (Open at) = Says (model.Open (machine_of at) ∷ [])
said (Reopen at) = Says (model.Reopen (machine_of at) ∷ [])

-- these steps are what is said
abbrev pub Plays : Said → State → List model.Step → State → Type 0
Plays (Says all) old steps new = (steps ≡ all) × Moves old steps new
Plays ToDrain old steps new = Drains old steps new

-- they are the first of what is said
abbrev pub Begins : Said → State → List model.Step → State → Type 0
Begins (Says all) old made new = (rest : List model.Step) × (made ++ rest ≡ all)
    × Moves old made new
Begins ToDrain old made new = DeliversLowest old made new × (length made ≤ MOST_DRAINED)

abbrev pub PlaysLine : Line → State → List model.Step → State → Type 0
PlaysLine line = Plays (said line)

-- one line after another
abbrev pub PlaysAll : List Line → State → List model.Step → State → Type 0
PlaysAll [] old steps new = (steps ≡ []) × (new ≡ old)
PlaysAll (line ∷ lines) old steps new =
    (first : List model.Step) × (rest : List model.Step) × (between : State)
    × (first ++ rest ≡ steps) × PlaysLine line old first between × PlaysAll lines between rest new
