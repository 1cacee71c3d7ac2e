-- Which state a player is in, and where playing leads.
use Rattle.std.specs.Global.{Vec}
use Rattle.std.specs.Prelude.{◌≡◌, ◌++◌, ◌<◌, ℕ, Bool, true, false, List, ◌∷◌, slice_index_or}
use Rattle.std.specs.Prelude.{Result, Ok, Err}
use Rattle.syn_disk.specs.declared.disk.Disk.{Ghosts}
use Rattle.syn_runs.specs.World.{Runs, Step}
use Rattle.syn_simulate.specs.Lines.{Begins, Plays, PlaysAll, Said, said}
use Rattle.syn_simulate.specs.States.{State}
use Rattle.syn_simulate.specs.declared.player.Player.{Player}
use Rattle.syn_simulate.specs.declared.line.Line.{Line}
use Rattle.syn_world.specs.Worlds.{AreLeft, IsWorld}
use Rattle.syn_world.specs.declared.world.Disks.{Disks}
use Rattle.syn_world.specs.declared.world.World.{World}

-- each flag is set where the message with its number was delivered; after the end none is
abbrev pub AreFlags : Vec Bool → (ℕ → Bool) → Type 0
AreFlags flags delivered =
    (number : ℕ) → slice_index_or flags.items number false ≡ delivered number

module _ {D : Type 0} {disk : Ghosts D} (player : Player D disk) where
  abbrev pub world_of : World D disk
  world_of = player.world

  -- its world is the state's, and it knows what was delivered
  pub record IsPlayer (state : State) : Type 0 where
    pub world : IsWorld world_of state.world
    pub flags : AreFlags player.delivered state.delivered
    pub below : (number : ℕ) → number < player.lowest → state.delivered number ≡ true

-- it played by these steps, which are a run of the world
pub record HasPlayed {D : Type 0} {disk : Ghosts D} (what : Said) (old : State)
    (player : Player D disk) : Type 0 where
  pub steps : List Step
  pub new : State
  pub plays : Plays what old steps new
  pub runs : Runs old.world steps new.world
  pub is : IsPlayer player new

-- memory was refused, and the disks are as the first of the steps left them
pub record HasBegun {D : Type 0} (disk : Ghosts D) (what : Said) (old : State)
    (disks : Disks D) : Type 0 where
  pub made : List Step
  pub new : State
  pub begins : Begins what old made new
  pub runs : Runs old.world made new.world
  pub left : AreLeft disk.may_leave disks new.world

abbrev pub PlaysTo : {D : Type 0} → {disk : Ghosts D} → Said → State →
    Result (Player D disk) (Disks D) → Type 0
PlaysTo {D} {disk} what old (Ok player) = HasPlayed what old player
PlaysTo {D} {disk} what old (Err disks) = HasBegun disk what old disks

-- the same of all lines
pub record HasPlayedAll {D : Type 0} {disk : Ghosts D} (lines : List Line) (old : State)
    (player : Player D disk) : Type 0 where
  pub steps : List Step
  pub new : State
  pub plays : PlaysAll lines old steps new
  pub runs : Runs old.world steps new.world
  pub is : IsPlayer player new

-- memory was refused in a line after these
pub record EndsIn {D : Type 0} (disk : Ghosts D) (lines : List Line) (old : State)
    (disks : Disks D) : Type 0 where
  pub before : List Line
  pub line : Line
  pub rest : List Line
  pub all : before ++ line ∷ rest ≡ lines
  pub steps : List Step
  pub between : State
  pub plays : PlaysAll before old steps between
  pub made : List Step
  pub new : State
  pub begins : Begins (said line) between made new
  pub runs : Runs old.world (steps ++ made) new.world
  pub left : AreLeft disk.may_leave disks new.world

abbrev pub PlaysAllTo : {D : Type 0} → {disk : Ghosts D} → List Line → State →
    Result (Player D disk) (Disks D) → Type 0
PlaysAllTo {D} {disk} lines old (Ok player) = HasPlayedAll lines old player
PlaysAllTo {D} {disk} lines old (Err disks) = EndsIn disk lines old disks
