-- What the disks of a script's machines leave at their stops.
use Rattle.std.specs.Global.{Vec}
use Rattle.std.specs.Prelude.{◌≡◌, List, [], ◌∷◌, flat_map, Option, Some, None, Bool, true, false}
use Rattle.std.specs.Prelude.{if◌then◌else◌}
use Rattle.syn_disk.specs.declared.simulated.leaves.Leaves.{Leaves}
use Rattle.syn_path.specs.declared.side.Side.{Side}
use Rattle.syn_path.specs.declared.side.Side.TheVariants.{Left, Right}
use Rattle.syn_simulate.specs.declared.line.Line.{Line}
use Rattle.syn_simulate.specs.declared.line.Line.TheVariants.{Stop}
use Rattle.syn_world.specs.declared.machine.Machine.{Machine}
use Rattle.syn_world.specs.declared.machine.Machine.TheVariants as machine
use Rattle.syn_world.specs.declared.world.Disks.{Disks}

abbrev pub is_same_side : Side → Side → Bool
is_same_side Left Left = true
is_same_side Right Right = true
is_same_side one other = false

abbrev pub is_same : Machine → Machine → Bool
is_same (machine.Side one) (machine.Side other) = is_same_side one other
is_same machine.Coordinator machine.Coordinator = true
is_same one other = false

-- what a line says that the disk of this machine leaves, if it stops it
abbrev pub leaves_of : Machine → Line → List Leaves
leaves_of at (Stop other call leaves) = if is_same at other then leaves ∷ [] else []
leaves_of at line = []

-- the modes of the stop lines of this machine, in their order
abbrev pub stops_at : Machine → List Line → List Leaves
stops_at at lines = flat_map (leaves_of at) lines

abbrev pub leaves_in : Option Leaves → List Leaves
leaves_in None = []
leaves_in (Some leaves) = leaves ∷ []

-- what each disk leaves is what its machine's lines say
pub record IsStops (lines : List Line) (stops : Disks (Vec Leaves)) : Type 0 where
  pub left : stops.left.items ≡ stops_at (machine.Side Left) lines
  pub right : stops.right.items ≡ stops_at (machine.Side Right) lines
  pub archive : stops.archive.items ≡ stops_at machine.Coordinator lines
