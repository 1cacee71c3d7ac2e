-- A side as the model has it.
use Rattle.syn_model.specs.Which as model
use Rattle.syn_path.specs.declared.side.Side.{Side}
use Rattle.syn_path.specs.declared.side.Side.TheVariants as has

abbrev pub which_of : Side → model.Which
which_of has.Left = model.Left
which_of has.Right = model.Right
