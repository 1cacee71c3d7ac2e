use Rattle.std.proofs.Common.{arith}
use Rattle.std.proofs.lemmas.Grind.{common_steps}
use Rattle.syn_wire.proofs.path.path_length.Goals as goal

pub loop-name-preserved : goal.loop-name-preserved
loop-name-preserved c = record {
  so_far = grind (arith, common_steps);
  small = grind (arith, common_steps);
}
