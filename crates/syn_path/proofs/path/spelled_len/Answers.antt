use Rattle.std.proofs.Common.{arith, subst}
use Rattle.std.proofs.lemmas.Grind.{common_steps}
use Rattle.std.proofs.lemmas.List.Elements.{All-more}
use Rattle.syn_model.specs.Path.{IsName}
use Rattle.syn_path.proofs.path.spelled_len.Goals as goal

pub loop-name-preserved : goal.loop-name-preserved
loop-name-preserved c = record {
  so_far = grind (arith, common_steps);
  lawful =
      All-more IsName c.args.names.now c.loop-name.name-index c.name-item.result
      c.loop-name-test.true c.loop-name.invariant.lawful
      (subst IsName c.name-item.is c.as_str.ensures.lawful);
  small = grind (arith, common_steps);
}
