use Rattle.std.proofs.Common.{length, ap, ◌∙◌, eqb}
use Rattle.syn_path.proofs.KeyLemmas.{empty_key}
use Rattle.syn_path.proofs.key.Key.is_root.Goals as goal

pub returns : goal.returns
returns c = record {
  root =
      c.is_empty.ensures
      ∙ (ap (λ n. eqb n 0) (ap length c.spelled.ensures.bytes) ∙ empty_key c.args.self.now);
  lawful = c.spelled.ensures.lawful;
}
