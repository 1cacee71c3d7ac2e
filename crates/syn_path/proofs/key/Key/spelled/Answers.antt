use Rattle.std.proofs.Common.{take, ap, ap₂, ◌∙◌, subst, arith}
use Rattle.syn_model.specs.Path.{IsPath, path_key}
use Rattle.syn_path.proofs.KeyLemmas.{short_key, take-filled}
use Rattle.syn_path.proofs.key.Key.spelled.Goals as goal

pub shared_ref_as_front-result : goal.shared_ref_as_front-result
shared_ref_as_front-result c =
    let own = c.self.invariant in
    omega (arith, short_key _ own.lawful, own.counted)

pub returns : goal.returns
returns c =
    let own = c.self.invariant in
    record {
      bytes = ap₂ take own.counted own.spelled ∙ (take-filled _ ∙ ap path_key c.self.view_is);
      lawful = subst IsPath c.self.view_is own.lawful;
    }
