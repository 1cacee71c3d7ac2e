use Rattle.std.proofs.Common.{take, ap, ap₂, ◌∙◌, subst, arith}
use Rattle.syn_model.specs.Path.{IsPath, path_key, parent}
use Rattle.syn_path.proofs.KeyLemmas.{short_key, above_is_path, above-filled}
use Rattle.syn_path.proofs.key.Key.above.Goals as goal

pub shared_ref_as_front-result : goal.shared_ref_as_front-result
shared_ref_as_front-result c =
    let own = c.self.invariant in
    omega (arith, short_key _ (above_is_path _ own.lawful), own.begun)

pub returns : goal.returns
returns c =
    let own = c.self.invariant in
    record {
      bytes =
          ap₂ take own.begun own.spelled
          ∙ (above-filled _ ∙ ap (λ p. path_key (parent p)) c.self.view_is);
      lawful = subst (λ p. IsPath (parent p)) c.self.view_is (above_is_path _ own.lawful);
    }
