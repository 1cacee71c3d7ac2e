use Rattle.std.proofs.Common.{rules, ◌≡◌, ◌∙◌, ap, eqb, subst, ◌≤◌, sym}
use Rattle.std.specs.Prelude.{count_by}
use Rattle.std.proofs.lemmas.List.Elements.{recursion_from_All}
use Rattle.syn_model.specs.Path.{IsName}
use Rattle.syn_path.proofs.DerivedKeyLemmas.{count_names}
use Rattle.syn_path.proofs.key.Key.depth.Goals as goal

pub returns : goal.returns
returns c =
    let same : c.count.result ≡ count_by (λ b. eqb b 0) c.spelled.result.now = search rules in
    let names = same ∙ (ap (count_by (λ b. eqb b 0)) c.spelled.ensures.bytes
    ∙ count_names c.args.self.now
    (recursion_from_All IsName c.args.self.now c.spelled.ensures.lawful.names)) in
    record {
      names = names;
      few = subst (λ n. n ≤ 16) (sym names) c.spelled.ensures.lawful.not_deep;
    }
