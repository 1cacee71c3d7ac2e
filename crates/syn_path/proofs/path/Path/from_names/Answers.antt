use Rattle.std.proofs.Common.{◌≤◌, length, refl, subst, arith}
use Rattle.std.specs.Prelude.{All}
use Rattle.syn_model.specs.Path.{IsName, IsPath, path_spelling}
use Rattle.syn_path.proofs.path.Path.from_names.Goals as goal

lawful : (c : goal.Else-spelled_len-gt-LONGEST_PATH) → IsPath c.args.names.items
lawful c =
    let same = c.as_slice.ensures.value in
    record {
      names = subst (All IsName) same c.spelled_len.ensures.lawful;
      not_deep = omega (arith, c.args.names.ok, c.len.ensures, c.if-len-gt-MOST_NAMES.false);
      not_long =
          subst (λ p. length (path_spelling p) ≤ 255) same (subst (λ n. n ≤ 255)
          c.spelled_len.ensures.length c.if-spelled_len-gt-LONGEST_PATH.false);
    }

pub invariant_of-result : goal.invariant_of-result
invariant_of-result c = lawful c

pub returns-clause-ok : goal.returns-clause-ok
returns-clause-ok c = (refl, lawful c)
