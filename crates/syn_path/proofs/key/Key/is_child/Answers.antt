use Rattle.std.proofs.Common.{rules, ◌≡◌, ◌&&◌, not, length, sym, ap, ◌∙◌, arith, false, is_eq}
use Rattle.std.specs.Ordering.{eq_by_cmp}
use Rattle.syn_model.specs.Path.{is_root, path_cmp, path_key, parent, key_cmp}
use Rattle.syn_model.proofs.KeyLemmas.{paths_go_by_key}
use Rattle.syn_path.proofs.KeyLemmas.{has_name}
use Rattle.syn_path.proofs.key.Key.is_child.Goals as goal

pub returns-then-self-gt0 : goal.returns-then-self-gt0
returns-then-self-gt0 c =
    let p = c.args.self.now in
    let q = c.args.above.now in
    let some : is_root p ≡ false = has_name p (omega (
      arith,
      c.if-self-gt0.true,
      c.self.invariant.counted,
      ap (λ r. length (path_key r)) c.self.view_is,
    )) in
    let same : c.eq.result ≡ eq_by_cmp key_cmp (path_key (parent p)) (path_key q) = search rules in
    same ∙ (ap is_eq (sym (paths_go_by_key (parent p) q c.above.ensures.lawful
    c.spelled.ensures.lawful))
    ∙ ap (λ b. not b && eq_by_cmp path_cmp (parent p) q) (sym some))
