use Rattle.std.proofs.Common.{◌≡◌, Bool, true, false, refl, sym, ap, ◌∙◌}
use Rattle.std.specs.Prelude.{IsTrue, ◌↔◌}
use Rattle.syn_model.specs.Tree.{Tree, subtree}
use Rattle.syn_model.specs.Dirty.{is_same_tree}
use Rattle.syn_model.proofs.DirtyLemmas.{same_tree_is, tree_itself}
use Rattle.syn_recon.proofs.decided.is_same_part.Goals as goal

-- a test that is true exactly where two trees are one is the definition's
the_test : (b : Bool) (t u : Tree) → (IsTrue b ↔ (t ≡ u)) → b ≡ is_same_tree t u
the_test true t u h = sym (ap (is_same_tree t) (sym (h.0 refl)) ∙ tree_itself t)
the_test false t u h = by_case (is_same_tree t u) refl
  where
    by_case : (c : Bool) → is_same_tree t u ≡ c → false ≡ c
    by_case true e = h.1 (same_tree_is t u e)
    by_case false e = refl

pub returns : goal.returns
returns c =
    the_test c.is_same_at.result (subtree c.args.left.now c.args.path.now)
    (subtree c.args.right.now c.args.path.now) c.is_same_at.ensures
