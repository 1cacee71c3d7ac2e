use Rattle.std.proofs.Common.{◌≡◌, Bool, true, false, not, ◌||◌, refl, sym, ap, ◌∙◌}
use Rattle.std.specs.Prelude.{IsTrue, ◌↔◌}
use Rattle.syn_model.specs.Tree.{Tree, subtree}
use Rattle.syn_model.specs.Dirty.{is_same_tree, has_unstable}
use Rattle.syn_model.proofs.DirtyLemmas.{same_tree_is, tree_itself}
use Rattle.syn_scan.specs.Found.{scan_of}
use Rattle.syn_dirty.proofs.changed.dirty.Goals as goal

-- a test that is true exactly where two trees are one is the definition's
the_test : (b : Bool) (t u : Tree) → (IsTrue b ↔ (t ≡ u)) → b ≡ is_same_tree t u
the_test true t u h = sym (ap (is_same_tree t) (sym (h.0 refl)) ∙ tree_itself t)
the_test false t u h = by_case (is_same_tree t u) refl
  where
    by_case : (c : Bool) → is_same_tree t u ≡ c → false ≡ c
    by_case true e = h.1 (same_tree_is t u e)
    by_case false e = refl

pub returns-then-not-is_same_at : goal.returns-then-not-is_same_at
returns-then-not-is_same_at c =
    let p = c.args.path.now in
    let s = c.args.scan.now in
    let same = the_test c.is_same_at.result (subtree c.tree.result.now p)
    (subtree c.args.archive.now p) c.is_same_at.ensures
    ∙ ap (λ t. is_same_tree (subtree t p) (subtree c.args.archive.now p)) c.tree.ensures.marks in
    ap not c.if-not-is_same_at.true
    ∙ sym (ap (λ b. not b || has_unstable (scan_of s) p) (sym same ∙ c.if-not-is_same_at.true))

pub returns-else-not-is_same_at : goal.returns-else-not-is_same_at
returns-else-not-is_same_at c =
    let p = c.args.path.now in
    let s = c.args.scan.now in
    let same = the_test c.is_same_at.result (subtree c.tree.result.now p)
    (subtree c.args.archive.now p) c.is_same_at.ensures
    ∙ ap (λ t. is_same_tree (subtree t p) (subtree c.args.archive.now p)) c.tree.ensures.marks in
    c.unstable.ensures
    ∙ sym (ap (λ b. not b || has_unstable (scan_of s) p) (sym same ∙ c.if-not-is_same_at.false))
