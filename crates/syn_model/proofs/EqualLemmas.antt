-- A session that prefers a side leaves both equal, and the archive their marks.
use Rattle.std.proofs.Common.{◌≡◌, true, false, [], ◌∷◌, ◌++◌, refl, sym, ap, ◌∙◌}
use Rattle.std.proofs.Common.{Some, append_assoc, append-nil}
use Rattle.std.specs.FinMap.{get}
use Rattle.std.proofs.lemmas.Bool.{and_parts}
use Rattle.syn_model.specs.Path.{Path}
use Rattle.syn_model.specs.Tree.{Tree, subtree, is_directory}
use Rattle.syn_model.specs.Mark.{mark}
use Rattle.syn_model.specs.Which.{Which, Left, Right}
use Rattle.syn_model.specs.Dirty.{Paths, dirty}
use Rattle.syn_model.specs.Reconcile.{is_directory_in_both, is_relevant, BothHave, IsSyncedAt}
use Rattle.syn_model.specs.Reconcile.{IsSynchronization, ConflictLeaves}
use Rattle.syn_model.specs.Plan.{scan_of, PreferenceSettles}
use Rattle.syn_model.proofs.TreeLemmas.{get-subtree, same_tree, subtree-root}
use Rattle.syn_model.proofs.SyncLemmas.{directory_is, child_relevant}

-- where both have one part, they have the same below it
in_one_part : (c d : Tree) (p q : Path) (part : Tree) → BothHave c d p part →
    get c (p ++ q) ≡ get d (p ++ q)
in_one_part c d p q part has =
    sym (get-subtree c p q) ∙ (ap (λ t. get t q) (has.left_has ∙ sym has.right_has)
    ∙ get-subtree d p q)

conflict_equal : (side : Which) (a b c d : Tree) (p q : Path) →
    ConflictLeaves (Some side) a b c d p → get c (p ++ q) ≡ get d (p ++ q)
conflict_equal Left a b c d p q has = in_one_part c d p q (subtree a p) has
conflict_equal Right a b c d p q has = in_one_part c d p q (subtree b p) has

module _ (side : Which) (a b : Tree) (da db : Paths) (c d : Tree)
    (synced : IsSynchronization (Some side) a b da db c d) where
  equal_at : (p q : Path) → IsSyncedAt (Some side) a b da db c d p →
      (is_directory_in_both a b p ≡ true → get c (p ++ q) ≡ get d (p ++ q)) →
      get c (p ++ q) ≡ get d (p ++ q)
  equal_at p q here deeper =
      elim (da p) as (λ x. da p ≡ x → get c (p ++ q) ≡ get d (p ++ q)) [
        | false ↦ λ x. in_one_part c d p q (subtree b p) (here.left_clean x)
        | true ↦ λ x. elim (db p) as (λ y. db p ≡ y → get c (p ++ q) ≡ get d (p ++ q)) [
          | false ↦ λ y. in_one_part c d p q (subtree a p) (here.right_clean y)
          | true ↦ λ y. elim (is_directory_in_both a b p)
              as (λ z. is_directory_in_both a b p ≡ z → get c (p ++ q) ≡ get d (p ++ q)) [
                | false ↦ λ z. conflict_equal side a b c d p q (here.conflict x y z)
                | true ↦ deeper
              ] refl
        ] refl
      ] refl

  equal_from : (q p : Path) → is_relevant a b p ≡ true → get c (p ++ q) ≡ get d (p ++ q)
  equal_from [] p r =
      equal_at p [] (synced p r) (λ z.
      let both = and_parts (is_directory c p) (is_directory d p) ((synced p r).directory z) in
      ap (get c) (append-nil p) ∙ (directory_is (get c p) both.0
      ∙ (sym (directory_is (get d p) both.1) ∙ ap (get d) (sym (append-nil p)))))
  equal_from (n ∷ q) p r =
      equal_at p (n ∷ q) (synced p r) (λ z.
      let path = append_assoc p (n ∷ []) q in
      ap (get c) (sym path) ∙ (equal_from q (p ++ n ∷ []) (child_relevant a b p n z)
      ∙ ap (get d) path))

  sides_equal : c ≡ d
  sides_equal = same_tree c d (λ q. equal_from q [] refl)

pub preference_settles : PreferenceSettles
preference_settles side found after synced reconciled = record {
  sides = sides_equal side found.left found.right (dirty (scan_of found.left) found.archive)
      (dirty (scan_of found.right) found.archive) after.left after.right synced;
  archive =
      sym (subtree-root after.archive)
      ∙ (sym ((reconciled [] refl).settled refl).left_has ∙ subtree-root (mark after.left));
}
