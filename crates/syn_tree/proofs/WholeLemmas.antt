-- The limits of a whole tree that is made of entries.
use Rattle.std.proofs.Common.{◌≡◌, ◌≤◌, ◌<◌, ◌+◌, ℕ, suc, true, false, ◌&&◌, nat_le, length, sym}
use Rattle.std.proofs.Common.{ap, ap₂, ◌∙◌, subst, arith}
use Rattle.std.specs.FinMap.{entries, len, len-entries, from_sorted}
use Rattle.std.proofs.lemmas.Bool.Decides.{nat_tests}
use Rattle.std.proofs.lemmas.List.Sums.{sum_by-cons}
use Rattle.syn_model.specs.Path.{root}
use Rattle.syn_model.specs.Tree.{Tree, IsTree, Directory}
use Rattle.syn_model.specs.Limits.{fits_replica, fits_part, fits_paths, tree_spelling_length}
use Rattle.syn_model.specs.Limits.{greatest_spelling}
use Rattle.syn_placed.specs.Pairs.{Pairs, rooted, tree_with, AreRising, spelling_length}
use Rattle.syn_placed.specs.Pairs.{pair_spelling_length}
use Rattle.syn_tree.specs.inner.Kept.{IsKept}
use Rattle.syn_placed.proofs.RisingLemmas.{Rising, are_rising}
use Rattle.syn_placed.proofs.TreeLemmas.{rising-entries, from_entries-same}

few : (n : ℕ) → n ≤ 1023 → nat_le (suc n) 1024 ≡ true
few n h = grind (arith, nat_tests)

many : (n : ℕ) → 1023 < n → nat_le (suc n) 1024 ≡ false
many n h = grind (arith, nat_tests)

small : (n : ℕ) → n ≤ 526336 → nat_le n 526336 ≡ true
small n h = grind (arith, nat_tests)

module _ (u : Tree) (ds : Pairs) (all : rooted ds ≡ entries u) where
  count_of : len u ≡ suc (length ds)
  count_of = len-entries u ∙ ap length (sym all)

  size_of : tree_spelling_length u ≡ 3 + spelling_length ds
  size_of = ap spelling_length (sym all) ∙ sum_by-cons pair_spelling_length (root, Directory) ds

  pub whole_fits : fits_part u ≡ true → fits_paths u ≡ true → length ds ≤ 1023 →
      spelling_length ds + 3 ≤ 526336 → fits_replica u ≡ true
  whole_fits part paths h k =
      ap₂ (λ a b. a && b) (ap₂ (λ a b. a && b) (ap₂ (λ a b. a && b)
      (ap (λ n. nat_le n 1024) count_of ∙ few (length ds) h) (ap (λ n. nat_le n 526336) size_of
      ∙ small (3 + spelling_length ds) (omega (arith, k)))) part) paths

  pub too_many : 1023 < length ds → fits_replica u ≡ false
  too_many h =
      ap (λ a. a && nat_le (tree_spelling_length u) greatest_spelling && fits_part u
      && fits_paths u) (ap (λ n. nat_le n 1024) count_of ∙ many (length ds) h)

  pub whole_rising : AreRising (rooted ds)
  whole_rising = are_rising (rooted ds) (subst Rising (sym all) (rising-entries u))

  pub whole_tree : tree_with ds ≡ u
  whole_tree = ap from_sorted all ∙ from_entries-same u

  pub whole_kept : (s cap : ℕ) → IsTree u → fits_replica u ≡ true → s ≡ spelling_length ds + 3 →
      1023 ≤ cap → IsKept ds s cap
  whole_kept s cap tree fits size room = record {
    rising = whole_rising;
    tree = subst IsTree (sym whole_tree) tree;
    fits = ap fits_replica whole_tree ∙ fits;
    counted = omega (arith, size, sum_by-cons pair_spelling_length (root, Directory) ds);
    room = room;
  }
