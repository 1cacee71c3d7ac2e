-- What a change that was prepared makes of a tree.
use Rattle.std.proofs.Common.{◌≡◌, ◌≤◌, ◌+◌, ◌-◌, ℕ, suc, nat_le, ◌&&◌, ◌++◌, length, length-append}
use Rattle.std.proofs.Common.{refl, sym, ap, ap₂, ◌∙◌, subst, inr, arith}
use Rattle.std.specs.FinMap.{entries, len, len-entries, get, same_entries_map}
use Rattle.std.proofs.lemmas.Bool.{and_parts}
use Rattle.syn_model.specs.Path.{parent}
use Rattle.syn_model.specs.Tree.{IsPart, IsTree, replace}
use Rattle.syn_model.specs.Limits.{fits_replica, fits_part, fits_paths, tree_spelling_length}
use Rattle.syn_model.specs.Limits.{greatest_spelling}
use Rattle.syn_model.proofs.HistoryLemmas.{replace-is_tree}
use Rattle.syn_placed.specs.Pairs.{Pairs, AreRising, rooted, tree_with, before, within, beyond}
use Rattle.syn_placed.specs.Pairs.{under, spelling_length}
use Rattle.syn_tree.specs.Change.{Replacement, taken_from, ArePlaced, IsPreparedFor, after_change}
use Rattle.syn_tree.specs.inner.Kept.{IsKept}
use Rattle.syn_placed.proofs.RisingLemmas.{Rising, rising_of, are_rising, replaced, rising-replaced}
use Rattle.syn_placed.proofs.TreeLemmas.{entries-with, entries-replace, rising-entries}
use Rattle.syn_tree.proofs.PartLemmas.{before_rooted, within_rooted, after_rooted}
use Rattle.syn_tree.proofs.PartLemmas.{spelling_replaced}
use Rattle.syn_tree.proofs.MeasureLemmas.{at_most_nodes, part_size}
use Rattle.syn_model.proofs.SyncLemmas.{directory_is}

module _ (ds : Pairs) (s cap : ℕ) (change : Replacement) (added : Pairs) (size : ℕ)
    (kept : IsKept ds s cap) (ready : IsPreparedFor (tree_with ds) change)
    (placed : ArePlaced change.at added size) (new : taken_from change.at added ≡ change.new) where
  added_under : added ≡ under change.at (entries change.new)
  added_under = placed.placed ∙ ap (λ u. under change.at (entries u)) new

  -- the list with the change made
  pub made_list : (items : Pairs) → items ≡ before change.at ds ++ (added ++ beyond change.at ds) →
      rooted items ≡ replaced change.at (rooted ds) (entries change.new)
  made_list items is =
      ap rooted (is ∙ ap (λ xs. before change.at ds ++ (xs ++ beyond change.at ds)) added_under)
      ∙ sym (ap₂ (λ xs ys. xs ++ (under change.at (entries change.new) ++ ys))
      (before_rooted change.at ds ready.below) (after_rooted change.at ds ready.below))

  pub made_rising : (items : Pairs) →
      items ≡ before change.at ds ++ (added ++ beyond change.at ds) → AreRising (rooted items)
  made_rising items is =
      are_rising (rooted items)
      (subst Rising (sym (made_list items is)) (rising-replaced change.at (rooted ds)
      (entries change.new) (rising_of (rooted ds) kept.rising) (rising-entries change.new)))

  pub made_tree : (items : Pairs) → items ≡ before change.at ds ++ (added ++ beyond change.at ds) →
      tree_with items ≡ after_change (tree_with ds) change
  made_tree items is =
      same_entries_map _ _ (entries-with items (made_rising items is) ∙ (made_list items is
      ∙ sym (entries-replace (tree_with ds) change.at change.new
      ∙ ap (λ es. replaced change.at es (entries change.new)) (entries-with ds kept.rising))))

  -- there is room for it
  pub made_room : length (before change.at ds) + length (beyond change.at ds) + length added ≤ cap
  made_room =
      let t = replace (tree_with ds) change.at change.new in
      let whole = and_parts (nat_le (len t) 1024 && nat_le
      (tree_spelling_length t) greatest_spelling && fits_part t) (fits_paths t) ready.fits in
      let first = (and_parts (nat_le (len t) 1024
      && nat_le (tree_spelling_length t) greatest_spelling) (fits_part t) whole.0).0 in
      let few = at_most_nodes (len t) (and_parts (nat_le (len t) 1024)
      (nat_le (tree_spelling_length t) greatest_spelling) first).0 in
      let list = before change.at ds ++ (added ++ beyond change.at ds) in
      let same : len t ≡ suc (length list) = len-entries t ∙ ap length
      (ap entries (sym (made_tree list refl)) ∙ entries-with list (made_rising list refl)) in
      omega (
        arith,
        few,
        same,
        kept.room,
        length-append (before change.at ds)
            (added ++ beyond change.at ds),
        length-append added (beyond change.at ds),
      )

  pub made_kept : (items : Pairs) (s' cap' : ℕ) →
      items ≡ before change.at ds ++ (added ++ beyond change.at ds) →
      s' ≡ s - spelling_length (within change.at ds) + size → cap ≤ cap' → IsKept items s' cap'
  made_kept items s' cap' is sizes more =
      let tree = made_tree items is in
      let lengths = spelling_replaced change.at (rooted ds) (entries change.new)
      (rising_of (rooted ds) kept.rising) in
      let inner = ap spelling_length (within_rooted change.at ds ready.below) in
      let size_is = placed.spelled ∙ ap spelling_length added_under in
      record {
        rising = made_rising items is;
        tree =
            subst IsTree (sym tree) (replace-is_tree (tree_with ds) change.at change.new kept.tree
            (subst IsPart new placed.part) ready.below (inr
            (directory_is (get (tree_with ds) (parent change.at)) ready.parent)) placed.path.names);
        fits = ap fits_replica tree ∙ ready.fits;
        counted =
            omega (
              arith,
              sizes,
              lengths,
              inner,
              size_is,
              kept.counted,
              part_size ds s cap change.at
                  kept ready.below,
              ap spelling_length (made_list items is),
            );
        room = omega (arith, kept.room, more);
      }
