-- The empty directory.
use Rattle.std.proofs.Common.{◌≡◌, ◌≤◌, ℕ, true, [], refl, sym, ap, ◌∙◌}
use Rattle.std.proofs.Common.{subst}
use Rattle.std.specs.List.{list_all}
use Rattle.std.specs.FinMap.{from_sorted}
use Rattle.syn_model.specs.Path.{root}
use Rattle.syn_model.specs.Tree.{IsTree, Directory, at_root, empty_directory}
use Rattle.syn_model.specs.Limits.{fits_replica, fits_part, fits_paths, fits_path}
use Rattle.syn_model.proofs.HistoryLemmas.{get-at_root}
use Rattle.syn_placed.specs.Pairs.{Pairs, tree_with}
use Rattle.syn_tree.specs.Entries.{AreEntries}
use Rattle.syn_tree.specs.inner.Kept.{IsKept}
use Rattle.syn_placed.proofs.TreeLemmas.{from_entries-same}
use Rattle.syn_tree.proofs.ChangeLemmas.{lawful_part}
use Rattle.syn_tree.proofs.CheckLemmas.{one_fits}
use Rattle.syn_model.proofs.RowLemmas.{entries-at_root}
use Rattle.syn_model.proofs.ImageLemmas.{empty_fits}

empty_tree : tree_with [] ≡ empty_directory
empty_tree = ap from_sorted (sym (entries-at_root Directory)) ∙ from_entries-same (at_root
    Directory)

pub empty_with : (es : Pairs) → es ≡ [] → tree_with es ≡ empty_directory
empty_with es e = ap tree_with e ∙ empty_tree

empty_is_tree : IsTree empty_directory
empty_is_tree = record { rooted = get-at_root Directory root; part = lawful_part Directory tt }

empty_paths : fits_paths empty_directory ≡ true
empty_paths = ap (list_all (λ pair. fits_path pair.0)) (entries-at_root Directory)

pub empty_entries : (es : Pairs) → es ≡ [] → AreEntries es
empty_entries es e = subst AreEntries (sym e) (record {
  rising = refl;
  tree = subst IsTree (sym empty_tree) empty_is_tree;
  part = ap fits_part empty_tree ∙ one_fits Directory refl;
  paths = ap fits_paths empty_tree ∙ empty_paths;
})

pub empty_kept : (es : Pairs) (cap : ℕ) → es ≡ [] → 1023 ≤ cap → IsKept es 3 cap
empty_kept es cap e room = subst (λ xs. IsKept xs 3 cap) (sym e) (record {
  rising = refl;
  tree = subst IsTree (sym empty_tree) empty_is_tree;
  fits = ap fits_replica empty_tree ∙ empty_fits;
  counted = refl;
  room = room;
})
