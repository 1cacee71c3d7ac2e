-- A part of a tree keeps the limits that the tree keeps.
use Rattle.std.proofs.Common.{◌≢◌, ◌⊎◌, inl, inr, None, Some, append-nil, false, true≢false}
use Rattle.std.proofs.Common.{◌≡◌, ◌≤◌, ◌∙◌, true, ◌&&◌, length, refl, sym, ap, ap₂, arith, nat_le}
use Rattle.std.proofs.lemmas.Bool.{and_parts}
use Rattle.std.proofs.lemmas.List.Sums.{length-filter, count_by-le-length}
use Rattle.std.specs.FinMap.{entries, get, len, len-entries}
use Rattle.syn_model.specs.Limits.{fits_part, fits_paths, fits_replica, greatest_spelling}
use Rattle.syn_model.specs.Limits.{tree_spelling_length}
use Rattle.syn_model.specs.Path.{Path, root}
use Rattle.syn_model.specs.Tree.{Tree, Directory, is_directory, is_directory_content, subtree}
use Rattle.syn_model.proofs.TreeLemmas.{get-subtree}
use Rattle.syn_placed.specs.Pairs.{is_within}
use Rattle.syn_placed.proofs.TreeLemmas.{entries-subtree, taken, within-taken}
use Rattle.syn_tree.proofs.PartLemmas.{length_under}
use Rattle.syn_tree.proofs.RootedLemmas.{part_shorter}
use Rattle.syn_tree.specs.declared.error.TreeError.{TreeError}
use Rattle.syn_tree.specs.declared.error.TreeError.TheVariants.{Absent, Full, Memory}
use Rattle.syn_change.proofs.RemovalLemmas.{only_memory}
use Rattle.syn_tree.proofs.CheckLemmas.{less_nodes, less_size}

-- where the part keeps the limits of files, directories and paths
pub part_fits : (t : Tree) (at : Path) → fits_replica t ≡ true →
    fits_part (subtree t at) ≡ true → fits_paths (subtree t at) ≡ true →
    fits_replica (subtree t at) ≡ true
part_fits t at fits part paths =
    let s = subtree t at in
    let es = entries t in
    let whole = and_parts (nat_le (len t) 1024 && nat_le (tree_spelling_length t) greatest_spelling
    && fits_part t) (fits_paths t) fits in
    let both = and_parts (nat_le (len t) 1024) (nat_le (tree_spelling_length t) greatest_spelling)
    (and_parts (nat_le (len t) 1024 && nat_le (tree_spelling_length t) greatest_spelling)
    (fits_part t) whole.0).0 in
    let inside = within-taken at es in
    let mine = entries-subtree t at in
    let fewer : len s ≤ len t =
    omega (
      arith,
      len-entries s,
      len-entries t,
      ap length mine,
      length_under at (taken at es),
      ap length inside,
      length-filter (is_within at) es,
      count_by-le-length (is_within at) es,
    ) in
    ap₂ (λ a b. a && b) (ap₂ (λ a b. a && b) (ap₂ (λ a b. a && b)
    (less_nodes (len s) (len t) fewer both.0)
    (less_size (tree_spelling_length s) (tree_spelling_length t) (part_shorter t at) both.1))
    part) paths

-- a part's root is what stands at its path
pub root_of : (t : Tree) (at : Path) (u : Tree) → u ≡ subtree t at →
    is_directory t at ≡ is_directory u root
root_of t at u is =
    ap is_directory_content (ap (get t) (sym (append-nil at)) ∙ (sym (get-subtree t at root)
    ∙ ap (λ (s : Tree). get s root) (sym is)))

-- a tree is not refused for a limit, and so for lack of memory alone
pub full_never : (e : TreeError) (u : Tree) → fits_replica u ≡ true →
    (e ≢ Memory → (e ≡ Full) × (fits_replica u ≡ false)) → e ≡ Memory
full_never e u fits refused =
    only_memory e None refl (λ other. absurd (true≢false (sym fits ∙ (refused other).1)))

-- at the root of a tree is a directory, and so a copy of it is refused for lack of memory alone
pub directory_there : (t : Tree) (at : Path) (e : TreeError) → at ≡ root →
    get t root ≡ Some Directory →
    (e ≡ Memory) ⊎ ((e ≡ Absent) × (is_directory t at ≡ false)) → e ≡ Memory
directory_there t at e is top (inl memory) = memory
directory_there t at e is top (inr absent) =
    absurd (true≢false (sym (ap (is_directory t) is ∙ ap is_directory_content top) ∙ absent.1))
