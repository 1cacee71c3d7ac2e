-- A tree is what stands at its root and the pairs below that, and so is each part of it.
use Rattle.std.proofs.Common.{◌≡◌, ◌≤◌, ◌+◌, not, [], ◌∷◌, ◌++◌, filter, refl, sym, ap, ap₂, ◌∙◌}
use Rattle.std.proofs.Common.{subst, Some, is_lt, true≢false, append-nil, arith}
use Rattle.std.specs.Ordering.{eq_by_cmp}
use Rattle.std.specs.FinMap.{find, entries, get, get-entries}
use Rattle.std.proofs.lemmas.List.Filters.{sum_by-filter_both}
use Rattle.std.proofs.lemmas.List.Sums.{sum_by-cons}
use Rattle.std.proofs.lemmas.Option.{none-some, same_Some}
use Rattle.syn_model.specs.Path.{Name, Path, path_cmp, root}
use Rattle.syn_model.specs.Tree.{Tree, Content, subtree}
use Rattle.syn_model.specs.Limits.{content_spelling_length, last_name_spelling_length}
use Rattle.syn_model.specs.Limits.{tree_spelling_length}
use Rattle.syn_model.proofs.PathLemmas.{path_itself}
use Rattle.syn_model.proofs.TreeLemmas.{get-subtree}
use Rattle.syn_placed.specs.Pairs.{Pairs, is_below, under, within, spelling_length}
use Rattle.syn_placed.specs.Pairs.{pair_spelling_length}
use Rattle.syn_placed.proofs.BelowLemmas.{without_first}
use Rattle.syn_placed.proofs.FindLemmas.{after_more, find_after}
use Rattle.syn_placed.proofs.RisingLemmas.{Rising, After}
use Rattle.syn_placed.proofs.TreeLemmas.{rising-entries, taken, within-taken, entries-subtree}
use Rattle.syn_tree.proofs.PartLemmas.{spelling_within}

-- a tree is what stands at its root, and the parts at its names
pub record IsRooted (t : Tree) (c : Content) : Type 0 where
  pub below : Pairs
  pub whole : entries t ≡ (root, c) ∷ below

pub is_rooted : (t : Tree) (c : Content) → get t root ≡ Some c → IsRooted t c
is_rooted t c is = by_list (entries t) refl (rising-entries t)
  where
    by_list : (es : Pairs) → entries t ≡ es → Rising (entries t) → IsRooted t c
    by_list [] e r =
        absurd (none-some _ (ap (find path_cmp root) (sym e) ∙ (sym (get-entries t root) ∙ is)))
    by_list (([], d) ∷ es) e r =
        let same : d ≡ c = same_Some _ _
        (sym (get-entries t root ∙ ap (find path_cmp root) e) ∙ is) in
        record { below = es; whole = e ∙ ap (λ x. (root, x) ∷ es) same }
    by_list ((n ∷ q, d) ∷ es) e r =
        let later = subst Rising e r in
        let gone = find_after root es (after_more root (n ∷ q) es refl later.0) in
        absurd (none-some _
        (sym gone ∙ (ap (find path_cmp root) (sym e) ∙ (sym (get-entries t root) ∙ is))))

-- what stands below a place is the part there, without what is at its root
pub below_part : (t : Tree) (at : Path) (c : Content) (r : IsRooted (subtree t at) c) →
    filter (is_below at) (entries t) ≡ under at r.below
below_part t at c r =
    let es = entries t in
    let inside : within at es ≡ (at ++ [], c) ∷ under at r.below =
    within-taken at es ∙ ap (under at) (sym (entries-subtree t at) ∙ r.whole) in
    sym (without_first at es (at ++ [], c) (under at r.below) (rising-entries t) inside
    (ap (λ p. eq_by_cmp path_cmp p at) (append-nil at) ∙ path_itself at))

-- ---- sizes

-- a longer path has the same last name
pub later_names : (at : Path) (n : Name) (p : Path) →
    last_name_spelling_length (at ++ n ∷ p) ≡ last_name_spelling_length (n ∷ p)
later_names [] n p = refl
later_names (m ∷ []) n p = refl
later_names (m ∷ k ∷ at) n p = later_names (k ∷ at) n p

under_size : (at : Path) (ds : Pairs) → After root ds →
    spelling_length (under at ds) ≡ spelling_length ds
under_size at [] h = refl
under_size at (([], c) ∷ ds) h = absurd (true≢false (sym (ap is_lt h.0)))
under_size at ((n ∷ p, c) ∷ ds) h =
    sum_by-cons pair_spelling_length (at ++ n ∷ p, c) (under at ds)
    ∙ (ap₂ (λ k m. k + content_spelling_length c + m) (later_names at n p)
    (under_size at ds h.1) ∙ sym (sum_by-cons pair_spelling_length (n ∷ p, c) ds))

-- the size of a part is that of what is at the place, and of what is below it
pub part_size : (t : Tree) (at : Path) (c : Content) → get t at ≡ Some c →
    content_spelling_length c + spelling_length (filter (is_below at) (entries t))
    ≡ tree_spelling_length (subtree t at)
part_size t at c is =
    let s = subtree t at in
    let r = is_rooted s c (get-subtree t at root ∙ ap (get t) (append-nil at) ∙ is) in
    let after = (subst Rising r.whole (rising-entries s)).0 in
    omega (
      arith,
      ap spelling_length (below_part t at c r) ∙ under_size at r.below after,
      ap spelling_length r.whole,
      sum_by-cons pair_spelling_length (root, c) r.below,
    )

pub below_size : (at : Path) (es : Pairs) →
    spelling_length (filter (is_below at) es) ≤ spelling_length es
below_size at es =
    let both = sum_by-filter_both (is_below at) (λ e. not (is_below at e)) (λ e. refl)
    pair_spelling_length es in
    omega (arith, both)

-- with a path before each of them no fewer bytes spell pairs
under_more : (at : Path) (us : Pairs) → spelling_length us ≤ spelling_length (under at us)
under_more at [] = omega arith
under_more at (([], c) ∷ us) =
    omega (
      arith,
      under_more at us,
      sum_by-cons pair_spelling_length ([], c) us,
      sum_by-cons pair_spelling_length (at ++ [], c) (under at us),
    )
under_more at ((n ∷ p, c) ∷ us) =
    omega (
      arith,
      under_more at us,
      later_names at n p,
      sum_by-cons pair_spelling_length (n ∷ p, c) us,
      sum_by-cons pair_spelling_length (at ++ n ∷ p, c) (under at us),
    )

-- a part takes no more bytes than the whole
pub part_shorter : (t : Tree) (at : Path) →
    tree_spelling_length (subtree t at) ≤ tree_spelling_length t
part_shorter t at =
    let es = entries t in
    omega (
      arith,
      ap spelling_length (entries-subtree t at),
      under_more at (taken at es),
      ap spelling_length (within-taken at es),
      spelling_within at es (rising-entries t),
    )
