-- The plan is the walk over what is dirty on a side.
use Rattle.std.proofs.Common.{◌≡◌, ◌≤◌, ℕ, suc, Bool, true, false, cond, not, ◌||◌, nat_le, T, List}
use Rattle.std.proofs.Common.{[], ◌∷◌, ◌++◌, map, length, refl, sym, ap, ap₂, ◌∙◌, Option, Some}
use Rattle.std.proofs.Common.{None, is_some, Ordering, Less, Equal, Greater, is_lt, true≢false}
use Rattle.std.proofs.Common.{append-nil, append_assoc, inl, inr, arith, lit<}
use Rattle.std.specs.List.{AllByRecursion, list_any, list_all}
use Rattle.std.specs.Ordering.{eq_by_cmp}
use Rattle.std.specs.FinMap.{find, entries, entries_sorted, get, get-entries, keys, from_entries}
use Rattle.std.specs.FinMap.{is_sorted, contains_key-keys}
use Rattle.std.specs.FinMap.Entries.{below_all, is_some-find}
use Rattle.std.proofs.lemmas.Bool.{or_cases, or_parts, or_right, and_parts}
use Rattle.std.proofs.lemmas.Bool.Decides.{nat_tests}
use Rattle.std.proofs.lemmas.List.Folds.{Any-from_list_any}
use Rattle.std.proofs.lemmas.Map.Views.{list_any-from_Contains}
use Rattle.std.specs.Cmp.{eq_by_cmp_equiv}
use Rattle.std.specs.Prelude.{Contains}
use Rattle.syn_model.specs.Path.{Path, Name, name_cmp, path_cmp, child, is_prefix, root}
use Rattle.syn_model.specs.Tree.{Tree, Content, Pair, HasParents, subtree, is_directory_content}
use Rattle.syn_model.specs.Limits.{children, fits_archive, fits_path, fits_paths}
use Rattle.syn_model.specs.Dirty.{Scan, dirty, has_unstable, is_same_tree}
use Rattle.syn_model.specs.Decision.{Clean, decision}
use Rattle.syn_model.specs.Plan.{plan, names_below, most_names}
use Rattle.syn_model.proofs.PathLemmas.{path_total, path_itself, same_path, is_prefix-is}
use Rattle.syn_model.proofs.TreeLemmas.{same_tree, get-subtree}
use Rattle.syn_model.proofs.DirtyLemmas.{tree_itself, dirty-closed}
use Rattle.syn_model.proofs.DirectoryLemmas.{absent_below, not_there}
use Rattle.syn_placed.specs.Pairs.{Pairs, is_within}
use Rattle.syn_placed.proofs.RisingLemmas.{Rising, After, filter-keeps}
use Rattle.syn_scan.specs.Found.{Found, IsFound, scan_of}
use Rattle.syn_dirty.specs.Paths.{AreInOrder, is_among}
use Rattle.syn_recon.specs.inner.Walks.{Row, Rows, decided, merged}
use Rattle.syn_recon.specs.inner.Decided.{walk}
use Rattle.syn_recon.proofs.MergeLemmas.{rising_of, RisingRows, AfterRow, rising_merged, paths_in}
use Rattle.syn_recon.proofs.MergeLemmas.{among_merged, Says, says_each}
use Rattle.syn_recon.proofs.PartLemmas.{RisingNames, every_x}
use Rattle.syn_recon.proofs.WalkLemmas.{walk_on, pairs_in, same_walk, Placed, items_walk}
use Rattle.syn_model.specs.Which.{Which}
use Rattle.syn_model.proofs.BaseLemmas.{both_hold, each_with}
use Rattle.syn_model.proofs.PathLemmas.{prefix-append}

-- ---- names in order

names_after : (n : Name) (es : List (Name × Content)) → T (below_all name_cmp n es) →
    AllByRecursion (λ m. name_cmp n m ≡ Less) (map (λ e. e.0) es)
names_after n [] h = tt
names_after n (e ∷ es) h =
    let both = both_hold (is_lt (name_cmp n e.0)) (below_all name_cmp n es) h in
    (less (name_cmp n e.0) both.0, names_after n es both.1)
  where
    less : (o : Ordering) → T (is_lt o) → o ≡ Less
    less Less h = refl
    less Equal h = absurd h
    less Greater h = absurd h

names_rising : (es : List (Name × Content)) → T (is_sorted name_cmp es) →
    RisingNames (map (λ e. e.0) es)
names_rising [] h = tt
names_rising (e ∷ es) h =
    let both = both_hold (below_all name_cmp e.0 es) (is_sorted name_cmp es) h in
    (names_after e.0 es both.0, names_rising es both.1)

below_rising : (left right : Scan) (archive : Tree) (p : Path) →
    RisingNames (names_below left right archive p)
below_rising left right archive p =
    let all = from_entries {X = Content} {R = name_cmp}
    (children left.marks p ++ (children right.marks p ++ children archive p)) in
    names_rising (entries all) (entries_sorted all)

-- ---- what is nowhere is clean

there_above : (t : Tree) (p q : Path) → HasParents t → is_prefix p q ≡ true →
    is_some (get t q) ≡ true → is_some (get t p) ≡ true
there_above t p q parents h e = by_rest (is_prefix-is p q h)
  where
    by_rest : (rest : Path) × (q ≡ p ++ rest) → is_some (get t p) ≡ true
    by_rest ([], is) = ap (λ w. is_some (get t w)) (sym (is ∙ append-nil p)) ∙ e
    by_rest (n ∷ rest, is) =
        ap is_some (parents p n rest (ap (λ w. is_some (get t w)) (sym is) ∙ e))

present : (o : Option Content) → is_directory_content o ≡ true → is_some o ≡ true
present None h = absurd (true≢false (sym h))
present (Some c) h = refl

absent_stable : (found : Found) (p : Path) → IsFound found → get found.marks p ≡ None → (b : Bool) →
    has_unstable (scan_of found) p ≡ b → b ≡ false
absent_stable found p f none false e = refl
absent_stable found p f none true e =
    let a = Any-from_list_any (is_prefix p) (keys found.not_dirs) e in
    let c : Contains (keys found.not_dirs) a.1 = (a.0, a.2, a.3) in
    let here = present (get found.marks a.1) (f.not_dir a.1 (contains_key-keys found.not_dirs a.1
    ∙ list_any-from_Contains (eq_by_cmp_equiv path_total) a.1 (keys found.not_dirs) c)) in
    absurd (true≢false
    (sym (there_above found.marks p a.1 f.marks.part.parents a.4 here) ∙ ap is_some none))

absent_clean : (found : Found) (archive : Tree) (p : Path) → IsFound found → HasParents archive →
    get found.marks p ≡ None → get archive p ≡ None → dirty (scan_of found) archive p ≡ false
absent_clean found archive p f parents none gone =
    let same : subtree found.marks p ≡ subtree archive p =
    same_tree (subtree found.marks p) (subtree archive p) (λ q.
    get-subtree found.marks p q ∙ (absent_below found.marks p f.marks.part.parents none q
    ∙ sym (get-subtree archive p q ∙ absent_below archive p parents gone q))) in
    ap₂ (λ a b. not a || b) (ap (λ t. is_same_tree (subtree found.marks p) t) (sym same)
    ∙ tree_itself (subtree found.marks p))
    (absent_stable found p f none (has_unstable (scan_of found) p) refl)

-- ---- paths are not deep

passes : (f : Path → Bool) (es : Pairs) (q : Path) → list_all (λ (e : Pair). f e.0) es ≡ true →
    is_some (find path_cmp q es) ≡ true → f q ≡ true
passes f [] q h e = absurd (true≢false (sym e))
passes f (x ∷ es) q h e =
    let both = and_parts (f x.0) (list_all (λ (e : Pair). f e.0) es) h in
    let rest = passes f es q both.1 in
    elim (eq_by_cmp path_cmp q x.0) as (λ b. eq_by_cmp path_cmp q x.0 ≡ b →
    is_some (cond b (Some x.1) (find path_cmp q es)) ≡ true → f q ≡ true) [
      | true ↦ λ same _. ap f (same_path q x.0 same) ∙ both.0
      | false ↦ λ _ more. rest more
    ] refl e

not_deep : (t : Tree) (q : Path) → fits_archive t ≡ true → is_some (get t q) ≡ true → length q ≤ 16
not_deep t q fits e =
    let all = and_parts (nat_le _ 4096) (fits_paths t) fits in
    let fit = passes fits_path (entries t) q all.1 (ap is_some (sym (get-entries t q)) ∙ e) in
    few (length q) (and_parts (nat_le (length q) 16) _ fit).0
  where
    few : (n : ℕ) → nat_le n 16 ≡ true → n ≤ 16
    few n h = grind (arith, nat_tests)

-- ---- the plan

pairs_after : (p : Path) (rows : Rows) → AfterRow p rows → After p (pairs_in rows)
pairs_after p [] h = tt
pairs_after p (row ∷ rows) h = (h.0, pairs_after p rows h.1)

pairs_rising : (rows : Rows) → RisingRows rows → Rising (pairs_in rows)
pairs_rising [] h = tt
pairs_rising (row ∷ rows) h = (pairs_after row.0 rows h.0, pairs_rising rows h.1)

first_names : (rows : Rows) → map (λ (e : Pair). e.0) (pairs_in rows) ≡ paths_in rows
first_names [] = refl
first_names (row ∷ rows) = ap (λ ps. row.0 ∷ ps) (first_names rows)

-- each element is among the paths
each_among : (es : Pairs) →
    AllByRecursion (λ (e : Pair). is_among (map (λ (x : Pair). x.0) es) e.0 ≡ true) es
each_among [] = tt
each_among (e ∷ es) = (
  ap (λ b. b || is_among (map (λ (x : Pair). x.0) es) e.0) (path_itself e.0),
  each_with (λ (x : Pair). is_among (map (λ (y : Pair). y.0) es) x.0 ≡ true)
      (λ (x : Pair). is_among (map (λ (y : Pair). y.0) (e ∷ es)) x.0 ≡ true)
      (λ x h. or_right (eq_by_cmp path_cmp x.0 e.0) _ h) es (each_among es),
)

module _ (preference : Option Which) (left right : Found) (archive : Tree)
    (lefts rights : List Path) (f : IsFound left)
    (g : IsFound right) (parents : HasParents archive) (fits : fits_archive archive ≡ true)
    (on_left : AreInOrder (dirty (scan_of left) archive) lefts)
    (on_right : AreInOrder (dirty (scan_of right) archive) rights) where
  abbrev rows : Rows
  rows = merged lefts rights

  abbrev es : Pairs
  es = pairs_in rows

  -- a path is there where it is dirty on a side
  there : (p : Path) → is_some (find path_cmp p es)
      ≡ (dirty (scan_of left) archive p || dirty (scan_of right) archive p)
  there p =
      is_some-find path_cmp p es ∙ (ap (λ ps. is_among ps p) (first_names rows)
      ∙ (among_merged p lefts rights ∙ ap₂ (λ a b. a || b) (on_left.exact p) (on_right.exact p)))

  decided_so : AllByRecursion (λ (row : Row). decided preference (scan_of left) (scan_of right)
      archive row
      ≡ decision preference (scan_of left) (scan_of right) archive row.0) rows
  decided_so =
      each_with (Says lefts rights) (λ (row : Row). decided preference (scan_of left)
      (scan_of right) archive row ≡ decision preference (scan_of left) (scan_of right) archive
      row.0)
      (λ row h. ap₂ (λ a b. decided preference (scan_of left) (scan_of right) archive (row.0, a, b))
      (h.0 ∙ on_left.exact row.0) (h.1 ∙ on_right.exact row.0))
      rows
      (says_each lefts rights (rising_of lefts on_left.rising) (rising_of rights on_right.rising))

  dirty_above : (p q : Path) → is_prefix p q ≡ true →
      (dirty (scan_of left) archive q || dirty (scan_of right) archive q) ≡ true →
      (dirty (scan_of left) archive p || dirty (scan_of right) archive p) ≡ true
  dirty_above p q pre h =
      elim (or_cases (dirty (scan_of left) archive q) (dirty (scan_of right) archive q) h)
      as (λ _. (dirty (scan_of left) archive p || dirty (scan_of right) archive p) ≡ true) [
        | inl a ↦ ap (λ b. b || dirty (scan_of right) archive p)
            (dirty-closed (scan_of left) archive p q pre a)
        | inr b ↦ or_right (dirty (scan_of left) archive p) (dirty (scan_of right) archive p)
            (dirty-closed (scan_of right) archive p q pre b)
      ]

  named_at : (above : Path) (n : Name) → (dirty (scan_of left) archive (child above n) || dirty
      (scan_of right) archive (child above n)) ≡ true → (b : Bool) → list_any (eq_by_cmp name_cmp n)
      (names_below (scan_of left) (scan_of right) archive above) ≡ b → b ≡ true
  named_at above n h true e = refl
  named_at above n h false e =
      let gone = not_there (scan_of left) (scan_of right) archive above n e in
      absurd (true≢false (sym h ∙ ap₂ (λ a b. a || b)
      (absent_clean left archive (child above n) f parents gone.on_left gone.in_archive)
      (absent_clean right archive (child above n) g parents gone.on_right gone.in_archive)))

  dirty_shallow : (found : Found) → IsFound found → (q : Path) →
      dirty (scan_of found) archive q ≡ true → length q ≤ 16
  dirty_shallow found k q h = by_content (get found.marks q) refl (get archive q) refl
    where
      by_content : (o : Option Content) → get found.marks q ≡ o → (u : Option Content) →
          get archive q ≡ u → length q ≤ 16
      by_content (Some c) e u i = not_deep found.marks q k.fits (ap is_some e)
      by_content None e (Some c) i = not_deep archive q fits (ap is_some i)
      by_content None e None i =
          absurd (true≢false (sym h ∙ absent_clean found archive q k parents e i))

  placed_at : (q : Path) →
      (dirty (scan_of left) archive q || dirty (scan_of right) archive q) ≡ true →
      Placed (names_below (scan_of left) (scan_of right) archive) es q
  placed_at q h = record {
    named =
        λ above n rest is. named_at above n (dirty_above (child above n) q
        (ap (is_prefix (child above n)) (is ∙ sym (append_assoc above (n ∷ []) rest))
        ∙ prefix-append (child above n) rest) h) (list_any (eq_by_cmp name_cmp n)
        (names_below (scan_of left) (scan_of right) archive above)) refl;
    closed = λ above pre. there above ∙ dirty_above above q pre h;
    shallow =
        elim (or_cases (dirty (scan_of left) archive q) (dirty (scan_of right) archive q) h)
        as (λ _. length q ≤ 16) [
          | inl a ↦ dirty_shallow left f q a
          | inr b ↦ dirty_shallow right g q b
        ];
  }

  all_placed : AllByRecursion
      (λ (e : Pair). Placed (names_below (scan_of left) (scan_of right) archive) es e.0) es
  all_placed =
      each_with (λ (e : Pair). is_among (map (λ (x : Pair). x.0) es) e.0 ≡ true)
      (λ (e : Pair). Placed (names_below (scan_of left) (scan_of right) archive) es e.0)
      (λ e h. placed_at e.0 (sym (there e.0) ∙ (is_some-find path_cmp e.0 es ∙ h))) es
      (each_among es)

  clean_so : (p : Path) → is_some (find path_cmp p es) ≡ false →
      decision preference (scan_of left) (scan_of right) archive p ≡ Clean
  clean_so p h =
      let both = or_parts (dirty (scan_of left) archive p) (dirty (scan_of right) archive p)
      (sym (there p) ∙ h) in
      ap₂ (λ a b. decided preference (scan_of left) (scan_of right) archive (p, a, b)) both.0 both.1

  pub plan_is_walk : walk (decided preference (scan_of left) (scan_of right) archive) rows None
      ≡ plan preference (scan_of left) (scan_of right) archive
  plan_is_walk =
      let decide = decision preference (scan_of left) (scan_of right) archive in
      same_walk (decided preference (scan_of left) (scan_of right) archive) decide rows None
      decided_so
      ∙ (ap (λ b. walk_on decide b None)
      (sym (filter-keeps (is_within root) es (every_x (λ e. refl) es)))
      ∙ items_walk decide (names_below (scan_of left) (scan_of right) archive) es
      (pairs_rising rows (rising_merged lefts rights (rising_of lefts on_left.rising)
      (rising_of rights on_right.rising)))
      (below_rising (scan_of left) (scan_of right) archive) all_placed clean_so
      (suc most_names) root (lit< tt))
