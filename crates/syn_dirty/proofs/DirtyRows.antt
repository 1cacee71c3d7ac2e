-- What differs between a scan and the archive, path by path, is what is dirty.
use Rattle.std.proofs.Common.{◌≡◌, Bool, true, false, not, ◌&&◌, ◌||◌, List, [], ◌∷◌, ◌++◌, refl}
use Rattle.std.proofs.Common.{sym, ap, ap₂, ◌∙◌, Option, Some, None, is_some, true≢false}
use Rattle.std.proofs.Common.{append-nil, ◌⊎◌, inl, inr}
use Rattle.std.specs.Prelude.{option_map, Contains}
use Rattle.std.specs.List.{list_any}
use Rattle.std.specs.Ordering.{eq_by_cmp}
use Rattle.std.specs.Cmp.{eq_by_cmp_equiv}
use Rattle.std.specs.FinMap.{find, entries, get, get-entries, keys, contains_key-keys}
use Rattle.std.proofs.lemmas.Bool.{or_cases, or_right, or_parts}
use Rattle.std.proofs.lemmas.List.Folds.{Any-from_list_any}
use Rattle.std.proofs.lemmas.Map.Views.{list_any-from_Contains}
use Rattle.std.proofs.lemmas.Option.{none-some, same_Some}
use Rattle.syn_model.specs.Path.{Path, path_cmp, is_prefix}
use Rattle.syn_model.specs.Tree.{Tree, Content, HasParents, subtree, is_directory_content}
use Rattle.syn_model.specs.Dirty.{Scan, dirty, has_unstable, is_unstable, is_same_tree}
use Rattle.syn_model.specs.Dirty.{is_same_content}
use Rattle.syn_model.proofs.PathLemmas.{path_total, same_path, is_prefix-is, prefix-append}
use Rattle.syn_model.proofs.TreeLemmas.{same_tree, get-subtree}
use Rattle.syn_model.proofs.DirtyLemmas.{same_content, tree_itself, dirty-closed, dirty-safe}
use Rattle.syn_model.proofs.DirtyLemmas.{content_itself}
use Rattle.syn_model.proofs.DirectoryLemmas.{same_content_at}
use Rattle.syn_placed.proofs.TreeLemmas.{rising-entries}
use Rattle.syn_scan.specs.Found.{Found, IsFound, scan_of}
use Rattle.syn_dirty.specs.Paths.{AreInOrder}
use Rattle.syn_dirty.specs.inner.Rows.{Rows, compared, with_set, changed}
use Rattle.syn_dirty.proofs.RowLemmas.{RisingRows, combined, rising_compared, find_compared}
use Rattle.syn_dirty.proofs.RowLemmas.{rising_with_set, find_with_set}
use Rattle.syn_dirty.proofs.ChangedLemmas.{touched, touched_by, toucher, among_changed}
use Rattle.syn_dirty.proofs.ChangedLemmas.{rising_changed}
use Rattle.syn_model.proofs.BaseLemmas.{and_false}
use Rattle.syn_model.proofs.PathLemmas.{prefix_itself}

combined_alike : (o : Option Content) → (combined o o ≡ None) ⊎ (combined o o ≡ Some false)
combined_alike None = inl refl
combined_alike (Some a) = inr (ap (λ b. Some (not b)) (content_itself a))

-- where nothing is said to differ, both have the same
same_of : (o u : Option Content) → (combined o u ≡ Some true → ⊥) → o ≡ u
same_of None None h = refl
same_of (Some a) None h = absurd (h refl)
same_of None (Some b) h = absurd (h refl)
same_of (Some a) (Some b) h = by_case (is_same_content a b) refl
  where
    by_case : (c : Bool) → is_same_content a b ≡ c → Some a ≡ Some b
    by_case true e = ap (λ x. Some x) (same_content a b e)
    by_case false e = absurd (h (ap (λ c. Some (not c)) e))

said : (o u : Option Content) → is_some o ≡ true → is_some (combined o u) ≡ true
said None u h = absurd (true≢false (sym h))
said (Some a) None h = refl
said (Some a) (Some b) h = refl

said_too : (o u : Option Content) → is_some u ≡ true → is_some (combined o u) ≡ true
said_too o None h = absurd (true≢false (sym h))
said_too None (Some b) h = refl
said_too (Some a) (Some b) h = refl

one_of : (o u : Option Content) → is_some (combined o u) ≡ true →
    (is_some o ≡ true) ⊎ (is_some u ≡ true)
one_of None None h = absurd (true≢false (sym h))
one_of (Some a) u h = inl refl
one_of None (Some b) h = inr refl

mapped_some : {X Y : Type 0} (f : X → Y) (o : Option X) → is_some (option_map f o) ≡ is_some o
mapped_some f None = refl
mapped_some f (Some x) = refl

either_true : (o : Option Bool) → is_some o ≡ true →
    option_map (λ differs. differs || true) o ≡ Some true
either_true None h = absurd (true≢false (sym h))
either_true (Some true) h = refl
either_true (Some false) h = refl

off : (o : Option Bool) (c : Bool) → (o ≡ None) ⊎ (o ≡ Some false) → c ≡ false →
    option_map (λ differs. differs || c) o ≡ Some true → ⊥
off o c (inl none) e h = none-some _ (sym (ap (option_map (λ differs. differs || c)) none) ∙ h)
off o c (inr some) e h =
    true≢false (sym (same_Some _ _
    (sym (ap (option_map (λ differs. differs || c)) some ∙ ap (λ w. Some w) e) ∙ h)))

-- a path above one that is there is there
there_above : (t : Tree) (p q : Path) → HasParents t → is_prefix p q ≡ true →
    is_some (get t q) ≡ true → is_some (get t p) ≡ true
there_above t p q parents h e = by_rest (is_prefix-is p q h)
  where
    by_rest : (rest : Path) × (q ≡ p ++ rest) → is_some (get t p) ≡ true
    by_rest ([], is) = ap (λ w. is_some (get t w)) (sym (is ∙ append-nil p)) ∙ e
    by_rest (n ∷ rest, is) =
        ap is_some (parents p n rest (ap (λ w. is_some (get t w)) (sym is) ∙ e))

-- a path that is unstable itself
itself_unstable : (q : Path) (us : List Path) → list_any (eq_by_cmp path_cmp q) us ≡ true →
    list_any (λ other. is_prefix q other && is_prefix other q) us ≡ true
itself_unstable q [] h = h
itself_unstable q (u ∷ us) h =
    let rest = itself_unstable q us in
    elim (or_cases (eq_by_cmp path_cmp q u) (list_any (eq_by_cmp path_cmp q) us) h)
    as (λ _. ((is_prefix q u && is_prefix u q)
    || list_any (λ other. is_prefix q other && is_prefix other q) us) ≡ true) [
      | inl same ↦
          let at = same_path q u same in
          ap₂ (λ a b. (a && b) || list_any (λ other. is_prefix q other && is_prefix other q) us)
          (ap (is_prefix q) (sym at) ∙ prefix_itself q)
          (ap (λ w. is_prefix w q) (sym at) ∙ prefix_itself q)
      | inr there ↦ or_right (is_prefix q u && is_prefix u q) _ (rest there)
    ]

not_itself : (q : Path) (us : List Path) → list_any (is_prefix q) us ≡ false →
    list_any (λ other. is_prefix q other && is_prefix other q) us ≡ false
not_itself q [] h = refl
not_itself q (u ∷ us) h =
    let both = or_parts (is_prefix q u) (list_any (is_prefix q) us) h in
    ap₂ (λ a b. (a && is_prefix u q) || b) both.0 (not_itself q us both.1)

module _ (found : Found) (archive : Tree) (f : IsFound found) (parents : HasParents archive) where
  abbrev scan : Scan
  scan = scan_of found

  abbrev pub rows : Rows
  rows = with_set (is_unstable scan) (compared (entries found.marks) (entries archive))

  rising : RisingRows rows
  rising =
      rising_with_set (is_unstable scan) (compared (entries found.marks) (entries archive))
      (rising_compared (entries found.marks) (entries archive) (rising-entries found.marks)
      (rising-entries archive))

  row_at : (q : Path) → find path_cmp q rows ≡ option_map (λ differs. differs || is_unstable scan q)
      (combined (get found.marks q) (get archive q))
  row_at q =
      find_with_set q (is_unstable scan) (compared (entries found.marks) (entries archive))
      ∙ ap (option_map (λ differs. differs || is_unstable scan q))
      (find_compared q (entries found.marks) (entries archive) (rising-entries found.marks)
      (rising-entries archive)
      ∙ ap₂ combined (sym (get-entries found.marks q)) (sym (get-entries archive q)))

  -- an unstable path is there
  unstable_there : (q : Path) → Contains (keys found.not_dirs) q →
      is_some (get found.marks q) ≡ true
  unstable_there q c =
      present (get found.marks q) (f.not_dir q (contains_key-keys found.not_dirs q
      ∙ list_any-from_Contains (eq_by_cmp_equiv path_total) q (keys found.not_dirs) c))
    where
      present : (o : Option Content) → is_directory_content o ≡ true → is_some o ≡ true
      present None h = absurd (true≢false (sym h))
      present (Some c) h = refl

  unstable_within : (p : Path) → has_unstable scan p ≡ true →
      (q : Path) × (is_prefix p q ≡ true) × (find path_cmp q rows ≡ Some true)
  unstable_within p h =
      let a = Any-from_list_any (is_prefix p) (keys found.not_dirs) h in
      let q = a.1 in
      let c : Contains (keys found.not_dirs) q = (a.0, a.2, a.3) in (
        q,
        a.4,
        row_at q ∙ (ap (λ b. option_map (λ differs. differs || b)
            (combined (get found.marks q) (get archive q))) (itself_unstable q (keys found.not_dirs)
            (list_any-from_Contains (eq_by_cmp_equiv path_total) q (keys found.not_dirs) c))
            ∙ either_true (combined (get found.marks q) (get archive q))
            (said (get found.marks q) (get archive q) (unstable_there q c))),
      )

  dirty_at : (q : Path) → find path_cmp q rows ≡ Some true → (b : Bool) → dirty scan archive q ≡ b →
      b ≡ true
  dirty_at q e true is = refl
  dirty_at q e false is =
      let stable : has_unstable scan q ≡ false =
      (or_parts (not (is_same_tree (subtree found.marks q) (subtree archive q)))
      (has_unstable scan q) is).1 in
      let alike : get archive q ≡ get found.marks q =
      sym (same_content_at found.marks archive q (dirty-safe scan archive q is)) in
      absurd (off (combined (get found.marks q) (get found.marks q)) (is_unstable scan q)
      (combined_alike (get found.marks q)) (not_itself q (keys found.not_dirs) stable)
      (sym (ap (λ o. option_map (λ differs. differs || is_unstable scan q)
      (combined (get found.marks q) o)) alike) ∙ (sym (row_at q) ∙ e)))

  same_below : (p : Path) → touched rows p ≡ false → (r : Path) →
      get found.marks (p ++ r) ≡ get archive (p ++ r)
  same_below p h r =
      let q = p ++ r in
      same_of (get found.marks q) (get archive q) (λ differs.
      true≢false (sym (touched_by p q rows (row_at q
      ∙ ap (option_map (λ d. d || is_unstable scan q)) differs) (prefix-append p r)) ∙ h))

  clean_at : (p : Path) → touched rows p ≡ false → dirty scan archive p ≡ false
  clean_at p h =
      let same : subtree found.marks p ≡ subtree archive p =
      same_tree (subtree found.marks p) (subtree archive p)
      (λ r. get-subtree found.marks p r ∙ (same_below p h r ∙ sym (get-subtree archive p r))) in
      ap₂ (λ a b. not a || b) (ap (λ t. is_same_tree (subtree found.marks p) t) (sym same)
      ∙ tree_itself (subtree found.marks p)) (stable (has_unstable scan p) refl)
    where
      stable : (b : Bool) → has_unstable scan p ≡ b → has_unstable scan p ≡ false
      stable true e =
          let u = unstable_within p e in
          absurd (true≢false (sym (touched_by p u.0 rows u.2 u.1) ∙ h))
      stable false e = e

  dirty_touched : (p : Path) → touched rows p ≡ dirty scan archive p
  dirty_touched p = by_case (touched rows p) refl
    where
      by_case : (b : Bool) → touched rows p ≡ b → touched rows p ≡ dirty scan archive p
      by_case true e =
          let t = toucher p rows rising e in
          e ∙ sym
          (dirty-closed scan archive p t.0 t.1 (dirty_at t.0 t.2 (dirty scan archive t.0) refl))
      by_case false e = e ∙ sym (clean_at p e)

  has_row : (p : Path) → touched rows p ≡ true → is_some (find path_cmp p rows) ≡ true
  has_row p e =
      let t = toucher p rows rising e in
      let q = t.0 in
      let some : is_some (combined (get found.marks q) (get archive q)) ≡ true = sym (mapped_some
      (λ differs. differs || is_unstable scan q) (combined (get found.marks q) (get archive q)))
      ∙ ap is_some (sym (row_at q) ∙ t.2) in
      ap is_some (row_at p) ∙ (mapped_some (λ differs. differs || is_unstable scan p)
      (combined (get found.marks p) (get archive p))
      ∙ elim (one_of (get found.marks q) (get archive q) some)
      as (λ _. is_some (combined (get found.marks p) (get archive p)) ≡ true) [
        | inl left ↦ said (get found.marks p) (get archive p)
            (there_above found.marks p q f.marks.part.parents t.1 left)
        | inr right ↦ said_too (get found.marks p) (get archive p)
            (there_above archive p q parents t.1 right)
      ])

  pub in_order : AreInOrder (dirty scan archive) (changed rows)
  in_order = record {
    rising = rising_changed rows rising;
    exact = λ p. among_changed p rows rising ∙ (both p (touched rows p) refl ∙ dirty_touched p);
  }
    where
      both : (p : Path) (b : Bool) → touched rows p ≡ b →
          (is_some (find path_cmp p rows) && touched rows p) ≡ touched rows p
      both p true e = ap₂ (λ a b. a && b) (has_row p e) e ∙ sym e
      both p false e =
          ap (λ b. is_some (find path_cmp p rows) && b) e
          ∙ (and_false (is_some (find path_cmp p rows)) ∙ sym e)
