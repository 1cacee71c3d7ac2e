-- What a scan of a tree shows so far stands in the tree, so it keeps the limits of a scan.
use Rattle.std.proofs.Common.{◌≡◌, ◌≤◌, ◌++◌, ◌∷◌, [], ◌∙◌, ℕ, List, Option, Some, None}
use Rattle.std.proofs.Common.{T, Less, Equal, Greater, true, false, true≢false, ap, append-nil}
use Rattle.std.proofs.Common.{append_assoc, arith, cond, is_eq, is_some, map, option_map}
use Rattle.std.proofs.Common.{refl, subst, sym}
use Rattle.std.proofs.lemmas.Cmp.{eq_by_cmp_equiv}
use Rattle.std.proofs.lemmas.List.{length-map}
use Rattle.std.proofs.lemmas.Map.Steps.{length-le_from_keys}
use Rattle.std.specs.FinMap.{FinMap, contains_key, contains_key-keys, entries, entries_sorted, find}
use Rattle.std.specs.FinMap.{get, get-entries, keys, len, len-entries}
use Rattle.std.specs.FinMap.Entries.{below_all, is_sorted}
use Rattle.std.specs.List.{AllByRecursion, IsDistinct}
use Rattle.std.specs.Map.{lookup}
use Rattle.std.specs.Ordering.{eq_by_cmp, is_lt}
use Rattle.std.specs.declared.cmp.Ordering.{Ordering}
use Rattle.syn_model.specs.Limits.{children}
use Rattle.syn_model.specs.Mark.{mark, mark_of}
use Rattle.syn_model.specs.Path.{Name, Path, child, path_cmp}
use Rattle.syn_model.specs.Tree.{Content, IsTree, Tree, is_directory}
use Rattle.syn_model.specs.Tree.{is_directory_content}
use Rattle.syn_model.proofs.BaseLemmas.{both_hold}
use Rattle.syn_model.proofs.MarkLemmas.{get-mark, some_mapped}
use Rattle.syn_model.proofs.PathLemmas.{path_total}
use Rattle.syn_model.proofs.QuietLemmas.{directory_of_mark, nothing_below, same_child}
use Rattle.syn_scan.specs.Found.{Found, IsFound, WasListedIn, was_listed}

-- ---- where each path of a map is in another one, that has as many

lesser : (o : Ordering) → T (is_lt o) → is_eq o ≡ false
lesser Less h = refl
lesser Equal h = absurd h
lesser Greater h = absurd h

module _ {X : Type 0} where
  apart : (p : Path) (es : List (Path × X)) → T (below_all path_cmp p es)
      → AllByRecursion (λ q. eq_by_cmp path_cmp p q ≡ false) (map (λ e. e.0) es)
  apart p [] h = tt
  apart p (e ∷ es) h =
      let both = both_hold (is_lt (path_cmp p e.0)) (below_all path_cmp p es) h in
      (lesser (path_cmp p e.0) both.0, apart p es both.1)

  distinct : (es : List (Path × X)) → T (is_sorted path_cmp es)
      → IsDistinct (eq_by_cmp path_cmp) (map (λ e. e.0) es)
  unfolding IsDistinct
  distinct [] h = tt
  distinct (e ∷ es) h =
      let both = both_hold (below_all path_cmp e.0 es) (is_sorted path_cmp es) h in
      (apart e.0 es both.0, distinct es both.1)

  looked_up : (q : Path) (es : List (Path × X))
      → lookup (eq_by_cmp path_cmp q) es ≡ find path_cmp q es
  looked_up q [] = refl
  looked_up q (e ∷ es) = ap (cond (eq_by_cmp path_cmp q e.0) (Some e.1)) (looked_up q es)

fewer : {X Y : Type 0} (a : FinMap path_cmp X) (b : FinMap path_cmp Y)
    → ((q : Path) → contains_key a q ≡ true → contains_key b q ≡ true) → len a ≤ len b
fewer a b within =
    let few = length-le_from_keys (eq_by_cmp_equiv path_total) (keys a) (entries b)
    (distinct (entries a) (entries_sorted a))
    (λ q among. ap is_some (looked_up q (entries b) ∙ sym (get-entries b q))
    ∙ within q (contains_key-keys a q ∙ among)) in
    omega (arith, few, length-map (entries a) (λ e. e.0), len-entries a, len-entries b)

some_of : (o : Option Content) → is_directory_content o ≡ true → is_some o ≡ true
some_of None d = absurd (true≢false (sym d))
some_of (Some content) d = refl

-- ---- what was listed so far stands in the tree

module _ (tree : Tree) (whole : IsTree tree) (found : Found) (kept : IsFound found)
    (listed : (at : Path) (since : ℕ) (entries : List (Name × Content))
    → WasListedIn found at since entries → entries ≡ children (mark tree) at) where
  names : (p : Path) → was_listed found p ≡ true
      → children found.marks p ≡ children (mark tree) p
  names p is = by (get found.listed p) refl is
    where
      by : (o : Option ℕ) → get found.listed p ≡ o → is_some o ≡ true
          → children found.marks p ≡ children (mark tree) p
      by None e some = absurd (true≢false (sym some))
      by (Some since) e some =
          listed p since (children found.marks p) (record { answered = e; shows = refl })

  nothing_at : (p rest : Path) → get found.marks p ≡ None → get found.marks (p ++ rest) ≡ None
  nothing_at p [] none = ap (get found.marks) (append-nil p) ∙ none
  nothing_at p (n ∷ rest) none =
      nothing_below found.marks p n rest kept.marks.part.parents (ap is_directory_content none)

  within : (p rest : Path) → get found.marks p ≡ get (mark tree) p
      → contains_key found.marks (p ++ rest) ≡ true
      → get found.marks (p ++ rest) ≡ get (mark tree) (p ++ rest)
  within p [] same some =
      ap (get found.marks) (append-nil p) ∙ (same ∙ ap (get (mark tree)) (sym (append-nil p)))
  within p (n ∷ rest) same some =
      let at : child p n ++ rest ≡ p ++ n ∷ rest = append_assoc p (n ∷ []) rest in
      elim (was_listed found p)
      as (λ b. was_listed found p ≡ b
      → get found.marks (p ++ n ∷ rest) ≡ get (mark tree) (p ++ n ∷ rest)) [
        | true ↦ λ l.
            subst (λ q. get found.marks q ≡ get (mark tree) q) at
            (within (child p n) rest (same_child found.marks (mark tree) p n (names p l))
            (ap (contains_key found.marks) at ∙ some))
        | false ↦ λ l.
            absurd
            (true≢false (sym some ∙ ap is_some (ap (get found.marks) (sym at)
            ∙ nothing_at (child p n) rest (kept.nothing_below p n l))))
      ] refl

  shown : (q : Path) → contains_key found.marks q ≡ true
      → get found.marks q ≡ get (mark tree) q
  shown q some =
      within [] q
      (kept.rooted ∙ sym (get-mark tree [] ∙ ap (option_map mark_of) whole.rooted)) some

  in_tree : (q : Path) → contains_key found.marks q ≡ true → contains_key tree q ≡ true
  in_tree q some =
      sym (some_mapped (get tree q))
      ∙ (sym (ap is_some (get-mark tree q)) ∙ (sym (ap is_some (shown q some)) ∙ some))

  -- a directory of the scan is one of the tree
  pub directory_in : (q : Path) → is_directory found.marks q ≡ true → is_directory tree q ≡ true
  directory_in q d =
      sym (directory_of_mark tree q)
      ∙ (sym (ap is_directory_content (shown q (some_of (get found.marks q) d))) ∙ d)

  -- so no more is shown, and no more was listed, than there are nodes
  pub few_shown : len found.marks ≤ len tree
  few_shown = fewer found.marks tree in_tree

  pub few_listed : len found.listed ≤ len tree
  few_listed =
      fewer found.listed tree
      (λ q l. in_tree q (some_of (get found.marks q) (kept.listed q l)))
