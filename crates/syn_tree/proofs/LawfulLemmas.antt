-- Entries that were looked at one by one make a lawful whole, and a lawful whole passes.
use Rattle.std.proofs.Common.{◌≡◌, ℕ, zero, suc, Bool, true, false, cond, not, ◌&&◌, ◌||◌, nat_le}
use Rattle.std.proofs.Common.{[], ◌∷◌, ◌++◌, length, refl, sym, ap, ap₂, ◌∙◌, subst, Option, Some}
use Rattle.std.proofs.Common.{None, is_some, IsSome, Less, is_lt, is_eq, All, append-nil}
use Rattle.std.proofs.Common.{true≢false, arith}
use Rattle.std.specs.List.{list_all, AllByRecursion}
use Rattle.std.specs.Ordering.{eq_by_cmp, ordering_reverse}
use Rattle.std.specs.FinMap.{find, get}
use Rattle.std.proofs.lemmas.Bool.{and_parts}
use Rattle.std.proofs.lemmas.List.Elements.{All-nil}
use Rattle.std.proofs.lemmas.Option.{none-some, same_Some}
use Rattle.syn_model.specs.Path.{Name, Path, IsName, path_cmp, root, is_root, parent}
use Rattle.syn_model.specs.Tree.{Content, Pair, Directory, File, IsTree, is_directory_content}
use Rattle.syn_model.specs.Limits.{fits_content, fits_path, fits_part}
use Rattle.syn_model.proofs.PathLemmas.{path_total, same_path, path_itself, parent-append}
use Rattle.syn_tree.specs.Contents.{IsLawful}
use Rattle.syn_placed.specs.Pairs.{Pairs, rooted, tree_with, AreRising, is_child}
use Rattle.syn_tree.specs.Entries.{AreEntries, has_few, stands_in, IsLawfulPair, AreLawful}
use Rattle.syn_placed.proofs.RisingLemmas.{Rising, rising_of, each-both}
use Rattle.syn_placed.proofs.TreeLemmas.{entries-with, get-with}
use Rattle.syn_placed.proofs.CountLemmas.{kids, kids-none, child_is, child_parent, child_of_parent}
use Rattle.syn_tree.proofs.FitLemmas.{part-pairs, pair_fits, all_of, each_of}
use Rattle.syn_tree.proofs.PartLemmas.{kids_rooted}
use Rattle.syn_tree.proofs.CheckLemmas.{path_fits}
use Rattle.syn_model.proofs.BaseLemmas.{each_with}
use Rattle.syn_model.proofs.SyncLemmas.{directory_is}

-- what holds of each pair holds of what is found
pub each-find : (P : Path → Content → Type 0) (q : Path) (c : Content) (es : Pairs) →
    AllByRecursion (λ e. P e.0 e.1) es → find path_cmp q es ≡ Some c → P q c
each-find P q c [] h e = absurd (none-some _ e)
each-find P q c (x ∷ es) h e = by_path (eq_by_cmp path_cmp q x.0) refl (each-find P q c es h.1) e
  where
    by_path : (b : Bool) → eq_by_cmp path_cmp q x.0 ≡ b → (find path_cmp q es ≡ Some c → P q c) →
        cond b (Some x.1) (find path_cmp q es) ≡ Some c → P q c
    by_path true same rest is =
        subst (λ p. P p c) (sym (same_path q x.0 same)) (subst (P x.0) (same_Some _ _ is) h.0)
    by_path false same rest is = rest is

content_or : Option Content → Content
content_or None = Directory
content_or (Some c) = c

some_is : (o : Option Content) → is_some o ≡ true → o ≡ Some (content_or o)
unfolding content_or
some_is None h = absurd (true≢false (sym h))
some_is (Some c) h = refl

length_parent : (m : Name) (w : Path) → suc (length (parent (m ∷ w))) ≡ length (m ∷ w)
length_parent m [] = refl
length_parent m (n ∷ w) = ap suc (length_parent n w)

-- each of the pairs is found at its path
pub each_found : (es : Pairs) → Rising es → AllByRecursion (λ e. find path_cmp e.0 es ≡ Some e.1) es
each_found [] h = tt
each_found (x ∷ es) h = (
  ap (λ b. cond b (Some x.1) (find path_cmp x.0 es)) (path_itself x.0),
  each_with (λ e. (path_cmp x.0 e.0 ≡ Less) × (find path_cmp e.0 es ≡ Some e.1))
      (λ e. find path_cmp e.0 (x ∷ es) ≡ Some e.1)
      (λ e k. ap (λ o. cond (is_eq o) (Some x.1) (find path_cmp e.0 es))
      (path_total.antisymm e.0 x.0 ∙ ap ordering_reverse k.0) ∙ k.1)
      es (each-both (λ e. path_cmp x.0 e.0 ≡ Less) (λ e. find path_cmp e.0 es ≡ Some e.1) es h.0
      (each_found es h.1)),
)

module _ (ds : Pairs) (rising : AreRising (rooted ds)) where
  -- each path but the root has its parent
  pub Closed : Type 0
  Closed = AllByRecursion (λ e. find path_cmp (parent e.0) (rooted ds) ≡ Some Directory) (rooted ds)

  parent_of : Closed → (q : Path) → IsSome (find path_cmp q (rooted ds)) →
      find path_cmp (parent q) (rooted ds) ≡ Some Directory
  unfolding Closed
  parent_of h q is =
      each-find (λ p c. find path_cmp (parent p) (rooted ds) ≡ Some Directory) q
      (content_or (find path_cmp q (rooted ds))) (rooted ds) h
      (some_is (find path_cmp q (rooted ds)) is)

  climbs : Closed → (k : ℕ) (p : Path) (n : Name) (w : Path) → length w ≡ k →
      IsSome (find path_cmp (p ++ n ∷ w) (rooted ds)) → find path_cmp p (rooted ds) ≡ Some Directory
  climbs h k p n [] e is =
      ap (λ q. find path_cmp q (rooted ds)) (sym (parent-append p n [] ∙ append-nil p))
      ∙ parent_of h (p ++ n ∷ []) is
  climbs h zero p n (m ∷ w) e is = absurd (omega arith)
  climbs h (suc k) p n (m ∷ w) e is =
      let up : find path_cmp (p ++ n ∷ parent (m ∷ w)) (rooted ds) ≡ Some Directory =
      ap (λ q. find path_cmp q (rooted ds)) (sym (parent-append p n (m ∷ w)))
      ∙ parent_of h (p ++ n ∷ m ∷ w) is in
      climbs h k p n (parent (m ∷ w)) (let long = length_parent m w in omega (arith, long, e))
      (ap is_some up)

  pub lawful_tree : Closed → AreLawful ds → IsTree (tree_with ds)
  lawful_tree h lawful = record {
    rooted = get-with ds root rising;
    part = record {
      parents =
          λ p n r is. get-with ds p rising
          ∙ climbs h (length r) p n r refl (subst IsSome (get-with ds (p ++ n ∷ r) rising) is);
      names =
          λ p is. each-find (λ q c. All IsName q) p (content_or (find path_cmp p (rooted ds)))
          (rooted ds) (
            All-nil IsName,
            each_with IsLawfulPair (λ e. All IsName e.0) (λ e k. k.0.names) ds lawful,
          )
          (some_is (find path_cmp p (rooted ds)) (subst IsSome (get-with ds p rising) is));
      lawful =
          λ p contents is. each-find (λ q c. IsLawful c) p (File contents) (rooted ds)
          (tt, each_with IsLawfulPair (λ e. IsLawful e.1) (λ e k. k.1) ds lawful)
          (sym (get-with ds p rising) ∙ is);
    };
  }

  pub closed_by : AllByRecursion
      (λ e. is_directory_content (find path_cmp (parent e.0) (rooted ds)) ≡ true) ds → Closed
  unfolding Closed
  closed_by h = (
    refl,
    each_with (λ e. is_directory_content (find path_cmp (parent e.0) (rooted ds)) ≡ true)
        (λ e. find path_cmp (parent e.0) (rooted ds) ≡ Some Directory)
        (λ e k. directory_is (find path_cmp (parent e.0) (rooted ds)) k) ds h,
  )

  closed_of : list_all (stands_in ds) ds ≡ true → Closed
  closed_of h =
      closed_by (each_with (λ e. stands_in ds e ≡ true)
      (λ e. is_directory_content (find path_cmp (parent e.0) (rooted ds)) ≡ true)
      (λ e k. (and_parts (is_directory_content (find path_cmp (parent e.0) (rooted ds)))
      (fits_content e.1) (and_parts (is_directory_content (find path_cmp (parent e.0) (rooted ds))
      && fits_content e.1) (has_few ds e) k).0).0)
      ds (each_of (stands_in ds) ds h))

  -- nothing is in a file
  none_in : Closed → (e : Pair) → find path_cmp e.0 (rooted ds) ≡ Some e.1 →
      is_directory_content (Some e.1) ≡ false → kids e.0 ds ≡ 0
  unfolding Closed
  none_in h e there file =
      kids-none e.0 ds (each_with (λ x. find path_cmp (parent x.0) (rooted ds) ≡ Some Directory)
      (λ x. is_child e.0 x.0 ≡ false) (λ x up. never x up (is_child e.0 x.0) refl) ds h.1)
    where
      never : (x : Pair) → find path_cmp (parent x.0) (rooted ds) ≡ Some Directory → (b : Bool) →
          is_child e.0 x.0 ≡ b → b ≡ false
      never x up true is =
          absurd (true≢false (sym (ap is_directory_content (sym there ∙ (ap
          (λ q. find path_cmp q (rooted ds)) (sym (child_parent e.0 x.0 is)) ∙ up))) ∙ file))
      never x up false is = refl

  few_of : Closed → (e : Pair) → find path_cmp e.0 (rooted ds) ≡ Some e.1 → has_few ds e ≡ true →
      nat_le (kids e.0 ds) 256 ≡ true
  few_of h e there few = by_kind (is_directory_content (Some e.1)) refl few
    where
      by_kind : (b : Bool) → is_directory_content (Some e.1) ≡ b →
          (not b || nat_le (kids e.0 ds) 256) ≡ true → nat_le (kids e.0 ds) 256 ≡ true
      by_kind true is k = k
      by_kind false is k = ap (λ n. nat_le n 256) (none_in h e there is)

  fits_of : list_all (stands_in ds) ds ≡ true → nat_le (kids [] ds) 256 ≡ true →
      fits_part (tree_with ds) ≡ true
  fits_of h few =
      let closed = closed_of h in
      let found = (each_found (rooted ds) (rising_of (rooted ds) rising)).1 in
      part-pairs (tree_with ds) ∙ (ap (λ es. list_all (pair_fits es) es) (entries-with ds rising)
      ∙ ap₂ (λ a b. a && b) (ap (λ n. nat_le n 256) (kids_rooted [] ds) ∙ few)
      (all_of (pair_fits (rooted ds)) ds (each_with (λ e. (stands_in ds e ≡ true)
      × (find path_cmp e.0 (rooted ds) ≡ Some e.1)) (λ e. pair_fits (rooted ds) e ≡ true)
      (λ e k. let both = and_parts (is_directory_content (find path_cmp (parent e.0) (rooted ds))
      && fits_content e.1) (has_few ds e) k.0 in
      ap₂ (λ a b. a && b) (and_parts (is_directory_content (find path_cmp (parent e.0) (rooted ds)))
      (fits_content e.1) both.0).1
      (ap (λ n. nat_le n 256) (kids_rooted e.0 ds) ∙ few_of closed e k.1 both.1))
      ds (each-both (λ e. stands_in ds e ≡ true) (λ e. find path_cmp e.0 (rooted ds) ≡ Some e.1) ds
      (each_of (stands_in ds) ds h) found))))

  pub are_entries : AreLawful ds → list_all (stands_in ds) ds ≡ true →
      nat_le (kids [] ds) 256 ≡ true → AreEntries ds
  are_entries lawful h few = record {
    rising = rising;
    tree = lawful_tree (closed_of h) lawful;
    part = fits_of h few;
    paths =
        ap (list_all (λ pair. fits_path pair.0)) (entries-with ds rising)
        ∙ all_of (λ pair. fits_path pair.0) ds
        (each_with IsLawfulPair (λ e. fits_path e.0 ≡ true) (λ e k. path_fits e.0 k.0) ds lawful);
  }

pub below_root : (q : Path) → path_cmp root q ≡ Less → is_root q ≡ false
below_root [] h = absurd (true≢false (sym (ap is_lt h)))
below_root (n ∷ q) h = refl

any_few : (b few : Bool) → few ≡ true → (not b || few) ≡ true
any_few true few h = h
any_few false few h = refl

-- a lawful whole passes
pub entries_stand : (ds : Pairs) → AreEntries ds →
    (list_all (stands_in ds) ds ≡ true) × (nat_le (kids [] ds) 256 ≡ true)
entries_stand ds h =
    let rising = rising_of (rooted ds) h.rising in
    let found = (each_found (rooted ds) rising).1 in
    let fits = each_of (pair_fits (rooted ds)) (rooted ds) (ap (λ es. list_all (pair_fits es) es)
    (sym (entries-with ds h.rising)) ∙ (sym (part-pairs (tree_with ds)) ∙ h.part)) in
    let here = each-both (λ e. path_cmp root e.0 ≡ Less) (λ e.
    (find path_cmp e.0 (rooted ds) ≡ Some e.1) × (pair_fits (rooted ds) e ≡ true)) ds rising.0
    (each-both (λ e. find path_cmp e.0 (rooted ds) ≡ Some e.1)
    (λ e. pair_fits (rooted ds) e ≡ true) ds found fits.1) in (
      all_of (stands_in ds) ds (each_with (λ e. (path_cmp root e.0 ≡ Less)
          × ((find path_cmp e.0 (rooted ds) ≡ Some e.1) × (pair_fits (rooted ds) e ≡ true)))
          (λ e. stands_in ds e ≡ true) (λ e k. one e k.0 k.1.0 k.1.1) ds here),
      sym (ap (λ n. nat_le n 256) (kids_rooted [] ds))
          ∙ (and_parts true (nat_le (kids [] (rooted ds)) 256) fits.0).1,
    )
  where
    one : (e : Pair) → path_cmp root e.0 ≡ Less → find path_cmp e.0 (rooted ds) ≡ Some e.1 →
        pair_fits (rooted ds) e ≡ true → stands_in ds e ≡ true
    one e low there fit =
        let split = child_is (parent e.0) e.0 (child_of_parent e.0 (below_root e.0 low)) in
        let some : IsSome (get (tree_with ds) (parent e.0 ++ split.0 ∷ [])) =
        ap is_some (ap (get (tree_with ds)) (sym split.1) ∙ (get-with ds e.0 h.rising ∙ there)) in
        let up = sym (get-with ds (parent e.0) h.rising)
        ∙ h.tree.part.parents (parent e.0) split.0 [] some in
        let both = and_parts (fits_content e.1) (nat_le (kids e.0 (rooted ds)) 256) fit in
        ap₂ (λ a b. a && b) (ap₂ (λ a b. a && b) (ap is_directory_content up) both.0)
        (any_few (is_directory_content (Some e.1)) (nat_le (kids e.0 ds) 256)
        (sym (ap (λ n. nat_le n 256) (kids_rooted e.0 ds)) ∙ both.1))
