-- What is below a path, without the path.
use Rattle.std.proofs.Common.{◌≡◌, ◌≤◌, ◌<◌, ◌+◌, ℕ, suc, Bool, true, false, cond, not, ◌&&◌, ◌==◌}
use Rattle.std.proofs.Common.{nat_le, if◌then◌else◌, List, [], ◌∷◌, ◌++◌, filter, length}
use Rattle.std.proofs.Common.{length-append, take, drop, refl, sym, ap, ap₂, ◌∙◌, subst, Option}
use Rattle.std.proofs.Common.{Some, None, is_some, IsSome, slice_index_or, All, is_lt, append-nil}
use Rattle.std.proofs.Common.{true≢false, arith}
use Rattle.std.specs.Prelude.{option_map, option_and_then, flat_map}
use Rattle.std.specs.List.{cons_option}
use Rattle.std.specs.FinMap.{entries, get, get-entries, get-empty, find, len}
use Rattle.std.proofs.Math.Seq.{drop-append_seam}
use Rattle.std.proofs.lemmas.Bool.{and_parts}
use Rattle.std.proofs.lemmas.Bool.Decides.{nat_tests}
use Rattle.std.proofs.lemmas.Grind.{flat_map-append}
use Rattle.std.proofs.lemmas.List.{take_more}
use Rattle.std.proofs.lemmas.List.Elements.{filter_map-append, All-drop}
use Rattle.syn_model.specs.Path.{Name, Path, IsName, IsPath, path_cmp, root, is_root, strip_prefix}
use Rattle.syn_model.specs.Path.{is_prefix, path_spelling}
use Rattle.syn_model.specs.Contents.{Contents}
use Rattle.syn_model.specs.Tree.{Tree, Content, Pair, Directory, File, HasParents, IsTree}
use Rattle.syn_model.specs.Tree.{absent, at_root, subtree, is_directory_content}
use Rattle.syn_model.proofs.HistoryLemmas.{get-at_root}
use Rattle.std.specs.Ordering.{eq_by_cmp}
use Rattle.std.proofs.lemmas.Option.{none-some, same_Some}
use Rattle.syn_model.specs.Limits.{fits_part, fits_paths, fits_replica}
use Rattle.syn_model.specs.Limits.{greatest_spelling, tree_spelling_length}
use Rattle.syn_model.proofs.PathLemmas.{strip_prefix-append, is_prefix-is, not_root}
use Rattle.syn_model.proofs.TreeLemmas.{same_tree, get-subtree}
use Rattle.syn_placed.specs.Pairs.{Pairs, rooted, tree_with}
use Rattle.syn_tree.specs.Lists.{below_off, stripped}
use Rattle.syn_tree.specs.Entries.{AreEntries}
use Rattle.syn_tree.specs.inner.Kept.{IsKept}
use Rattle.syn_placed.proofs.RisingLemmas.{Rising, After}
use Rattle.syn_placed.proofs.TreeLemmas.{taken, rising-taken, rising-entries}
use Rattle.syn_placed.proofs.TreeLemmas.{entries-subtree, entries-with}
use Rattle.syn_placed.proofs.CountLemmas.{no_root}
use Rattle.syn_tree.proofs.PartLemmas.{subtree-parents}
use Rattle.syn_tree.proofs.WholeLemmas.{whole_rising, whole_tree}
use Rattle.syn_model.proofs.SubtreeLemmas.{subtree-fits_paths, subtree-fits}

-- a path with a prefix, and the rest
pub prefix_rest : (at x : Path) → is_prefix at x ≡ true →
    strip_prefix at x ≡ Some (drop (length at) x)
prefix_rest at x h =
    let r = is_prefix-is at x h in
    ap (strip_prefix at) r.1 ∙ (strip_prefix-append at r.0
    ∙ ap (λ q. Some q) (sym (ap (drop (length at)) r.1 ∙ drop-append_seam at r.0)))

pub prefix_whole : (at x : Path) → is_prefix at x ≡ true → x ≡ at ++ drop (length at) x
prefix_whole at x h =
    let r = is_prefix-is at x h in
    r.1 ∙ ap (λ q. at ++ q) (sym (ap (drop (length at)) r.1 ∙ drop-append_seam at r.0))

suc_not : (n : ℕ) → (suc n == 0) ≡ false
suc_not n = grind (arith, nat_tests)

root_of : (q : Path) → (length q == 0) ≡ true → is_root q ≡ true
root_of [] h = refl
root_of (n ∷ q) h = absurd (true≢false (sym h ∙ suc_not (length q)))

pub strip_itself : (at : Path) (x : Pair) → is_prefix at x.0 ≡ true →
    (length (drop (length at) x.0) == 0) ≡ true → stripped at (x ∷ []) ≡ []
strip_itself at x h k =
    ap (λ o. cons_option (option_and_then
    (λ rest. if is_root rest then None else Some (rest, x.1)) o) []) (prefix_rest at x.0 h)
    ∙ ap (λ b. cons_option (if b then None else Some (drop (length at) x.0, x.1)) [])
    (root_of (drop (length at) x.0) k)

pub strip_below : (at : Path) (x : Pair) → is_prefix at x.0 ≡ true →
    (length (drop (length at) x.0) == 0) ≡ false →
    stripped at (x ∷ []) ≡ (drop (length at) x.0, x.1) ∷ []
strip_below at x h k =
    ap (λ o. cons_option (option_and_then
    (λ rest. if is_root rest then None else Some (rest, x.1)) o) []) (prefix_rest at x.0 h)
    ∙ ap (λ b. cons_option (if b then None else Some (drop (length at) x.0, x.1)) [])
    (not_root (drop (length at) x.0) k)

pub strip_more : (at : Path) (list : Pairs) (i : ℕ) (x : Pair) → i < length list →
    x ≡ slice_index_or list i x →
    stripped at (take (i + 1) list) ≡ stripped at (take i list) ++ stripped at (x ∷ [])
strip_more at list i x l is =
    ap (stripped at) (take_more list i x l ∙ ap (λ y. take i list ++ y ∷ []) (sym is))
    ∙ filter_map-append (below_off at) (take i list) (x ∷ [])

-- a rest of a lawful path is lawful
names_after : (p q : Path) → All IsName (p ++ q) → All IsName q
names_after p q h =
    subst (All IsName) (drop-append_seam p q) (All-drop IsName (length p) (p ++ q) h)

spelling_after : (p q : Path) → length (path_spelling q) ≤ length (path_spelling (p ++ q))
spelling_after p q =
    let f : Name → List ℕ = λ name. length name ∷ name in
    let parts = ap length (flat_map-append f p q) in
    let sizes = length-append (flat_map f p) (flat_map f q) in
    omega (arith, parts, sizes)

pub rest_lawful : (p q : Path) → IsPath (p ++ q) → IsPath q
rest_lawful p q h = record {
  names = names_after p q h.names;
  not_deep = omega (arith, h.not_deep, length-append p q);
  not_long = omega (arith, h.not_long, spelling_after p q);
}

subtree_tree : (t : Tree) (at : Path) → IsTree t → get t at ≡ Some Directory → IsTree (subtree t at)
subtree_tree t at tree dir = record {
  rooted = get-subtree t at root ∙ (ap (get t) (append-nil at) ∙ dir);
  part = record {
    parents = subtree-parents t at tree.part.parents;
    names =
        λ p h. names_after at p (tree.part.names (at ++ p) (subst IsSome (get-subtree t at p) h));
    lawful = λ p contents h. tree.part.lawful (at ++ p) contents (sym (get-subtree t at p) ∙ h);
  };
}

-- below the root of the part
strip_taken : (at : Path) (es : Pairs) →
    stripped at es ≡ filter (λ e. not (is_root e.0)) (taken at es)
strip_taken at [] = refl
strip_taken at (e ∷ es) = by_rest (strip_prefix at e.0) (strip_taken at es)
  where
    by_rest : (o : Option Path) → stripped at es ≡ filter (λ e. not (is_root e.0)) (taken at es) →
        cons_option (option_and_then (λ rest. if is_root rest then None else Some (rest, e.1)) o)
        (stripped at es) ≡ filter (λ e. not (is_root e.0))
        (cons_option (option_map (λ rest. (rest, e.1)) o) (taken at es))
    by_rest None rest = rest
    by_rest (Some []) rest = rest
    by_rest (Some (n ∷ r)) rest = ap (λ xs. (n ∷ r, e.1) ∷ xs) rest

all_below : (es : Pairs) → After root es → filter (λ e. not (is_root e.0)) es ≡ es
all_below [] h = refl
all_below (([], c) ∷ es) h = absurd (true≢false (sym (ap is_lt h.0)))
all_below ((n ∷ r, c) ∷ es) h = ap (λ xs. (n ∷ r, c) ∷ xs) (all_below es h.1)

root_first : (c : Content) (es : Pairs) → Rising es → find path_cmp root es ≡ Some c →
    (root, c) ∷ filter (λ e. not (is_root e.0)) es ≡ es
root_first c [] h e = absurd (none-some _ e)
root_first c (([], d) ∷ es) h e =
    ap₂ (λ (x : Content) xs. (root, x) ∷ xs) (sym (same_Some _ _ e)) (all_below es h.0)
root_first c ((n ∷ r, d) ∷ es) h e = absurd (none-some _ (sym (no_root n r es h.0) ∙ e))

-- what stands at a path, and the entries below it, are those of the part there
pub stripped_part : (t : Tree) (at : Path) (c : Content) → get t at ≡ Some c →
    (root, c) ∷ stripped at (entries t) ≡ entries (subtree t at)
stripped_part t at c here =
    let es = entries t in
    let found = ap (find path_cmp root) (sym (entries-subtree t at))
    ∙ (sym (get-entries (subtree t at) root)
    ∙ (get-subtree t at root ∙ (ap (get t) (append-nil at) ∙ here))) in
    ap (λ xs. (root, c) ∷ xs) (strip_taken at es)
    ∙ (root_first c (taken at es) (rising-taken at es (rising-entries t)) found
    ∙ sym (entries-subtree t at))

-- the entries below a directory are those of its subtree
pub stripped_entries : (t : Tree) (at : Path) (ds copies : Pairs) → entries t ≡ rooted ds →
    get t at ≡ Some Directory → copies ≡ stripped at ds → rooted copies ≡ entries (subtree t at)
stripped_entries t at ds copies all dir e =
    ap rooted (e ∙ (sym (root_stripped at ds) ∙ ap (stripped at) (sym all)))
    ∙ stripped_part t at Directory dir
  where
    root_stripped : (at : Path) (ds : Pairs) → stripped at (rooted ds) ≡ stripped at ds
    root_stripped [] ds = refl
    root_stripped (n ∷ at) ds = refl

pub stripped_lawful : (t : Tree) (at : Path) (ds copies : Pairs) → entries t ≡ rooted ds →
    IsTree t → fits_part t ≡ true → fits_paths t ≡ true → get t at ≡ Some Directory →
    copies ≡ stripped at ds → AreEntries copies
stripped_lawful t at ds copies all tree part paths dir e =
    let u = subtree t at in
    let whole = stripped_entries t at ds copies all dir e in
    let same = whole_tree u copies whole in
    record {
      rising = whole_rising u copies whole;
      tree = subst IsTree (sym same) (subtree_tree t at tree dir);
      part = ap fits_part same ∙ subtree-fits t at part;
      paths = ap fits_paths same ∙ subtree-fits_paths t at paths;
    }

-- what is copied of a list below a directory of its tree
module _ (ds : Pairs) (s cap : ℕ) (t : Tree) (at : Path) (copies : Pairs) (kept : IsKept ds s cap)
    (is : tree_with ds ≡ t) (dir : get t at ≡ Some Directory) (copied : copies ≡ stripped at ds)
  where
    all : entries t ≡ rooted ds
    all = ap entries (sym is) ∙ entries-with ds kept.rising

    pub copies_whole : rooted copies ≡ entries (subtree t at)
    copies_whole = stripped_entries t at ds copies all dir copied

    pub copies_lawful : AreEntries copies
    copies_lawful =
        let fits = ap fits_replica (sym is) ∙ kept.fits in
        let whole = and_parts (nat_le (len t) 1024 && nat_le (tree_spelling_length t)
        greatest_spelling && fits_part t) (fits_paths t) fits in
        let part = and_parts (nat_le (len t) 1024 && nat_le (tree_spelling_length t)
        greatest_spelling) (fits_part t) whole.0 in
        stripped_lawful t at ds copies all (subst IsTree is kept.tree) part.1 whole.1 dir copied

none_of : (o : Option Content) → is_some o ≡ false → o ≡ None
none_of None h = refl
none_of (Some c) h = absurd (true≢false h)

-- nothing stands below a path where no directory is
nothing_below : (t : Tree) (at : Path) (n : Name) (r : Path) → HasParents t →
    is_directory_content (get t at) ≡ false → get t (at ++ n ∷ r) ≡ None
nothing_below t at n r parents other =
    none_of (get t (at ++ n ∷ r)) (by_case (is_some (get t (at ++ n ∷ r))) refl)
  where
    by_case : (b : Bool) → is_some (get t (at ++ n ∷ r)) ≡ b → b ≡ false
    by_case true e = absurd (true≢false (sym (ap is_directory_content (parents at n r e)) ∙ other))
    by_case false e = refl

pub subtree_none : (t : Tree) (at : Path) → HasParents t → get t at ≡ None → absent ≡ subtree t at
subtree_none t at parents none =
    same_tree absent (subtree t at)
    (λ q. get-empty path_cmp q ∙ sym (get-subtree t at q ∙ by_path q))
  where
    by_path : (q : Path) → get t (at ++ q) ≡ None
    by_path [] = ap (get t) (append-nil at) ∙ none
    by_path (n ∷ r) = nothing_below t at n r parents (ap is_directory_content none)

pub subtree_file : (t : Tree) (at : Path) (contents : Contents) → HasParents t →
    get t at ≡ Some (File contents) → at_root (File contents) ≡ subtree t at
subtree_file t at contents parents here =
    same_tree (at_root (File contents)) (subtree t at)
    (λ q. get-at_root (File contents) q ∙ (by_path q ∙ sym (get-subtree t at q)))
  where
    by_path : (q : Path) →
        cond (eq_by_cmp path_cmp q root) (Some (File contents)) None ≡ get t (at ++ q)
    by_path [] = sym (ap (get t) (append-nil at) ∙ here)
    by_path (n ∷ r) = sym (nothing_below t at n r parents (ap is_directory_content here))
