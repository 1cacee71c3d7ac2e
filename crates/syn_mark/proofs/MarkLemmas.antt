-- Lists of marks, and the trees that they are.
use Rattle.std.proofs.Common.{◌≡◌, ◌≤◌, ℕ, suc, true, false, cond, ◌&&◌, nat_le, List}
use Rattle.std.proofs.Common.{[], ◌∷◌, ◌++◌, length, refl, sym, ap, ap₂, ◌∙◌, subst, Option, Some}
use Rattle.std.proofs.Common.{None, option_map, is_some, append-nil, arith}
use Rattle.std.specs.Ordering.{eq_by_cmp}
use Rattle.std.specs.List.{list_all, cons_option}
use Rattle.std.specs.Prelude.{filter_map, option_and_then}
use Rattle.std.specs.FinMap.{find, entries, get, len, len-entries, from_sorted, get-from_entries}
use Rattle.std.proofs.lemmas.Bool.{and_parts}
use Rattle.std.proofs.lemmas.Bool.Decides.{nat_tests}
use Rattle.std.proofs.lemmas.List.{map-append}
use Rattle.syn_model.specs.Path.{Name, Path, path_cmp, root, strip_prefix}
use Rattle.syn_model.specs.Contents.{Contents, IsDigest}
use Rattle.syn_model.specs.Tree.{Tree, Content, Pair, File, IsPart, at_root, is_present, subtree}
use Rattle.syn_model.specs.Mark.{mark, mark_of, IsMarks}
use Rattle.syn_model.specs.Limits.{children, only_name, fits_archive, fits_path, fits_paths}
use Rattle.syn_model.proofs.PathLemmas.{path_total}
use Rattle.syn_model.proofs.TreeLemmas.{same_tree, get-subtree}
use Rattle.syn_model.proofs.HistoryLemmas.{get-at_root, at_root-is_part, only}
use Rattle.syn_model.proofs.MarkLemmas.{get-mark, mark-digests, mark-is_part, some_mapped}
use Rattle.syn_model.proofs.SubtreeLemmas.{subtree-is_part, subtree-fits_paths}
use Rattle.syn_placed.specs.Pairs.{Pairs, AreRising}
use Rattle.syn_placed.proofs.RisingLemmas.{Rising, After, rising_of, are_rising, counted}
use Rattle.syn_placed.proofs.TreeLemmas.{entries-rising, get-rising, rising-entries}
use Rattle.syn_placed.proofs.TreeLemmas.{from_entries-same, entries-subtree}
use Rattle.syn_placed.proofs.TreeLemmas.{within-taken}
use Rattle.syn_tree.proofs.PartLemmas.{length_under}
use Rattle.syn_tree.specs.Contents.{found_content}
use Rattle.syn_tree.specs.declared.content.Found.{Found}
use Rattle.syn_tree.specs.Lists.{contents_at}
use Rattle.syn_mark.specs.declared.mark.Mark.{Mark}
use Rattle.syn_mark.specs.Marks.{content_of, contents_in, marks_with, AreMarks, IsDigestOrDirectory}
use Rattle.syn_mark.specs.Placings.{marked, marks_of}
use Rattle.syn_model.proofs.RowLemmas.{entries-at_root}

-- ---- a list of marks

pub entries_of : (ds : Pairs) → AreMarks ds → entries (marks_with ds) ≡ ds
entries_of ds h = entries-rising ds (rising_of ds h.rising)

-- the list of the marks of which it is the view
pub entries_are : (ds : Pairs) (t : Tree) → AreMarks ds → marks_with ds ≡ t → ds ≡ entries t
entries_are ds t h is = sym (entries_of ds h) ∙ ap entries is

pub get_of : (ds : Pairs) (q : Path) → AreMarks ds → get (marks_with ds) q ≡ find path_cmp q ds
get_of ds q h = get-rising ds q (rising_of ds h.rising)

pub marks_same : (t : Tree) (ds : Pairs) → ds ≡ entries t → marks_with ds ≡ t
marks_same t ds e = ap (λ es. from_sorted {R = path_cmp} es) e ∙ from_entries-same t

-- the list of a tree that is marks
pub are_marks : (t : Tree) (ds : Pairs) → ds ≡ entries t → is_present t root ≡ true → IsMarks t →
    fits_archive t ≡ true → AreMarks ds
are_marks t ds e present marks fits =
    let same = marks_same t ds e in
    record {
      rising = subst AreRising (sym e) (are_rising (entries t) (rising-entries t));
      present = ap (λ u. is_present u root) same ∙ present;
      marks = subst IsMarks (sym same) marks;
      fits = ap fits_archive same ∙ fits;
    }

-- ---- one mark

lawful_bytes : (c : Content) → IsDigestOrDirectory c → (contents : Contents) → c ≡ File contents →
    IsDigest contents
lawful_bytes c h contents e = subst IsDigestOrDirectory e h

pub one_marks : (c : Content) → IsDigestOrDirectory c → IsMarks (at_root c)
one_marks c h = record {
  part = at_root-is_part c (λ contents e. (lawful_bytes c h contents e).0);
  digests = λ path contents found. (lawful_bytes c h contents (only c path contents found)).1;
}

pub one_present : (c : Content) → is_present (at_root c) root ≡ true
one_present c = ap is_some (get-at_root c root)

pub one_fits : (c : Content) → fits_archive (at_root c) ≡ true
one_fits c =
    ap₂ (λ n es. nat_le n 4096 && list_all (λ (pair : Pair). fits_path pair.0) es)
    (len-entries (at_root c) ∙ ap length (entries-at_root c)) (entries-at_root c)

pub one_entries : (c : Content) → (root, c) ∷ [] ≡ entries (at_root c)
one_entries c = sym (entries-at_root c)

-- ---- the part at a path

fewer : (m n : ℕ) → m ≤ n → nat_le n 4096 ≡ true → nat_le m 4096 ≡ true
fewer m n h k = grind (arith, nat_tests)

part_length : (t : Tree) (at : Path) → len (subtree t at) ≤ len t
part_length t at =
    let es = entries t in
    omega (
      arith,
      len-entries t,
      len-entries (subtree t at),
      ap length (entries-subtree t at),
      sym
          (length_under at _) ∙ sym (ap length (within-taken at es)),
      counted at es (rising-entries t),
    )

pub part_marks : (t : Tree) (at : Path) → IsMarks t → IsMarks (subtree t at)
part_marks t at h = record {
  part = subtree-is_part t at h.part;
  digests =
      λ path contents found. h.digests (at ++ path) contents (sym (get-subtree t at path) ∙ found);
}

pub part_fits : (t : Tree) (at : Path) → fits_archive t ≡ true → fits_archive (subtree t at) ≡ true
part_fits t at h =
    let both = and_parts (nat_le (len t) 4096) (fits_paths t) h in
    ap₂ (λ a b. a && b) (fewer (len (subtree t at)) (len t) (part_length t at) both.0)
    (subtree-fits_paths t at both.1)

-- ---- the marks of a tree

after-marked : (p : Path) (es : Pairs) → After p es → After p (marked es)
after-marked p [] h = tt
after-marked p (e ∷ es) h = (h.0, after-marked p es h.1)

rising-marked : (es : Pairs) → Rising es → Rising (marked es)
rising-marked [] h = tt
rising-marked (e ∷ es) h = (after-marked e.0 es h.0, rising-marked es h.1)

pub entries-mark : (t : Tree) → entries (mark t) ≡ marked (entries t)
unfolding mark
entries-mark t =
    let rising = rising-marked (entries t) (rising-entries t) in
    ap entries (same_tree (mark t) (marks_with (marked (entries t))) (λ q. get-from_entries
    path_total (marked (entries t)) q ∙ sym (get-rising (marked (entries t)) q rising)))
    ∙ entries-rising (marked (entries t)) rising

pub mark_is_marks : (t : Tree) → IsPart t → IsMarks (mark t)
mark_is_marks t h = record {
  part = mark-is_part t h;
  digests = mark-digests t;
}

pub mark_present : (t : Tree) → is_present t root ≡ true → is_present (mark t) root ≡ true
mark_present t h = ap is_some (get-mark t root) ∙ (some_mapped (get t root) ∙ h)

length_marked : (es : Pairs) → length (marked es) ≡ length es
length_marked [] = refl
length_marked (e ∷ es) = ap suc (length_marked es)

paths_marked : (es : Pairs) → list_all (λ (pair : Pair). fits_path pair.0) (marked es)
    ≡ list_all (λ pair. fits_path pair.0) es
paths_marked [] = refl
paths_marked (e ∷ es) = ap (λ b. fits_path e.0 && b) (paths_marked es)

few : (n : ℕ) → n ≤ 4096 → nat_le n 4096 ≡ true
few n h = grind (arith, nat_tests)

pub mark_fits : (t : Tree) → len t ≤ 4096 → fits_paths t ≡ true → fits_archive (mark t) ≡ true
mark_fits t count paths =
    ap₂ (λ a b. a && b)
    (ap (λ n. nat_le n 4096) (len-entries (mark t) ∙ (ap length (entries-mark t)
    ∙ (length_marked (entries t) ∙ sym (len-entries t)))) ∙ few (len t) count)
    (ap (list_all (λ (pair : Pair). fits_path pair.0)) (entries-mark t)
    ∙ (paths_marked (entries t) ∙ paths))

-- the mark of one content
pub mark_one : (c : Content) → at_root (mark_of c) ≡ mark (at_root c)
mark_one c =
    same_tree (at_root (mark_of c)) (mark (at_root c)) (λ q. get-at_root (mark_of c) q ∙ (chosen q
    ∙ (ap (option_map mark_of) (sym (get-at_root c q)) ∙ sym (get-mark (at_root c) q))))
  where
    chosen : (q : Path) → cond (eq_by_cmp path_cmp q root) (Some (mark_of c)) None
        ≡ option_map mark_of (cond (eq_by_cmp path_cmp q root) (Some c) None)
    chosen q =
        elim (eq_by_cmp path_cmp q root)
        as (λ b. cond b (Some (mark_of c)) None ≡ option_map mark_of (cond b (Some c) None))
        [ true ↦ refl | false ↦ refl ]

pub part_present : (t : Tree) (at : Path) (c : Content) → get t at ≡ Some c →
    is_present (subtree t at) root ≡ true
part_present t at c here = ap is_some (get-subtree t at root ∙ (ap (get t) (append-nil at) ∙ here))

-- the marks in a directory are those of what is in it
marks_in : (path : Path) (es : Pairs) → marks_of (filter_map {Y = Name × Content} (λ pair.
    option_map (λ name. (name, pair.1)) (option_and_then only_name (strip_prefix path pair.0))) es)
    ≡ filter_map {Y = Name × Content} (λ pair. option_map (λ name. (name, pair.1))
    (option_and_then only_name (strip_prefix path pair.0))) (marked es)
marks_in path [] = refl
marks_in path (e ∷ es) = one (option_and_then only_name (strip_prefix path e.0)) (marks_in path es)
  where
    one : (o : Option Name) → marks_of (filter_map {Y = Name × Content} (λ pair. option_map
        (λ name. (name, pair.1)) (option_and_then only_name (strip_prefix path pair.0))) es)
        ≡ filter_map {Y = Name × Content} (λ pair. option_map (λ name. (name, pair.1))
        (option_and_then only_name (strip_prefix path pair.0))) (marked es) → marks_of (cons_option
        (option_map (λ name. (name, e.1)) o) (filter_map {Y = Name × Content} (λ pair. option_map
        (λ name. (name, pair.1)) (option_and_then only_name (strip_prefix path pair.0))) es))
        ≡ cons_option (option_map (λ name. (name, mark_of e.1)) o)
        (filter_map {Y = Name × Content} (λ pair. option_map (λ name. (name, pair.1))
        (option_and_then only_name (strip_prefix path pair.0))) (marked es))
    one None rest = rest
    one (Some n) rest = ap (λ xs. (n, mark_of e.1) ∷ xs) rest

pub children-mark : (t : Tree) (path : Path) → marks_of (children t path) ≡ children (mark t) path
children-mark t path =
    marks_in path (entries t)
    ∙ ap (λ es. filter_map {Y = Name × Content} (λ pair. option_map (λ name. (name, pair.1))
    (option_and_then only_name (strip_prefix path pair.0))) es) (sym (entries-mark t))

-- one child more has one mark more
pub marks-more : (listed : List (Name × Mark)) (read : List (Name × Found)) (x : Name × Found)
    (m : Mark) → contents_in listed ≡ marks_of (contents_at read) →
    content_of m ≡ mark_of (found_content x.1) →
    contents_in (listed ++ (x.0, m) ∷ []) ≡ marks_of (contents_at (read ++ x ∷ []))
marks-more listed read x m so_far is =
    map-append (λ (entry : Name × Mark). (entry.0, content_of entry.1)) listed ((x.0, m) ∷ [])
    ∙ (ap₂ (λ xs c. xs ++ (x.0, c) ∷ []) so_far is
    ∙ sym (ap marks_of
    (map-append (λ (child : Name × Found). (child.0, found_content child.1)) read (x ∷ []))
    ∙ map-append (λ (child : Name × Content). (child.0, mark_of child.1)) (contents_at read)
    ((x.0, found_content x.1) ∷ [])))
