-- What stands in a directory of a history is a listing that can be sent.
use Rattle.sha2.proofs.Facts256.{length-sha256}
use Rattle.std.proofs.Common.{◌≡◌, ◌∙◌, ◌+◌, ◌≤◌, ℕ, zero, suc, Bool, true, false, ◌&&◌}
use Rattle.std.proofs.Common.{List, [], ◌∷◌, ◌++◌, Option, Some, None, T, Less, ap}
use Rattle.std.proofs.Common.{ap₂, arith, cond, is_eq, IsSome, length, map, nat_le, refl}
use Rattle.std.proofs.Common.{option_map, subst, sym}
use Rattle.std.proofs.lemmas.Bool.{and_parts}
use Rattle.std.proofs.lemmas.Bool.Decides.{nat_tests}
use Rattle.std.proofs.lemmas.List.Elements.{All-cons, All-head, All-nil, All-tail}
use Rattle.std.proofs.lemmas.Option.{none-some, same_Some}
use Rattle.std.specs.Cmp.{tied_itself}
use Rattle.std.specs.FinMap.{entries, entries_sorted, find, get-entries}
use Rattle.std.specs.FinMap.Entries.{below_all, is_sorted, same_entries}
use Rattle.std.specs.List.{cons_option, list_all, slice_index_or}
use Rattle.std.specs.Ordering.{eq_by_cmp, is_lt, ordering_reverse}
use Rattle.std.specs.Prelude.{All, if◌then◌else◌, option_and_then}
use Rattle.syn_agent.specs.inner.Lawful.{ListsLawfully}
use Rattle.syn_mark.specs.Marks.{IsDigestOrDirectory}
use Rattle.syn_message.specs.Listings.{AreRising, IsEntry, IsListing}
use Rattle.syn_model.proofs.SyncLemmas.{directory_is}
use Rattle.syn_model.specs.Laws.{MarkHas}
use Rattle.syn_model.specs.Limits.{children, fits_content, fits_part, fits_paths, greatest_spelling}
use Rattle.syn_model.specs.Limits.{fits_replica, only_name, tree_spelling_length}
use Rattle.syn_model.specs.Mark.{mark, mark_of}
use Rattle.syn_model.specs.Path.{IsName, Name, Path, name_cmp, path_cmp, strip_prefix}
use Rattle.syn_model.specs.Tree.{Content, Directory, File, IsPart, IsTree, Pair, Tree, is_directory}
use Rattle.std.specs.FinMap.{get, len}
use Rattle.syn_model.proofs.ContentsLemmas.{digest_is_bytes}
use Rattle.syn_tree.specs.Contents.{IsLawful}
use Rattle.syn_model.proofs.BaseLemmas.{both_hold, equal_of, is_true, less_of}
use Rattle.syn_model.proofs.ChildrenLemmas.{Row, rise_rows, row, row_is, rows}
use Rattle.syn_model.proofs.PathLemmas.{path_exact, path_total}

-- Names rise

rising : (found : List Row) → T (is_sorted name_cmp found) → AreRising found
rising [] h k d within = absurd (omega arith)
rising (one ∷ []) h k d within = absurd (omega arith)
rising (one ∷ next ∷ others) h zero d within =
    let below = both_hold (below_all name_cmp one.0 (next ∷ others))
    (is_sorted name_cmp (next ∷ others)) h in
    less_of (name_cmp one.0 next.0) (is_true _ (both_hold (is_lt (name_cmp one.0 next.0))
    (below_all name_cmp one.0 others) below.0).0)
rising (one ∷ next ∷ others) h (suc k) d within =
    let step : suc k + 1 ≡ suc (k + 1) = omega arith in
    let rest = both_hold (below_all name_cmp one.0 (next ∷ others))
    (is_sorted name_cmp (next ∷ others)) h in
    subst (λ j. name_cmp (slice_index_or (next ∷ others) k d).0
    (slice_index_or (one ∷ next ∷ others) j d).0 ≡ Less) (sym step)
    (rising (next ∷ others) rest.1 k d (omega arith))

-- The pairs of marks

abbrev marked : List Pair → List Pair
marked pairs = map (λ pair. (pair.0, mark_of pair.1)) pairs

below_marked : (at : Path) (pairs : List Pair)
    → below_all path_cmp at (marked pairs) ≡ below_all path_cmp at pairs
below_marked at [] = refl
below_marked at (pair ∷ pairs) =
    ap (λ b. is_lt (path_cmp at pair.0) && b) (below_marked at pairs)

sorted_marked : (pairs : List Pair)
    → is_sorted path_cmp (marked pairs) ≡ is_sorted path_cmp pairs
sorted_marked [] = refl
sorted_marked (pair ∷ pairs) =
    ap₂ (λ a b. a && b) (below_marked pair.0 pairs) (sorted_marked pairs)

find_marked : (at : Path) (pairs : List Pair)
    → find path_cmp at (marked pairs) ≡ option_map mark_of (find path_cmp at pairs)
find_marked at [] = refl
find_marked at (pair ∷ pairs) =
    elim (eq_by_cmp path_cmp at pair.0) as (λ b.
    cond b (Some (mark_of pair.1)) (find path_cmp at (marked pairs))
    ≡ option_map mark_of (cond b (Some pair.1) (find path_cmp at pairs)))
    [ true ↦ refl | false ↦ find_marked at pairs ]

in_order : (tree : Tree) → T (is_sorted path_cmp (marked (entries tree)))
in_order tree = subst T (sym (sorted_marked (entries tree))) (entries_sorted tree)

entries_mark : MarkHas → (tree : Tree) → entries (mark tree) ≡ marked (entries tree)
entries_mark has tree =
    same_entries path_cmp path_total path_exact (entries (mark tree)) (marked (entries tree))
    (entries_sorted (mark tree)) (in_order tree)
    (λ at. sym (get-entries (mark tree) at) ∙ (has tree at
    ∙ (ap (option_map mark_of) (get-entries tree at) ∙ sym (find_marked at (entries tree)))))

-- As many as there are without marks

length_marked : (path : Path) (pairs : List Pair)
    → length (rows path (marked pairs)) ≡ length (rows path pairs)
length_marked path [] = refl
length_marked path (pair ∷ pairs) =
    by (option_and_then only_name (strip_prefix path pair.0)) (length_marked path pairs)
  where
    by : (o : Option Name) → length (rows path (marked pairs)) ≡ length (rows path pairs)
        → length (cons_option (option_map (λ name. (name, mark_of pair.1)) o)
        (rows path (marked pairs)))
        ≡ length (cons_option (option_map (λ name. (name, pair.1)) o) (rows path pairs))
    by None same = same
    by (Some name) same = ap suc same

-- what each pair passes passes where a content is found
found_passes : (test : Pair → Bool) (at : Path) (content : Content) (pairs : List Pair)
    → find path_cmp at pairs ≡ Some content → list_all test pairs ≡ true
    → test (at, content) ≡ true
found_passes test at content [] is all = absurd (none-some _ is)
found_passes test at content (pair ∷ pairs) is all = by (eq_by_cmp path_cmp at pair.0) refl is
    (λ more. found_passes test at content pairs more both.1)
  where
    both : (test pair ≡ true) × (list_all test pairs ≡ true)
    both = and_parts (test pair) (list_all test pairs) all

    by : (b : Bool) → eq_by_cmp path_cmp at pair.0 ≡ b
        → cond b (Some pair.1) (find path_cmp at pairs) ≡ Some content
        → (find path_cmp at pairs ≡ Some content → test (at, content) ≡ true)
        → test (at, content) ≡ true
    by true same is more = ap₂ (λ p c. test (p, c))
        (path_exact at pair.0 (equal_of (path_cmp at pair.0) same)) (sym (same_Some _ _ is))
        ∙ both.0
    by false same is more = more is

within : (n : ℕ) → nat_le n 256 ≡ true → n ≤ 256
within n is = grind (arith, nat_tests)

few : (tree : Tree) (path : Path) → fits_part tree ≡ true → is_directory tree path ≡ true
    → length (children tree path) ≤ 256
few tree path fits there =
    let test : Pair → Bool = λ pair. fits_content pair.1
    && nat_le (length (children tree pair.0)) 256 in
    let passes = found_passes test path Directory (entries tree)
    (sym (get-entries tree path) ∙ directory_is _ there) fits in
    within (length (children tree path))
    (and_parts (fits_content Directory) (nat_le (length (children tree path)) 256) passes).1

-- Each is a name with a mark

is_digest : (content : Content) → IsLawful content → IsDigestOrDirectory (mark_of content)
is_digest Directory is = tt
is_digest (File contents) is = (
  record { mode = is.mode; bytes = digest_is_bytes contents.bytes },
  length-sha256 contents.bytes,
)

last_name : (path : Path) (name : Name) → All IsName (path ++ name ∷ []) → IsName name
last_name [] name all = All-head IsName name [] all
last_name (first ∷ path) name all =
    last_name path name (All-tail IsName first (path ++ name ∷ []) all)

abbrev Each : (Pair → Type 0) → List Pair → Type 0
Each P [] = Unit {0}
Each P (pair ∷ pairs) = P pair × Each P pairs

each_of : (P Q : Pair → Type 0) → ((pair : Pair) → P pair → Q pair) → (pairs : List Pair)
    → Each P pairs → Each Q pairs
each_of P Q so [] h = tt
each_of P Q so (pair ∷ pairs) h = (so pair h.0, each_of P Q so pairs h.1)

-- a pair is found at its path
abbrev IsAt : List Pair → Pair → Type 0
IsAt pairs pair = find path_cmp pair.0 pairs ≡ Some pair.1

further : (pair other : Pair) (pairs : List Pair) → path_cmp pair.0 other.0 ≡ Less
    → IsAt pairs other → IsAt (pair ∷ pairs) other
further pair other pairs less at =
    ap (λ o. cond (is_eq o) (Some pair.1) (find path_cmp other.0 pairs))
    (path_total.antisymm other.0 pair.0 ∙ ap ordering_reverse less)
    ∙ at

more_at : (pair : Pair) (pairs others : List Pair) → T (below_all path_cmp pair.0 others)
    → Each (IsAt pairs) others → Each (IsAt (pair ∷ pairs)) others
more_at pair pairs [] below h = tt
more_at pair pairs (other ∷ others) below h =
    let both = both_hold (is_lt (path_cmp pair.0 other.0)) (below_all path_cmp pair.0 others) below
    in (
      further pair other pairs (less_of _ (is_true _ both.0)) h.0,
      more_at pair pairs others both.1 h.1,
    )

each_is_at : (pairs : List Pair) → T (is_sorted path_cmp pairs) → Each (IsAt pairs) pairs
each_is_at [] sorted = tt
each_is_at (pair ∷ pairs) sorted =
    let both = both_hold (below_all path_cmp pair.0 pairs) (is_sorted path_cmp pairs) sorted in (
      ap (λ o. cond (is_eq o) (Some pair.1) (find path_cmp pair.0 pairs))
          (tied_itself path_total pair.0),
      more_at pair pairs pairs both.0 (each_is_at pairs both.1),
    )

lawful_at : (tree : Tree) → IsPart tree → (path : Path) (content : Content)
    → get tree path ≡ Some content → IsLawful content
lawful_at tree part path Directory is = tt
lawful_at tree part path (File contents) is = part.lawful path contents is

abbrev IsNamed : Pair → Type 0
IsNamed pair = All IsName pair.0 × IsLawful pair.1

each_row : (path : Path) (pairs : List Pair) → Each IsNamed pairs
    → All IsEntry (rows path (marked pairs))
each_row path [] named = All-nil IsEntry
each_row path (pair ∷ pairs) named =
    by (row path (pair.0, mark_of pair.1)) refl (each_row path pairs named.1)
  where
    by : (o : Option Row) → row path (pair.0, mark_of pair.1) ≡ o
        → All IsEntry (rows path (marked pairs))
        → All IsEntry (cons_option o (rows path (marked pairs)))
    by None at rest = rest
    by (Some found) at rest =
        let is = row_is path (pair.0, mark_of pair.1) found at in
        All-cons IsEntry found (rows path (marked pairs)) (
          last_name path found.0 (subst (λ k. All IsName k) is.0 named.0.0),
          subst IsDigestOrDirectory is.1 (is_digest pair.1 named.0.1),
        ) rest

-- All three of a directory

listed : MarkHas → (tree : Tree) → IsPart tree → fits_part tree ≡ true → (path : Path)
    → is_directory tree path ≡ true → IsListing (children (mark tree) path)
listed has tree part fits path there =
    subst (λ pairs. IsListing (rows path pairs)) (sym (entries_mark has tree)) (record {
      few = subst (λ n. n ≤ 256) (sym (length_marked path (entries tree)))
          (few tree path fits there);
      each = each_row path (entries tree) (each_of (IsAt (entries tree)) IsNamed
          (λ pair h. let is = get-entries tree pair.0 ∙ h in (
            part.names pair.0 (subst IsSome (sym is) refl),
            lawful_at tree part pair.0 pair.1 is,
          ))
          (entries tree) (each_is_at (entries tree) (entries_sorted tree)));
      rising = rising (rows path (marked (entries tree)))
          (rise_rows path (marked (entries tree)) (in_order tree));
    })

pub lists_lawfully : MarkHas → (tree : Tree) → IsTree tree → fits_replica tree ≡ true
    → ListsLawfully tree
lists_lawfully has tree is_tree fits path there =
    let limits = and_parts (nat_le (len tree) 1024
    && nat_le (tree_spelling_length tree) greatest_spelling && fits_part tree) (fits_paths tree)
    fits in
    let each = and_parts (nat_le (len tree) 1024
    && nat_le (tree_spelling_length tree) greatest_spelling) (fits_part tree) limits.0 in
    listed has tree is_tree.part each.1 path there
