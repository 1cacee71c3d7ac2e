-- The pairs below a directory fall into those at and below each of its names, one name after the
-- other.
use Rattle.std.proofs.Common.{◌≡◌, ◌⊎◌, inl, inr, Bool, true, false, cond, if◌then◌else◌, List, []}
use Rattle.std.proofs.Common.{◌∷◌, ◌++◌, filter_map, flat_map, refl, sym, ap, ap₂, ◌∙◌, subst}
use Rattle.std.proofs.Common.{Option, Some, None, is_some, IsSome, Ordering, Less, Equal, Greater}
use Rattle.std.proofs.Common.{is_lt, is_eq, true≢false}
use Rattle.std.specs.Prelude.{option_map, option_and_then}
use Rattle.std.specs.Ordering.{eq_by_cmp, ordering_then, ordering_reverse}
use Rattle.std.specs.FinMap.{find, entries, get, get-entries}
use Rattle.syn_model.specs.Path.{Name, Path, name_cmp, path_cmp, root, strip_prefix, is_prefix}
use Rattle.syn_model.specs.Tree.{Tree, Content, Pair, Directory, HasParents, subtree}
use Rattle.syn_model.specs.Limits.{only_name, children}
use Rattle.syn_model.proofs.PathLemmas.{path_total, same_name, same_path, name_itself, path_itself}
use Rattle.syn_placed.specs.Pairs.{Pairs, is_within, within, under}
use Rattle.syn_placed.proofs.OrderLemmas.{not_before, between}
use Rattle.syn_placed.proofs.RisingLemmas.{Rising, After, NoneOf, filter-drops, none_within}
use Rattle.syn_placed.proofs.FindLemmas.{find_after}
use Rattle.syn_placed.proofs.TreeLemmas.{rising-entries, within-taken, entries-subtree, taken}
use Rattle.syn_placed.proofs.FindLemmas.{after_more}
use Rattle.syn_tree.proofs.RootedLemmas.{is_rooted}
use Rattle.syn_model.proofs.BaseLemmas.{each_with}
use Rattle.syn_model.proofs.PathLemmas.{not_less}

-- the names in a directory, of the pairs below it
abbrev pub tops : Pairs → List (Name × Content)
tops es =
    filter_map (λ pair. option_map (λ name. (name, pair.1))
    (option_and_then only_name (strip_prefix root pair.0))) es

abbrev pub groups : Pairs → List (Name × Content) → Pairs
groups es names = flat_map (λ x. within (x.0 ∷ []) es) names

-- ---- paths

abbrev here : Option Path
here = Some root

-- a later path lies not below an earlier one's place
no_prefix : (at p : Path) → path_cmp p at ≡ Less → is_prefix at p ≡ false
no_prefix at p less = elim (is_prefix at p) as (λ b. is_prefix at p ≡ b → b ≡ false) [
  | true ↦ λ is. absurd (true≢false (sym (ap is_lt less) ∙ not_before at p is))
  | false ↦ λ _. refl
] refl

-- what is one name is no longer path
not_longer : (m n k : Name) (q : Path) → eq_by_cmp path_cmp (m ∷ []) (n ∷ k ∷ q) ≡ false
not_longer m n k q =
    elim (name_cmp m n) as (λ o. is_eq (ordering_then o Less) ≡ false)
    [ Less ↦ refl | Equal ↦ refl | Greater ↦ refl ]

-- a name is before all below it
leads : (n k : Name) (q : Path) → path_cmp (n ∷ []) (n ∷ k ∷ q) ≡ Less
leads n k q = ap (λ o. ordering_then o Less) (path_total_first n)
  where
    path_total_first : (n : Name) → name_cmp n n ≡ Equal
    path_total_first n = by_name (name_cmp n n) refl (name_itself n)
      where
        by_name : (o : Ordering) → name_cmp n n ≡ o → is_eq (name_cmp n n) ≡ true →
            name_cmp n n ≡ Equal
        by_name Less e h = absurd (true≢false (sym h ∙ ap is_eq e))
        by_name Equal e h = e
        by_name Greater e h = absurd (true≢false (sym h ∙ ap is_eq e))

-- what is below an earlier name is before a later one
below_less : (n m : Name) (q : Path) → path_cmp (n ∷ []) (m ∷ []) ≡ Less →
    path_cmp (n ∷ q) (m ∷ []) ≡ Less
below_less n m q h = by_name (name_cmp n m) refl h
  where
    by_name : (o : Ordering) → name_cmp n m ≡ o → ordering_then o Equal ≡ Less →
        ordering_then (name_cmp n m) (path_cmp q []) ≡ Less
    by_name Less e k = ap (λ o. ordering_then o (path_cmp q [])) e
    by_name Equal e k = absurd (true≢false (sym (ap is_lt k)))
    by_name Greater e k = absurd (true≢false (sym (ap is_lt k)))

-- ---- groups

other_groups : (e : Pair) (es : Pairs) (names : List (Name × Content)) →
    NoneOf (λ x. is_prefix (x.0 ∷ []) e.0) names → groups (e ∷ es) names ≡ groups es names
other_groups e es [] h = refl
other_groups e es (x ∷ names) h =
    ap₂ (λ b ys. cond b (e ∷ within (x.0 ∷ []) es) (within (x.0 ∷ []) es) ++ ys) h.0
    (other_groups e es names h.1)

-- a pair is in no group of a later name
later_tops : (p : Path) (es : Pairs) → After p es → NoneOf (λ x. is_prefix (x.0 ∷ []) p) (tops es)
later_tops p [] h = tt
later_tops p (([], c) ∷ es) h = later_tops p es h.1
later_tops p ((m ∷ [], c) ∷ es) h = (no_prefix (m ∷ []) p h.0, later_tops p es h.1)
later_tops p ((m ∷ k ∷ q, c) ∷ es) h = later_tops p es h.1

-- a name's own pair leads its group
top_first : (m : Name) (c : Content) (es : Pairs) → After (m ∷ []) es →
    es ≡ within (m ∷ []) es ++ groups es (tops es) →
    (m ∷ [], c) ∷ es ≡ groups ((m ∷ [], c) ∷ es) (tops ((m ∷ [], c) ∷ es))
top_first m c es a rest =
    let e : Pair = (m ∷ [], c) in
    let own : is_prefix (m ∷ []) (m ∷ []) ≡ true =
    ap (λ b. is_some (if b then here else None)) (name_itself m) in
    ap (λ ys. e ∷ ys) rest
    ∙ sym (ap₂ (λ b ys. cond b (e ∷ within (m ∷ []) es) (within (m ∷ []) es) ++ ys) own
    (other_groups e es (tops es) (later_tops (m ∷ []) es a)))

-- below each name but one there is only what its own pair leads
abbrev Led : Name → Pairs → Type 0
Led n es =
    (m k : Name) (q : Path) → IsSome (find path_cmp (m ∷ k ∷ q) es) →
    (m ≡ n) ⊎ IsSome (find path_cmp (m ∷ []) es)

some_more : (q : Path) (e : Pair) (es : Pairs) → IsSome (find path_cmp q es) →
    IsSome (find path_cmp q (e ∷ es))
some_more q e es h =
    elim (eq_by_cmp path_cmp q e.0) as (λ b. IsSome (cond b (Some e.1) (find path_cmp q es)))
    [ true ↦ refl | false ↦ h ]

found_first : (q : Path) (c : Content) (es : Pairs) → IsSome (find path_cmp q ((q, c) ∷ es))
found_first q c es = ap (λ b. is_some (cond b (Some c) (find path_cmp q es))) (path_itself q)

abbrev first_of : Path → Name → Name
first_of [] d = d
first_of (n ∷ q) d = n

-- it holds after the pair of a name, of that name
led_top : (n m : Name) (c : Content) (es : Pairs) → path_cmp (n ∷ []) (m ∷ []) ≡ Less →
    After (m ∷ []) es → Led n ((m ∷ [], c) ∷ es) → Led m es
led_top n m c es less a h x k q is = by_case (h x k q (some_more (x ∷ k ∷ q) (m ∷ [], c) es is))
  where
    by_path : (b : Bool) → eq_by_cmp path_cmp (x ∷ []) (m ∷ []) ≡ b →
        IsSome (cond b (Some c) (find path_cmp (x ∷ []) es)) →
        (x ≡ m) ⊎ IsSome (find path_cmp (x ∷ []) es)
    by_path true same some = inl (ap (λ p. first_of p x) (same_path (x ∷ []) (m ∷ []) same))
    by_path false same some = inr some

    by_case : (x ≡ n) ⊎ IsSome (find path_cmp (x ∷ []) ((m ∷ [], c) ∷ es)) →
        (x ≡ m) ⊎ IsSome (find path_cmp (x ∷ []) es)
    by_case (inl same) =
        let gone = find_after (x ∷ k ∷ q) es (after_more (x ∷ k ∷ q) (m ∷ []) es
        (ap (λ y. path_cmp (y ∷ k ∷ q) (m ∷ [])) same ∙ below_less n m (k ∷ q) less) a) in
        absurd (true≢false (sym is ∙ ap is_some gone))
    by_case (inr some) = by_path (eq_by_cmp path_cmp (x ∷ []) (m ∷ [])) refl some

-- and after a longer path, of the same name
led_on : (n m k : Name) (q : Path) (c : Content) (es : Pairs) → Led n ((m ∷ k ∷ q, c) ∷ es) →
    Led n es
led_on n m k q c es h x y r is = by_case (h x y r (some_more (x ∷ y ∷ r) (m ∷ k ∷ q, c) es is))
  where
    by_case : (x ≡ n) ⊎ IsSome (find path_cmp (x ∷ []) ((m ∷ k ∷ q, c) ∷ es)) →
        (x ≡ n) ⊎ IsSome (find path_cmp (x ∷ []) es)
    by_case (inl same) = inl same
    by_case (inr some) =
        inr (subst (λ b. IsSome (cond b (Some c) (find path_cmp (x ∷ []) es)))
        (not_longer x m k q) some)

-- no longer path comes first
not_led : (m k : Name) (q : Path) (c : Content) (es : Pairs) → After (m ∷ k ∷ q) es →
    IsSome (find path_cmp (m ∷ []) ((m ∷ k ∷ q, c) ∷ es)) → ⊥
not_led m k q c es a is =
    let gone = find_after (m ∷ []) es (after_more (m ∷ []) (m ∷ k ∷ q) es (leads m k q) a) in
    true≢false (sym is ∙ (ap (λ b. is_some (cond b (Some c) (find path_cmp (m ∷ []) es)))
    (not_longer m m k q) ∙ ap is_some gone))

-- the pairs after that of a name: its own, and the groups of the later names
grouped : (n : Name) (es : Pairs) → After (n ∷ []) es → Rising es → Led n es →
    es ≡ within (n ∷ []) es ++ groups es (tops es)
grouped n [] a r h = refl
grouped n (([], c) ∷ es) a r h = absurd (true≢false (sym (ap is_lt a.0)))
grouped n ((m ∷ [], c) ∷ es) a r h =
    let e : Pair = (m ∷ [], c) in
    let rest = grouped m es r.0 r.1 (led_top n m c es a.0 r.0 h) in
    let low = not_less (n ∷ []) (m ∷ []) a.0 in
    let out = apart n m a.0 in
    let none = filter-drops (is_within (n ∷ [])) es
    (none_within (n ∷ []) (m ∷ []) es r.0 low out) in
    top_first m c es r.0 rest
    ∙ sym (ap₂ (λ b ys. cond b (e ∷ ys) ys ++ groups (e ∷ es) (tops (e ∷ es))) out none)
  where
    -- an earlier name is another
    apart : (n m : Name) → path_cmp (n ∷ []) (m ∷ []) ≡ Less → is_prefix (n ∷ []) (m ∷ []) ≡ false
    apart n m less = by_name (eq_by_cmp name_cmp n m) refl
      where
        by_name : (b : Bool) → eq_by_cmp name_cmp n m ≡ b →
            is_some (if eq_by_cmp name_cmp n m then here else None) ≡ false
        by_name true same =
            absurd (true≢false (sym (path_itself (m ∷ [])) ∙ (ap (λ x. eq_by_cmp path_cmp (x ∷ [])
            (m ∷ [])) (sym (same_name n m same)) ∙ ap is_eq less)))
        by_name false other = ap (λ b. is_some (if b then here else None)) other
grouped n ((m ∷ k ∷ q, c) ∷ es) a r h =
    by_prefix (is_prefix (n ∷ []) (m ∷ k ∷ q)) refl (grouped n es a.1 r.1 (led_on n m k q c es h))
  where
    e : Pair
    e = (m ∷ k ∷ q, c)

    itself : m ≡ n → is_prefix (n ∷ []) (m ∷ k ∷ q) ≡ true
    itself same =
        ap (λ x. is_prefix (x ∷ []) (m ∷ k ∷ q)) (sym same)
        ∙ ap (λ b. is_some (if b then Some (k ∷ q) else None)) (name_itself m)

    by_case : is_prefix (n ∷ []) (m ∷ k ∷ q) ≡ false →
        (m ≡ n) ⊎ IsSome (find path_cmp (m ∷ []) ((m ∷ k ∷ q, c) ∷ es)) → ⊥
    by_case out (inl same) = true≢false (sym (itself same) ∙ out)
    by_case out (inr some) = not_led m k q c es r.0 some

    by_prefix : (b : Bool) → is_prefix (n ∷ []) (m ∷ k ∷ q) ≡ b →
        es ≡ within (n ∷ []) es ++ groups es (tops es) → (m ∷ k ∷ q, c) ∷ es
        ≡ cond (is_prefix (n ∷ []) (m ∷ k ∷ q)) ((m ∷ k ∷ q, c) ∷ within (n ∷ []) es)
        (within (n ∷ []) es) ++ groups ((m ∷ k ∷ q, c) ∷ es) (tops es)
    by_prefix true is rest =
        ap (λ ys. (m ∷ k ∷ q, c) ∷ ys) rest
        ∙ sym (ap₂ (λ b ys. cond b ((m ∷ k ∷ q, c) ∷ within (n ∷ []) es) (within (n ∷ []) es) ++ ys)
        is (other_groups (m ∷ k ∷ q, c) es (tops es) (later_tops (m ∷ k ∷ q) es r.0)))
    by_prefix false out rest = absurd (by_case out (h m k q (found_first (m ∷ k ∷ q) c es)))

-- below each name there is only what its own pair leads
abbrev Closed : Pairs → Type 0
Closed es =
    (m k : Name) (q : Path) → IsSome (find path_cmp (m ∷ k ∷ q) es) →
    IsSome (find path_cmp (m ∷ []) es)

all_grouped : (es : Pairs) → After root es → Rising es → Closed es → es ≡ groups es (tops es)
all_grouped [] a r h = refl
all_grouped (([], c) ∷ es) a r h = absurd (true≢false (sym (ap is_lt a.0)))
all_grouped ((m ∷ [], c) ∷ es) a r h = top_first m c es r.0 (grouped m es r.0 r.1 led)
  where
    led : Led m es
    led x k q is =
        by_path (eq_by_cmp path_cmp (x ∷ []) (m ∷ [])) refl
        (h x k q (some_more (x ∷ k ∷ q) (m ∷ [], c) es is))
      where
        by_path : (b : Bool) → eq_by_cmp path_cmp (x ∷ []) (m ∷ []) ≡ b →
            IsSome (cond b (Some c) (find path_cmp (x ∷ []) es)) →
            (x ≡ m) ⊎ IsSome (find path_cmp (x ∷ []) es)
        by_path true same some = inl (ap (λ p. first_of p x) (same_path (x ∷ []) (m ∷ []) same))
        by_path false same some = inr some
all_grouped ((m ∷ k ∷ q, c) ∷ es) a r h =
    absurd (not_led m k q c es r.0 (h m k q (found_first (m ∷ k ∷ q) c es)))

-- ---- trees

-- a file has nothing below it
pub file_alone : (t : Tree) (c : Content) → HasParents t → get t root ≡ Some c →
    (get t root ≡ Some Directory → ⊥) → entries t ≡ (root, c) ∷ []
file_alone t c h is no_directory =
    by_list (is_rooted t c is).below (is_rooted t c is).whole (rising-entries t)
  where
    by_list : (es : Pairs) → entries t ≡ (root, c) ∷ es → Rising (entries t) →
        entries t ≡ (root, c) ∷ []
    by_list [] e r = e
    by_list (([], d) ∷ es) e r = absurd (true≢false (sym (ap is_lt (subst Rising e r).0.0)))
    by_list ((n ∷ q, d) ∷ es) e r =
        absurd (no_directory (h root n q
        (ap is_some (get-entries t (n ∷ q)) ∙ (ap (λ xs. is_some (find path_cmp (n ∷ q) xs)) e
        ∙ some_more (n ∷ q) (root, c) ((n ∷ q, d) ∷ es) (found_first (n ∷ q) d es)))))

-- the parts of a directory, name by name
pub directory_grouped : (t : Tree) → HasParents t → get t root ≡ Some Directory →
    entries t ≡ (root, Directory)
    ∷ flat_map (λ x. under (x.0 ∷ []) (entries (subtree t (x.0 ∷ [])))) (children t root)
directory_grouped t h is =
    let rooted = is_rooted t Directory is in
    let rising = subst Rising rooted.whole (rising-entries t) in
    rooted.whole ∙ ap (λ es. (root, Directory) ∷ es)
    (all_grouped rooted.below rising.0 rising.1 (closed rooted.below rooted.whole)
    ∙ (same_groups rooted.below rooted.whole (tops rooted.below) ∙ ap (λ es. flat_map
    (λ x. under (x.0 ∷ []) (entries (subtree t (x.0 ∷ [])))) (tops es)) (sym rooted.whole)))
  where
    closed : (ds : Pairs) → entries t ≡ (root, Directory) ∷ ds → Closed ds
    closed ds e m k q some =
        let up = h (m ∷ []) k q (ap is_some (get-entries t (m ∷ k ∷ q))
        ∙ (ap (λ xs. is_some (find path_cmp (m ∷ k ∷ q) xs)) e ∙ some)) in
        ap is_some (sym (ap (find path_cmp (m ∷ [])) e) ∙ (sym (get-entries t (m ∷ [])) ∙ up))

    group : (ds : Pairs) → entries t ≡ (root, Directory) ∷ ds → (n : Name) →
        within (n ∷ []) ds ≡ under (n ∷ []) (entries (subtree t (n ∷ [])))
    group ds e n =
        within-taken (n ∷ []) ds
        ∙ ap (under (n ∷ [])) (sym (entries-subtree t (n ∷ []) ∙ ap (taken (n ∷ [])) e))

    same_groups : (ds : Pairs) →
        entries t ≡ (root, Directory) ∷ ds → (names : List (Name × Content)) →
        groups ds names ≡ flat_map (λ x. under (x.0 ∷ []) (entries (subtree t (x.0 ∷ [])))) names
    same_groups ds e [] = refl
    same_groups ds e (x ∷ names) = ap₂ (λ xs ys. xs ++ ys) (group ds e x.0) (same_groups ds e names)
