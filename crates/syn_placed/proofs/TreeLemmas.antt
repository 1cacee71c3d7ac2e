-- The tree of a list of pairs, and the list of a tree with a part replaced.
use Rattle.std.proofs.Common.{◌≡◌, Bool, true, false, cond, not, ◌||◌, [], ◌∷◌, ◌++◌, filter}
use Rattle.std.proofs.Common.{filter_map, refl, sym, ap, ap₂, ◌∙◌, subst, Option, Some, None}
use Rattle.std.proofs.Common.{is_some, is_lt}
use Rattle.std.specs.Prelude.{option_map}
use Rattle.std.specs.Option.{option_map_or, option_or}
use Rattle.std.specs.List.{cons_option}
use Rattle.std.specs.Ordering.{eq_by_cmp}
use Rattle.std.specs.FinMap.{find, entries, entries_sorted, get, get-entries, from_sorted}
use Rattle.std.specs.FinMap.{entries-from_sorted, get-from_sorted, get-from_entries, get-empty}
use Rattle.std.specs.FinMap.{same_entries_map}
use Rattle.std.specs.FinMap.Entries.{find-where_key}
use Rattle.syn_model.specs.Path.{Path, path_cmp, strip_prefix, is_prefix}
use Rattle.syn_model.specs.Tree.{Tree, Content, taken_off, subtree, replace, absent}
use Rattle.syn_model.proofs.PathLemmas.{path_total, path_exact, strip_prefix-append}
use Rattle.syn_model.proofs.PathLemmas.{strip_prefix-is}
use Rattle.syn_model.proofs.TreeLemmas.{same_tree, get-subtree, get-replace, find-under}
use Rattle.syn_placed.specs.Pairs.{Pairs, AreRising, rooted, tree_with, before, within, beyond}
use Rattle.syn_placed.specs.Pairs.{under}
use Rattle.syn_placed.proofs.OrderLemmas.{not_before}
use Rattle.syn_placed.proofs.RisingLemmas.{Rising, After, rising_of, are_rising}
use Rattle.syn_placed.proofs.RisingLemmas.{rising-replaced, rising-under, replaced}
use Rattle.syn_model.proofs.BaseLemmas.{is_true, holds, or_none}
use Rattle.syn_model.proofs.SubtreeLemmas.{under_cmp}

pub entries-with : (es : Pairs) → AreRising (rooted es) → entries (tree_with es) ≡ rooted es
entries-with es h = entries-from_sorted path_cmp (rooted es) (holds _ h)

pub get-with : (es : Pairs) (q : Path) → AreRising (rooted es) →
    get (tree_with es) q ≡ find path_cmp q (rooted es)
get-with es q h = get-from_sorted path_cmp (rooted es) q (holds _ h)

pub rising-entries : (t : Tree) → Rising (entries t)
rising-entries t = rising_of (entries t) (is_true _ (entries_sorted t))

pub entries-rising : (es : Pairs) → Rising es → entries (from_sorted {R = path_cmp} es) ≡ es
entries-rising es h = entries-from_sorted path_cmp es (holds _ (are_rising es h))

pub get-rising : (es : Pairs) (q : Path) → Rising es →
    get (from_sorted {R = path_cmp} es) q ≡ find path_cmp q es
get-rising es q h = get-from_sorted path_cmp es q (holds _ (are_rising es h))

find-append : (q : Path) (es fs : Pairs) →
    find path_cmp q (es ++ fs) ≡ option_or (find path_cmp q es) (find path_cmp q fs)
find-append q [] fs = refl
find-append q (e ∷ es) fs =
    let rest = find-append q es fs in
    elim (eq_by_cmp path_cmp q e.0) as (λ b. cond b (Some e.1) (find path_cmp q (es ++ fs))
    ≡ option_or (cond b (Some e.1) (find path_cmp q es)) (find path_cmp q fs))
    [ true ↦ refl | false ↦ rest ]

-- what a test of paths leaves
find-where : (p : Path → Bool) (q : Path) (es : Pairs) →
    find path_cmp q (filter (λ e. p e.0) es) ≡ cond (p q) (find path_cmp q es) None
find-where p q es = find-where_key path_cmp p q (λ x e. ap p (sym (path_exact q x e))) es

find-replaced : (at q : Path) (es us : Pairs) → find path_cmp q (replaced at es us)
    ≡ option_map_or (λ r. find path_cmp r us) (strip_prefix at q) (find path_cmp q es)
find-replaced at q es us =
    find-append q (before at es) (under at us ++ beyond at es)
    ∙ (ap₂ option_or (find-where (λ p. is_lt (path_cmp p at)) q es)
    (find-append q (under at us) (beyond at es) ∙ ap₂ option_or (find-under at q us)
    (find-where (λ p. not (is_lt (path_cmp p at) || is_prefix at p)) q es))
    ∙ by_place (strip_prefix at q) refl)
  where
    low : Bool
    low = is_lt (path_cmp q at)

    by_place : (o : Option Path) → strip_prefix at q ≡ o →
        option_or (cond low (find path_cmp q es) None)
        (option_or (option_map_or (λ r. find path_cmp r us) (strip_prefix at q) None)
        (cond (not (low || is_prefix at q)) (find path_cmp q es) None))
        ≡ option_map_or (λ r. find path_cmp r us) (strip_prefix at q) (find path_cmp q es)
    by_place (Some r) is =
        let inside : is_prefix at q ≡ true = ap is_some is in
        let later : low ≡ false = not_before at q inside in
        ap₂ (λ a b. option_or (cond a (find path_cmp q es) None)
        (option_or (option_map_or (λ r. find path_cmp r us) (strip_prefix at q) None)
        (cond (not (a || b)) (find path_cmp q es) None))) later inside
        ∙ (or_none _ ∙ ap (λ o. option_map_or (λ r. find path_cmp r us) o None) is
        ∙ sym (ap (λ o. option_map_or (λ r. find path_cmp r us) o (find path_cmp q es)) is))
    by_place None is =
        let out : is_prefix at q ≡ false = ap is_some is in
        ap₂ (λ o b. option_or (cond low (find path_cmp q es) None)
        (option_or (option_map_or (λ r. find path_cmp r us) o None)
        (cond (not (low || b)) (find path_cmp q es) None))) is out
        ∙ (elim low as (λ a. option_or (cond a (find path_cmp q es) None) (cond (not (a || false))
        (find path_cmp q es) None) ≡ find path_cmp q es) [ true ↦ or_none _ | false ↦ refl ]
        ∙ sym (ap (λ o. option_map_or (λ r. find path_cmp r us) o (find path_cmp q es)) is))

-- the list of a tree with a part replaced
pub entries-replace : (t : Tree) (at : Path) (u : Tree) →
    entries (replace t at u) ≡ replaced at (entries t) (entries u)
entries-replace t at u =
    let whole = replaced at (entries t) (entries u) in
    let rising = rising-replaced at (entries t) (entries u) (rising-entries t) (rising-entries u) in
    ap entries (same_tree (replace t at u) (from_sorted whole) (λ q.
    get-replace t at u q
    ∙ (elim (strip_prefix at q) as (λ o. option_map_or (λ r. get u r) o (get t q)
    ≡ option_map_or (λ r. find path_cmp r (entries u)) o (find path_cmp q (entries t)))
    [ None ↦ get-entries t q | Some r ↦ get-entries u r ]
    ∙ (sym (find-replaced at q (entries t) (entries u)) ∙ sym (get-rising whole q rising)))))
    ∙ entries-rising whole rising

-- the pairs at and below a path, each with the path taken off
abbrev pub taken : Path → Pairs → Pairs
taken at es = filter_map (taken_off at) es

pub within-taken : (at : Path) (es : Pairs) → within at es ≡ under at (taken at es)
within-taken at [] = refl
within-taken at (e ∷ es) = by_place (within-taken at es) (strip_prefix at e.0) refl
  where
    by_place : within at es ≡ under at (taken at es) → (o : Option Path) → strip_prefix at e.0 ≡ o →
        cond (is_prefix at e.0) (e ∷ within at es) (within at es) ≡ under at
        (cons_option (option_map (λ rest. (rest, e.1)) (strip_prefix at e.0)) (taken at es))
    by_place rest None is =
        ap (λ o. cond (is_some o) (e ∷ within at es) (within at es)) is ∙ (rest ∙ sym
        (ap (λ o. under at (cons_option (option_map (λ rest. (rest, e.1)) o) (taken at es))) is))
    by_place rest (Some r) is =
        ap (λ o. cond (is_some o) (e ∷ within at es) (within at es)) is
        ∙ (ap₂ (λ (p : Path) xs. (p, e.1) ∷ xs) (strip_prefix-is at e.0 r is) rest ∙ sym
        (ap (λ o. under at (cons_option (option_map (λ rest. (rest, e.1)) o) (taken at es))) is))

after-taken : (at p r : Path) (es : Pairs) → strip_prefix at p ≡ Some r → After p es →
    After r (taken at es)
after-taken at p r [] is h = tt
after-taken at p r (e ∷ es) is h =
    by_place (after-taken at p r es is h.1) (strip_prefix at e.0) refl
  where
    by_place : After r (taken at es) → (o : Option Path) → strip_prefix at e.0 ≡ o →
        After r (cons_option (option_map (λ rest. (rest, e.1)) (strip_prefix at e.0)) (taken at es))
    by_place rest None none =
        subst (λ o. After r (cons_option (option_map (λ rest. (rest, e.1)) o) (taken at es)))
        (sym none) rest
    by_place rest (Some s) some =
        subst (λ o. After r (cons_option (option_map (λ rest. (rest, e.1)) o) (taken at es)))
        (sym some) (
          sym (under_cmp at r s) ∙ (ap₂ path_cmp (sym (strip_prefix-is at p r is))
              (sym (strip_prefix-is at e.0 s some)) ∙ h.0),
          rest,
        )

pub rising-taken : (at : Path) (es : Pairs) → Rising es → Rising (taken at es)
rising-taken at [] h = tt
rising-taken at (e ∷ es) h = by_place (rising-taken at es h.1) (strip_prefix at e.0) refl
  where
    by_place : Rising (taken at es) → (o : Option Path) → strip_prefix at e.0 ≡ o →
        Rising (cons_option (option_map (λ rest. (rest, e.1)) (strip_prefix at e.0)) (taken at es))
    by_place rest None none =
        subst (λ o. Rising (cons_option (option_map (λ rest. (rest, e.1)) o) (taken at es)))
        (sym none) rest
    by_place rest (Some r) some =
        subst (λ o. Rising (cons_option (option_map (λ rest. (rest, e.1)) o) (taken at es)))
        (sym some) (after-taken at e.0 r es some h.0, rest)

-- the list of a subtree
pub entries-subtree : (t : Tree) (at : Path) → entries (subtree t at) ≡ taken at (entries t)
unfolding subtree
entries-subtree t at =
    let rising = rising-taken at (entries t) (rising-entries t) in
    ap entries (same_tree (subtree t at) (from_sorted (taken at (entries t))) (λ q. get-from_entries
    path_total (taken at (entries t)) q ∙ sym (get-rising (taken at (entries t)) q rising)))
    ∙ entries-rising (taken at (entries t)) rising

-- pairs put below a path are the part that stands there
pub taken-under : (at : Path) (us : Pairs) → Rising us →
    subtree (from_sorted (under at us)) at ≡ from_sorted us
taken-under at us h = same_tree _ _ (λ q.
    get-subtree (from_sorted (under at us)) at q
    ∙ (get-rising (under at us) (at ++ q) (rising-under at us h)
    ∙ (find-under at (at ++ q) us
    ∙ (ap (λ o. option_map_or (λ r. find path_cmp r us) o None) (strip_prefix-append at q)
    ∙ sym (get-rising us q h)))))

pub from_entries-same : (t : Tree) → from_sorted (entries t) ≡ t
from_entries-same t = same_entries_map _ _ (entries-rising (entries t) (rising-entries t))

pub part-under : (at : Path) (u : Tree) → subtree (from_sorted (under at (entries u))) at ≡ u
part-under at u = taken-under at (entries u) (rising-entries u) ∙ from_entries-same u

pub entries-absent : entries absent ≡ []
entries-absent =
    ap entries (same_tree absent (from_sorted [])
    (λ q. get-empty path_cmp q ∙ sym (get-rising [] q tt))) ∙ entries-rising [] tt
