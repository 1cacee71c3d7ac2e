-- The pairs of a subtree are those of the tree at and below its path, in their order.
use Rattle.std.proofs.Common.{◌≡◌, ◌<◌, ◌≤◌, suc, Bool, true, false, if◌then◌else◌, ◌&&◌, T, List}
use Rattle.std.proofs.Common.{[], ◌∷◌, ◌++◌, ℕ, length, length-append, filter_map, flat_map, refl}
use Rattle.std.proofs.Common.{sym, ap, ap₂, ◌∙◌, subst, Option, Some, None, is_some, IsSome, All}
use Rattle.std.proofs.Common.{nat_le, append_assoc, is_lt, option_map, option_and_then, true≢false}
use Rattle.std.proofs.Common.{arith}
use Rattle.std.proofs.lemmas.List.Elements.{All-tail}
use Rattle.std.proofs.lemmas.Bool.{and_from, and_parts}
use Rattle.std.proofs.lemmas.Bool.Decides.{nat_tests}
use Rattle.std.specs.Ordering.{ordering_then, eq_by_cmp}
use Rattle.std.specs.Cmp.{tied_itself}
use Rattle.std.specs.List.{cons_option, list_all}
use Rattle.std.specs.FinMap.{entries, entries_sorted, find, from_entries, from_sorted, get}
use Rattle.std.specs.FinMap.{get-entries, get-from_entries, get-from_sorted, entries-from_sorted}
use Rattle.std.specs.FinMap.{is_sorted, len, len-entries, same_map}
use Rattle.std.specs.FinMap.Entries.{below_all}
use Rattle.syn_model.specs.Path.{IsName, Name, Path, name_cmp, path_cmp, path_spelling, root}
use Rattle.syn_model.specs.Path.{strip_prefix}
use Rattle.syn_model.specs.Tree.{Tree, Content, Pair, IsPartIn, subtree, taken_off}
use Rattle.syn_model.specs.Version.{Version}
use Rattle.syn_model.specs.Limits.{children, only_name, fits_content, fits_part, fits_path}
use Rattle.syn_model.specs.Limits.{fits_paths}
use Rattle.syn_model.proofs.TreeLemmas.{get-subtree}
use Rattle.syn_model.proofs.PathLemmas.{name_total, path_total, path_exact, strip_prefix-is}
use Rattle.syn_model.proofs.BaseLemmas.{both_hold}

pub joined : (a b : Bool) → T a → T b → T (a && b)
joined true b p q = q
joined false b p q = absurd p

-- paths below one path compare by what follows it
pub under_cmp : (p a b : Path) → path_cmp (p ++ a) (p ++ b) ≡ path_cmp a b
under_cmp [] a b = refl
under_cmp (n ∷ p) a b =
    ap (λ o. ordering_then o (path_cmp (p ++ a) (p ++ b))) (tied_itself name_total n)
    ∙ under_cmp p a b

abbrev below : Path → List Pair → List Pair
below p es = filter_map (taken_off p) es

still_below : (p a rest : Path) (es : List Pair) → strip_prefix p a ≡ Some rest →
    T (below_all path_cmp a es) → T (below_all path_cmp rest (below p es))
still_below p a rest [] h t = tt
still_below p a rest (e ∷ es) h t =
    let two = both_hold (is_lt (path_cmp a e.0)) (below_all path_cmp a es) t in
    let more = still_below p a rest es h two.1 in
    elim (strip_prefix p e.0) as (λ o. strip_prefix p e.0 ≡ o →
    T (below_all path_cmp rest (cons_option (option_map (λ r. (r, e.1)) o) (below p es)))) [
      | None ↦ λ _. more
      | Some r ↦ λ k.
          let same : path_cmp a e.0 ≡ path_cmp rest r = ap₂ path_cmp (strip_prefix-is p a rest h)
          (strip_prefix-is p e.0 r k) ∙ under_cmp p rest r in
          joined (is_lt (path_cmp rest r)) (below_all path_cmp rest (below p es))
          (subst (λ o. T (is_lt o)) same two.0) more
    ] refl

still_sorted : (p : Path) (es : List Pair) → T (is_sorted path_cmp es) →
    T (is_sorted path_cmp (below p es))
still_sorted p [] t = tt
still_sorted p (e ∷ es) t =
    let two = both_hold (below_all path_cmp e.0 es) (is_sorted path_cmp es) t in
    let more = still_sorted p es two.1 in
    elim (strip_prefix p e.0) as (λ o. strip_prefix p e.0 ≡ o →
    T (is_sorted path_cmp (cons_option (option_map (λ r. (r, e.1)) o) (below p es)))) [
      | None ↦ λ _. more
      | Some r ↦ λ k. joined (below_all path_cmp r (below p es)) (is_sorted path_cmp (below p es))
          (still_below p e.0 r es k two.0) more
    ] refl

-- entries in order are those of their map
entries_of : (es : List Pair) → T (is_sorted path_cmp es) →
    entries (from_entries {R = path_cmp} es) ≡ es
entries_of es t =
    ap entries (same_map path_total path_exact (from_entries es) (from_sorted es)
    (λ q. get-from_entries path_total es q ∙ sym (get-from_sorted path_cmp es q t)))
    ∙ entries-from_sorted path_cmp es t

pub subtree_entries : (t : Tree) (p : Path) →
    entries (subtree t p) ≡ filter_map (taken_off p) (entries t)
unfolding subtree
subtree_entries t p =
    entries_of (below p (entries t)) (still_sorted p (entries t) (entries_sorted t))

strip_twice : (p q k : Path) →
    option_and_then (strip_prefix q) (strip_prefix p k) ≡ strip_prefix (p ++ q) k
strip_twice [] q k = refl
strip_twice (n ∷ p) q [] = refl
strip_twice (n ∷ p) q (m ∷ k) =
    elim (eq_by_cmp name_cmp n m)
    as (λ b. option_and_then (strip_prefix q) (if b then strip_prefix p k else None)
    ≡ (if b then strip_prefix (p ++ q) k else None)) [ true ↦ strip_twice p q k | false ↦ refl ]

abbrev named : Path → Pair → Option (Name × Content)
named p pair =
    option_map (λ name. (name, pair.1)) (option_and_then only_name (strip_prefix p pair.0))

named_twice : (p q : Path) (es : List Pair) →
    filter_map (named q) (below p es) ≡ filter_map (named (p ++ q)) es
named_twice p q [] = refl
named_twice p q (e ∷ es) =
    let more = named_twice p q es in
    elim (strip_prefix p e.0)
    as (λ o. filter_map (named q) (cons_option (option_map (λ r. (r, e.1)) o) (below p es))
    ≡ cons_option (option_map (λ name. (name, e.1)) (option_and_then only_name
    (option_and_then (strip_prefix q) o))) (filter_map (named (p ++ q)) es)) [
      | None ↦ more
      | Some r ↦ ap (λ xs. cons_option (named q (r, e.1)) xs) more
    ]
    ∙ ap (λ o. cons_option (option_map (λ name. (name, e.1)) (option_and_then only_name o))
    (filter_map (named (p ++ q)) es)) (strip_twice p q e.0)

-- the names in a directory of a subtree are those in the tree's
pub subtree_children : (t : Tree) (p q : Path) → children (subtree t p) q ≡ children t (p ++ q)
subtree_children t p q =
    ap (λ es. filter_map (named q) es) (subtree_entries t p) ∙ named_twice p q (entries t)

no_longer : (n : Name) (p : Path) (es : List Pair) → length (below (n ∷ p) es) ≤ length es
no_longer n p [] = omega arith
no_longer n p (e ∷ es) =
    let more = no_longer n p es in
    elim (strip_prefix (n ∷ p) e.0) as (λ o. length
    (cons_option (option_map (λ r. (r, e.1)) o) (below (n ∷ p) es)) ≤ suc (length es)) [
      | None ↦ omega (arith, more)
      | Some r ↦ omega (arith, more)
    ]

shorter : (n : Name) (p : Path) (es : List Pair) → is_some (find path_cmp root es) ≡ true →
    length (below (n ∷ p) es) < length es
shorter n p [] h = absurd (true≢false (sym h))
shorter n p (([], c) ∷ es) h = omega (arith, no_longer n p es)
shorter n p ((m ∷ k, c) ∷ es) h =
    let more = shorter n p es h in
    elim (strip_prefix (n ∷ p) (m ∷ k)) as (λ o. length
    (cons_option (option_map (λ r. (r, c)) o) (below (n ∷ p) es)) < suc (length es)) [
      | None ↦ omega (arith, more)
      | Some r ↦ omega (arith, more)
    ]

-- what is below a root has fewer pairs
pub subtree_smaller : (t : Tree) (n : Name) (p : Path) → is_some (get t root) ≡ true →
    len (subtree t (n ∷ p)) < len t
subtree_smaller t n p h =
    let here = shorter n p (entries t) (ap is_some (sym (get-entries t root)) ∙ h) in
    let small = len-entries (subtree t (n ∷ p)) ∙ ap length (subtree_entries t (n ∷ p)) in
    omega (arith, here, small, len-entries t)

abbrev fits_at : Tree → Pair → Bool
fits_at t pair = fits_content pair.1 && nat_le (length (children t pair.0)) 256

still_fits : (t : Tree) (p : Path) (es : List Pair) → list_all (fits_at t) es ≡ true →
    list_all (fits_at (subtree t p)) (below p es) ≡ true
still_fits t p [] h = refl
still_fits t p (e ∷ es) h =
    let two = and_parts (fits_at t e) (list_all (fits_at t) es) h in
    let more = still_fits t p es two.1 in
    elim (strip_prefix p e.0) as (λ o. strip_prefix p e.0 ≡ o → list_all (fits_at (subtree t p))
    (cons_option (option_map (λ r. (r, e.1)) o) (below p es)) ≡ true) [
      | None ↦ λ _. more
      | Some r ↦ λ k.
          let same : fits_at t e ≡ fits_at (subtree t p) (r, e.1) =
          ap (λ q. fits_content e.1 && nat_le (length (children t q)) 256)
          (strip_prefix-is p e.0 r k)
          ∙ ap (λ xs. fits_content e.1 && nat_le (length xs) 256) (sym (subtree_children t p r)) in
          and_from (fits_at (subtree t p) (r, e.1)) (list_all (fits_at (subtree t p)) (below p es))
          (sym same ∙ two.0) more
    ] refl

-- a path is no longer than one that ends with it
abbrev spelled : Path → List ℕ
spelled path = flat_map (λ name. length name ∷ name) path

ending_shorter : (p q : Path) →
    (length q ≤ length (p ++ q)) × (length (spelled q) ≤ length (spelled (p ++ q)))
ending_shorter [] q = (omega arith, omega arith)
ending_shorter (n ∷ p) q =
    let rest = ending_shorter p q in
    let more = length-append (length n ∷ n) (spelled (p ++ q)) in
    (omega (arith, rest.0), omega (arith, rest.1, more))

smaller : (a b n : ℕ) → a ≤ b → nat_le b n ≡ true → nat_le a n ≡ true
smaller a b n l h = grind (arith, nat_tests)

one_more : (a b : ℕ) → a ≤ b → suc a ≤ suc b
one_more a b l = omega (arith, l)

pub fits_later : (p q : Path) → fits_path (p ++ q) ≡ true → fits_path q ≡ true
fits_later p q h =
    let two = and_parts (nat_le (length (p ++ q)) 16)
    (nat_le (length (path_spelling (p ++ q))) 255) h in
    let less = ending_shorter p q in
    and_from (nat_le (length q) 16) (nat_le (length (path_spelling q)) 255)
    (smaller (length q) (length (p ++ q)) 16 less.0 two.0)
    (smaller (suc (length (spelled q))) (suc (length (spelled (p ++ q)))) 255
    (one_more (length (spelled q)) (length (spelled (p ++ q))) less.1) two.1)

abbrev path_fits : Pair → Bool
path_fits pair = fits_path pair.0

still_short : (p : Path) (es : List Pair) → list_all path_fits es ≡ true →
    list_all path_fits (below p es) ≡ true
still_short p [] h = refl
still_short p (e ∷ es) h =
    let two = and_parts (path_fits e) (list_all path_fits es) h in
    let more = still_short p es two.1 in
    elim (strip_prefix p e.0) as (λ o. strip_prefix p e.0 ≡ o →
    list_all path_fits (cons_option (option_map (λ r. (r, e.1)) o) (below p es)) ≡ true) [
      | None ↦ λ _. more
      | Some r ↦ λ k. and_from (fits_path r) (list_all path_fits (below p es))
          (fits_later p r (ap fits_path (sym (strip_prefix-is p e.0 r k)) ∙ two.0)) more
    ] refl

-- so the paths of a subtree keep their limits
pub subtree-fits_paths : (t : Tree) (p : Path) → fits_paths t ≡ true →
    fits_paths (subtree t p) ≡ true
subtree-fits_paths t p h =
    ap (list_all path_fits) (subtree_entries t p) ∙ still_short p (entries t) h

later : (P : Name → Type 0) (p q : Path) → All P (p ++ q) → All P q
later P [] q h = h
later P (n ∷ p) q h = later P p q (All-tail P n (p ++ q) h)

-- a subtree of what keeps the limits keeps them
pub subtree-fits : (t : Tree) (p : Path) → fits_part t ≡ true → fits_part (subtree t p) ≡ true
subtree-fits t p h =
    ap (list_all (fits_at (subtree t p))) (subtree_entries t p) ∙ still_fits t p (entries t) h

-- and of a part a part
pub subtree-is_part : {version : Version} (t : Tree) (p : Path) → IsPartIn version t →
    IsPartIn version (subtree t p)
subtree-is_part t p h = record {
  parents =
      λ q n rest some. get-subtree t p q ∙ h.parents (p ++ q) n rest (subst IsSome
      (get-subtree t p (q ++ n ∷ rest) ∙ ap (get t) (sym (append_assoc p q (n ∷ rest)))) some);
  names = λ q some. (later IsName p q (h.names (p ++ q) (subst IsSome (get-subtree t p q) some)));
  lawful = λ q contents e. h.lawful (p ++ q) contents (sym (get-subtree t p q) ∙ e);
}
