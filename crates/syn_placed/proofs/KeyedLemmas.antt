-- Values at paths that strictly rise: what is found at a path, put in at it, and taken out at it.
use Rattle.std.proofs.Common.{◌≡◌, ◌≤◌, ◌<◌, ℕ, suc, Bool, true, false, cond, not, ◌&&◌}
use Rattle.std.proofs.Common.{List, [], ◌∷◌}
use Rattle.std.proofs.Common.{◌++◌, length, take, drop, filter, slice_index_or, slice_set, ◌+◌}
use Rattle.std.proofs.Common.{refl, sym}
use Rattle.std.proofs.Common.{ap, ap₂, ◌∙◌, subst, Some, None, Ordering, Less, Equal, Greater}
use Rattle.std.proofs.Common.{arith, is_lt, is_eq, is_some, true≢false, append-nil, length-append}
use Rattle.std.specs.List.{AllByRecursion, insert, remove}
use Rattle.std.specs.Ordering.{eq_by_cmp, ordering_reverse}
use Rattle.std.specs.FinMap as map
use Rattle.std.specs.FinMap.{FinMap, find, is_sorted, put}
use Rattle.std.specs.FinMap.Entries.{below_all, by_order, is_sorted-put}
use Rattle.std.specs.Cmp.{tied_itself}
use Rattle.std.proofs.Math.Seq.{take-append_seam, drop-append_seam}
use Rattle.std.proofs.lemmas.Bool.{and_parts}
use Rattle.std.proofs.lemmas.List.{drop_more, take-append-drop, length-take-le, take_all}
use Rattle.std.specs.List.Sorted.{IsPartitionedBy, IsPartitionPoint}
use Rattle.syn_placed.proofs.PointLemmas.{partitioned, point}
use Rattle.syn_model.specs.Path.{Path, path_cmp}
use Rattle.syn_model.proofs.PathLemmas.{path_total, path_exact, same_path, path_itself}
use Rattle.syn_placed.specs.Keyed.{IsRising, comes_before, StandsAt, WouldStandAt}
use Rattle.syn_placed.proofs.OrderLemmas.{before_more}
use Rattle.syn_placed.proofs.RisingLemmas.{Each, NoneOf, each-filter, filter-keeps}
use Rattle.syn_placed.proofs.RisingLemmas.{filter-drops}
use Rattle.syn_model.proofs.BaseLemmas.{is_true, holds, less_of, each_with}

-- ---- entries that rise

-- each of the entries comes after the path
abbrev pub Follow : {V : Type 0} → Path → List (Path × V) → Type 0
Follow path es = AllByRecursion (λ e. path_cmp path e.0 ≡ Less) es

abbrev pub Rising : {V : Type 0} → List (Path × V) → Type 0
Rising [] = Unit {0}
Rising (e ∷ es) = Follow e.0 es × Rising es

follow_of : {V : Type 0} (path : Path) (es : List (Path × V)) → below_all path_cmp path es ≡ true →
    Follow path es
follow_of path [] h = tt
follow_of path (e ∷ es) h =
    let both = and_parts (is_lt (path_cmp path e.0)) (below_all path_cmp path es) h in
    (less_of (path_cmp path e.0) both.0, follow_of path es both.1)

pub rises : {V : Type 0} (es : List (Path × V)) → IsRising es → Rising es
rises [] h = tt
rises (e ∷ es) h =
    let both = and_parts (below_all path_cmp e.0 es) (is_sorted path_cmp es) h in
    (follow_of e.0 es both.0, rises es both.1)

below_of : {V : Type 0} (path : Path) (es : List (Path × V)) → Follow path es →
    below_all path_cmp path es ≡ true
below_of path [] h = refl
below_of path (e ∷ es) h = ap₂ (λ a b. a && b) (ap is_lt h.0) (below_of path es h.1)

pub is_rising : {V : Type 0} (es : List (Path × V)) → Rising es → IsRising es
is_rising [] h = refl
is_rising (e ∷ es) h = ap₂ (λ a b. a && b) (below_of e.0 es h.0) (is_rising es h.1)

-- what stands at or after a path: the rest
abbrev pub is_rest : {V : Type 0} → Path → Path × V → Bool
is_rest at e = not (comes_before at e)

none_earlier : {V : Type 0} (at p : Path) (es : List (Path × V)) → Follow p es →
    is_lt (path_cmp p at) ≡ false → NoneOf (comes_before at) es
none_earlier at p es h low =
    each_with (λ e. path_cmp p e.0 ≡ Less) (λ e. comes_before at e ≡ false)
    (λ e less. never e.0 less (is_lt (path_cmp e.0 at)) refl) es h
  where
    never : (q : Path) → path_cmp p q ≡ Less → (b : Bool) → is_lt (path_cmp q at) ≡ b → b ≡ false
    never q less true k = absurd (true≢false (sym (before_more p q at less k) ∙ low))
    never q less false k = refl

pub turned : {X : Type 0} (p : X → Bool) (xs : List X) → NoneOf p xs → Each (λ x. not (p x)) xs
turned p xs h = each_with (λ x. p x ≡ false) (λ x. not (p x) ≡ true) (λ x k. ap not k) xs h

pub none_of_others : {X : Type 0} (p : X → Bool) (xs : List X) →
    NoneOf p (filter (λ x. not (p x)) xs)
none_of_others p xs =
    each_with (λ x. not (p x) ≡ true) (λ x. p x ≡ false) (λ x k. other (p x) k)
    (filter (λ x. not (p x)) xs) (each-filter (λ x. not (p x)) xs)
  where
    other : (b : Bool) → not b ≡ true → b ≡ false
    other true h = absurd (true≢false (sym h))
    other false h = refl

-- those before a path come first
pub two_parts : {V : Type 0} (at : Path) (es : List (Path × V)) → Rising es →
    es ≡ filter (comes_before at) es ++ filter (is_rest at) es
two_parts at [] h = refl
two_parts at (e ∷ es) h =
    elim (comes_before at e) as (λ b. comes_before at e ≡ b → e ∷ es
    ≡ cond b (e ∷ filter (comes_before at) es) (filter (comes_before at) es)
    ++ cond (not b) (e ∷ filter (is_rest at) es) (filter (is_rest at) es)) [
      | true ↦ λ _. ap (λ xs. e ∷ xs) (two_parts at es h.1)
      | false ↦ λ low.
          let none = none_earlier at e.0 es h.0 low in
          sym (ap₂ (λ xs ys. xs ++ e ∷ ys) (filter-drops (comes_before at) es none)
          (filter-keeps (is_rest at) es (turned (comes_before at) es none)))
    ] refl

-- the first of the rest, after which all follow
pub rest_rises : {V : Type 0} (xs ys : List (Path × V)) → Rising (xs ++ ys) → Rising ys
rest_rises [] ys h = h
rest_rises (x ∷ xs) ys h = rest_rises xs ys h.1

pub not_none : {X : Type 0} (x : X) → Some x ≡ None → ⊥
not_none x e = true≢false (ap is_some e)

-- ---- what is found

find_past : {V : Type 0} (q : Path) (xs ys : List (Path × V)) → Each (comes_before q) xs →
    find path_cmp q (xs ++ ys) ≡ find path_cmp q ys
find_past q [] ys h = refl
find_past q (x ∷ xs) ys h =
    ap (λ o. cond (is_eq o) (Some x.1) (find path_cmp q (xs ++ ys)))
    (path_total.antisymm q x.0 ∙ ap ordering_reverse (less_of (path_cmp x.0 q) h.0))
    ∙ find_past q xs ys h.1

pub find_after : {V : Type 0} (q : Path) (es : List (Path × V)) → Follow q es →
    find path_cmp q es ≡ None
find_after q [] h = refl
find_after q (e ∷ es) h =
    ap (λ o. cond (is_eq o) (Some e.1) (find path_cmp q es)) h.0 ∙ find_after q es h.1

follow_more : {V : Type 0} (q p : Path) (es : List (Path × V)) → path_cmp q p ≡ Less →
    Follow p es → Follow q es
follow_more q p es less h =
    each_with (λ e. path_cmp p e.0 ≡ Less) (λ e. path_cmp q e.0 ≡ Less)
    (λ e k. path_total.trans q p e.0 less k) es h

-- where the first is neither before the path nor at it, all follow the path
all_follow : {V : Type 0} (q : Path) (e : Path × V) (es : List (Path × V)) → Rising (e ∷ es) →
    comes_before q e ≡ false → eq_by_cmp path_cmp q e.0 ≡ false → Follow q (e ∷ es)
all_follow q e es h low other = later (path_cmp q e.0) refl
  where
    later : (o : Ordering) → path_cmp q e.0 ≡ o → Follow q (e ∷ es)
    later Less less = (less, follow_more q e.0 es less h.0)
    later Equal same = absurd (true≢false (sym (ap is_eq same) ∙ other))
    later Greater more = absurd
        (true≢false (sym (ap is_lt (path_total.antisymm e.0 q ∙ ap ordering_reverse more)) ∙ low))

-- ---- what is put in, and what is taken out

greater : (q p : Path) → is_lt (path_cmp p q) ≡ true → path_cmp q p ≡ Greater
greater q p h = path_total.antisymm q p ∙ ap ordering_reverse (less_of (path_cmp p q) h)

put_past : {V : Type 0} (q : Path) (v : V) (xs ys : List (Path × V)) → Each (comes_before q) xs →
    put path_cmp q v (xs ++ ys) ≡ xs ++ put path_cmp q v ys
put_past q v [] ys h = refl
put_past q v (x ∷ xs) ys h =
    put_first (path_cmp q x.0) (greater q x.0 h.0)
    ∙ ap (λ zs. x ∷ zs) (put_past q v xs ys h.1)
  where
    put_first : (o : Ordering) → path_cmp q x.0 ≡ Greater →
        put path_cmp q v (x ∷ (xs ++ ys)) ≡ x ∷ put path_cmp q v (xs ++ ys)
    put_first o e = ap (λ r. by_order r ((q, v) ∷ x ∷ (xs ++ ys)) ((x.0, v) ∷ (xs ++ ys))
        (x ∷ put path_cmp q v (xs ++ ys))) e

put_before : {V : Type 0} (q : Path) (v : V) (es : List (Path × V)) → Follow q es →
    put path_cmp q v es ≡ (q, v) ∷ es
put_before q v [] h = refl
put_before q v (e ∷ es) h =
    ap (λ r. by_order r ((q, v) ∷ e ∷ es) ((e.0, v) ∷ es) (e ∷ put path_cmp q v es)) h.0

put_over : {V : Type 0} (q : Path) (v : V) (e : Path × V) (es : List (Path × V)) → e.0 ≡ q →
    put path_cmp q v (e ∷ es) ≡ (q, v) ∷ es
put_over q v e es same =
    let tie : path_cmp q e.0 ≡ Equal = ap (path_cmp q) same ∙ tied_itself path_total q in
    ap (λ r. by_order r ((q, v) ∷ e ∷ es) ((e.0, v) ∷ es) (e ∷ put path_cmp q v es)) tie
    ∙ ap (λ p. (p, v) ∷ es) same

set_at : {X : Type 0} (xs : List X) (x y : X) (ys : List X) →
    slice_set (xs ++ x ∷ ys) (length xs) y ≡ xs ++ y ∷ ys
set_at [] x y ys = refl
set_at (z ∷ xs) x y ys = ap (λ zs. z ∷ zs) (set_at xs x y ys)

-- without the entry at a path
find_without : {V : Type 0} (k q : Path) (e : Path × V) (xs ys : List (Path × V)) →
    Each (comes_before k) xs → e.0 ≡ k → Follow k ys →
    find path_cmp q (xs ++ ys) ≡ cond (eq_by_cmp path_cmp q k) None (find path_cmp q (xs ++ e ∷ ys))
find_without k q e [] ys h same after =
    elim (eq_by_cmp path_cmp q k) as (λ b. eq_by_cmp path_cmp q k ≡ b → find path_cmp q ys
    ≡ cond b None (cond b (Some e.1) (find path_cmp q ys))) [
      | true ↦ λ tie. ap (λ p. find path_cmp p ys) (same_path q k tie) ∙ find_after k ys after
      | false ↦ λ _. refl
    ] refl ∙ ap (λ p. cond (eq_by_cmp path_cmp q k) None
    (cond (eq_by_cmp path_cmp q p) (Some e.1) (find path_cmp q ys))) (sym same)
find_without k q e (x ∷ xs) ys h same after =
    elim (eq_by_cmp path_cmp q k) as (λ b. eq_by_cmp path_cmp q k ≡ b →
    find path_cmp q (xs ++ ys) ≡ cond b None (find path_cmp q (xs ++ e ∷ ys)) →
    cond (eq_by_cmp path_cmp q x.0) (Some x.1) (find path_cmp q (xs ++ ys))
    ≡ cond b None (cond (eq_by_cmp path_cmp q x.0) (Some x.1) (find path_cmp q (xs ++ e ∷ ys)))) [
      | true ↦ λ tie rest.
          let other : eq_by_cmp path_cmp q x.0 ≡ false =
          ap (λ p. eq_by_cmp path_cmp p x.0) (same_path q k tie) ∙ ap is_eq (greater k x.0 h.0) in
          ap (λ b. cond b (Some x.1) (find path_cmp q (xs ++ ys))) other ∙ rest
      | false ↦ λ _ rest. ap (cond (eq_by_cmp path_cmp q x.0) (Some x.1)) rest
    ] refl (find_without k q e xs ys h.1 same after)

follow_without : {V : Type 0} (p : Path) (e : Path × V) (xs ys : List (Path × V)) →
    Follow p (xs ++ e ∷ ys) → Follow p (xs ++ ys)
follow_without p e [] ys h = h.1
follow_without p e (x ∷ xs) ys h = (h.0, follow_without p e xs ys h.1)

rising_without : {V : Type 0} (e : Path × V) (xs ys : List (Path × V)) → Rising (xs ++ e ∷ ys) →
    Rising (xs ++ ys)
rising_without e [] ys h = h.1
rising_without e (x ∷ xs) ys h = (follow_without x.0 e xs ys h.0, rising_without e xs ys h.1)

-- ---- the place of a path

-- so many stand before the path
abbrev pub IsPlace : {V : Type 0} → Path → ℕ → List (Path × V) → Type 0
IsPlace at n es = n ≡ length (filter (comes_before at) es)

pub parted : {V : Type 0} (at : Path) (es : List (Path × V)) → IsRising es →
    IsPartitionedBy (comes_before at) es
parted at es h =
    subst (IsPartitionedBy (comes_before at)) (sym (two_parts at es (rises es h)))
    (partitioned (comes_before at) (filter (comes_before at) es) (filter (is_rest at) es)
    (each-filter (comes_before at) es) (none_of_others (comes_before at) es))

pub placed : {V : Type 0} (at : Path) (n : ℕ) (es : List (Path × V)) → IsRising es →
    n ≤ length es →
    IsPartitionPoint (λ e. comes_before at e ≡ true) (λ e. comes_before at e ≡ false) es n →
    IsPlace at n es
placed at n es h l found =
    let parts = two_parts at es (rises es h) in
    point (comes_before at) (filter (comes_before at) es) (filter (is_rest at) es) n
    (each-filter (comes_before at) es) (none_of_others (comes_before at) es)
    (subst (λ xs. n ≤ length xs) parts l)
    (subst (λ xs. IsPartitionPoint (λ e. comes_before at e ≡ true)
    (λ e. comes_before at e ≡ false) xs n) parts found)

front : {V : Type 0} (at : Path) (n : ℕ) (es : List (Path × V)) → IsRising es → IsPlace at n es →
    take n es ≡ filter (comes_before at) es
front at n es h place =
    ap₂ (λ (m : ℕ) xs. take m xs) place (two_parts at es (rises es h))
    ∙ take-append_seam (filter (comes_before at) es) (filter (is_rest at) es)

back : {V : Type 0} (at : Path) (n : ℕ) (es : List (Path × V)) → IsRising es → IsPlace at n es →
    drop n es ≡ filter (is_rest at) es
back at n es h place =
    ap₂ (λ (m : ℕ) xs. drop m xs) place (two_parts at es (rises es h))
    ∙ drop-append_seam (filter (comes_before at) es) (filter (is_rest at) es)

pub place_within : {V : Type 0} (at : Path) (n : ℕ) (es : List (Path × V)) → IsRising es →
    IsPlace at n es → n ≤ length es
place_within at n es h place =
    omega (
      arith,
      place,
      ap length (two_parts at es (rises es h)),
      length-append (filter (comes_before at) es) (filter (is_rest at) es),
    )

pub front_before : {V : Type 0} (at : Path) (n : ℕ) (es : List (Path × V)) → IsRising es →
    IsPlace at n es → Each (comes_before at) (take n es)
front_before at n es h place =
    subst (Each (comes_before at)) (sym (front at n es h place))
    (each-filter (comes_before at) es)

pub back_after : {V : Type 0} (at : Path) (n : ℕ) (es : List (Path × V)) → IsRising es →
    IsPlace at n es → NoneOf (comes_before at) (drop n es)
back_after at n es h place =
    subst (NoneOf (comes_before at)) (sym (back at n es h place))
    (none_of_others (comes_before at) es)

pub back_rises : {V : Type 0} (n : ℕ) (es : List (Path × V)) → IsRising es → Rising (drop n es)
back_rises n es h =
    rest_rises (take n es) (drop n es) (subst Rising (sym (take-append-drop n es)) (rises es h))

-- the front, what is at the place, and what comes after it
split : {V : Type 0} (n : ℕ) (es : List (Path × V)) (d : Path × V) → n < length es →
    es ≡ take n es ++ slice_index_or es n d ∷ drop (suc n) es
split n es d l =
    let next : n + 1 ≡ suc n = omega arith in
    sym (take-append-drop n es) ∙ ap (λ xs. take n es ++ xs) (drop_more es n d l
    ∙ ap (λ m. slice_index_or es n d ∷ drop m es) next)

-- ---- an entry that is there

pub found_at : {V : Type 0} (at : Path) (n : ℕ) (es : List (Path × V)) (d : Path × V) →
    IsRising es → StandsAt at n es → find path_cmp at es ≡ Some (slice_index_or es n d).1
found_at at n es d h stands =
    let x = slice_index_or es n d in
    let tie : eq_by_cmp path_cmp at x.0 ≡ true =
    ap (eq_by_cmp path_cmp at) (stands.same d) ∙ path_itself at in
    ap (find path_cmp at) (split n es d stands.within)
    ∙ (find_past at (take n es) (x ∷ drop (suc n) es) (front_before at n es h stands.before)
    ∙ ap (λ b. cond b (Some x.1) (find path_cmp at (drop (suc n) es))) tie)

pub set_value : {V : Type 0} (at : Path) (v : V) (n : ℕ) (es : List (Path × V)) →
    IsRising es → StandsAt at n es → slice_set es n (at, v) ≡ put path_cmp at v es
set_value {V = V} at v n es h stands =
    let d : Path × V = (at, v) in
    let x = slice_index_or es n d in
    let xs = take n es in
    let ys = drop (suc n) es in
    let long : length xs ≡ n = length-take-le n es (omega (arith, stands.within)) in
    ap₂ (λ zs (m : ℕ). slice_set zs m d) (split n es d stands.within) (sym long)
    ∙ (set_at xs x d ys
    ∙ sym (ap (put path_cmp at v) (split n es d stands.within)
    ∙ (put_past at v xs (x ∷ ys) (front_before at n es h stands.before)
    ∙ ap (λ zs. xs ++ zs) (put_over at v x ys (stands.same d)))))

after_there : {V : Type 0} (at : Path) (n : ℕ) (es : List (Path × V)) (d : Path × V) →
    IsRising es → StandsAt at n es → Follow at (drop (suc n) es)
after_there at n es d h stands =
    let whole = subst Rising (split n es d stands.within) (rises es h) in
    let rest = rest_rises (take n es) (slice_index_or es n d ∷ drop (suc n) es) whole in
    subst (λ p. Follow p (drop (suc n) es)) (stands.same d) rest.0

pub rising_removed : {V : Type 0} (n : ℕ) (es : List (Path × V)) (d : Path × V) → IsRising es →
    n < length es → IsRising (remove es n)
rising_removed n es d h l =
    is_rising (remove es n) (rising_without (slice_index_or es n d) (take n es) (drop (suc n) es)
    (subst Rising (split n es d l) (rises es h)))

pub removed_at : {V : Type 0} (at : Path) (n : ℕ) (es : List (Path × V)) (d : Path × V) →
    IsRising es → StandsAt at n es →
    map.from_sorted {R = path_cmp} (remove es n) ≡ map.remove (map.from_sorted es) at
removed_at at n es d h stands =
    map.same_map path_total path_exact _ _ (λ q.
    map.get-from_sorted path_cmp (remove es n) q
    (holds _ (rising_removed n es d h stands.within))
    ∙ (find_without at q (slice_index_or es n d) (take n es) (drop (suc n) es)
    (front_before at n es h stands.before) (stands.same d) (after_there at n es d h stands)
    ∙ (ap (λ zs. cond (eq_by_cmp path_cmp q at) None (find path_cmp q zs))
    (sym (split n es d stands.within))
    ∙ sym (map.get-remove path_total (map.from_sorted es) at q
    ∙ ap (cond (eq_by_cmp path_cmp q at) None)
    (map.get-from_sorted path_cmp es q (holds _ h))))))

-- ---- an entry that is not there

-- where nothing is found among what does not stand before, all of it follows
pub rest_follows : {V : Type 0} (at : Path) (es : List (Path × V)) → Rising es →
    NoneOf (comes_before at) es → find path_cmp at es ≡ None → Follow at es
rest_follows at [] h low none = tt
rest_follows at (e ∷ es) h low none =
    all_follow at e es h low.0 (untied (eq_by_cmp path_cmp at e.0) refl)
  where
    untied : (b : Bool) → eq_by_cmp path_cmp at e.0 ≡ b → b ≡ false
    untied true tie = absurd (not_none e.1 (sym (ap (λ b. cond b (Some e.1)
        (find path_cmp at es)) tie) ∙ none))
    untied false tie = refl

pub put_in_at : {V : Type 0} (at : Path) (v : V) (n : ℕ) (es : List (Path × V)) → IsRising es →
    WouldStandAt at n es → insert es n (at, v) ≡ put path_cmp at v es
put_in_at at v n es h stands =
    let xs = take n es in
    let ys = drop n es in
    let before = front_before at n es h stands.before in
    let none = sym (find_past at xs ys before)
    ∙ (ap (find path_cmp at) (take-append-drop n es) ∙ stands.absent) in
    let follow = rest_follows at ys (back_rises n es h) (back_after at n es h stands.before) none in
    sym (ap (put path_cmp at v) (sym (take-append-drop n es))
    ∙ (put_past at v xs ys before ∙ ap (λ zs. xs ++ zs) (put_before at v ys follow)))

-- nothing is found where the first of the rest is not at the path
pub absent_at : {V : Type 0} (at : Path) (n : ℕ) (es : List (Path × V)) (x : Path × V) →
    IsRising es → IsPlace at n es → n < length es → x ≡ slice_index_or es n x →
    eq_by_cmp path_cmp at x.0 ≡ false → find path_cmp at es ≡ None
absent_at at n es x h place l is other =
    let y = slice_index_or es n x in
    let ys = drop (suc n) es in
    let apart : eq_by_cmp path_cmp at y.0 ≡ false =
    ap (λ (z : Path × _). eq_by_cmp path_cmp at z.0) (sym is) ∙ other in
    let whole = split n es x l in
    let rises_on = rest_rises (take n es) (y ∷ ys) (subst Rising whole (rises es h)) in
    let low = back_after at n es h place in
    let cut : drop n es ≡ y ∷ ys =
    drop_more es n x l ∙ ap (λ m. y ∷ drop m es) (let next : n + 1 ≡ suc n = omega arith in next) in
    let not_low = (subst (NoneOf (comes_before at)) cut low).0 in
    ap (find path_cmp at) whole
    ∙ (find_past at (take n es) (y ∷ ys) (front_before at n es h place)
    ∙ find_after at (y ∷ ys) (all_follow at y ys rises_on not_low apart))

pub absent_past : {V : Type 0} (at : Path) (n : ℕ) (es : List (Path × V)) → IsRising es →
    IsPlace at n es → length es ≤ n → find path_cmp at es ≡ None
absent_past at n es h place l =
    let whole : take n es ≡ es = take_all n es l in
    ap (find path_cmp at) (sym (append-nil es))
    ∙ find_past at es [] (subst (Each (comes_before at)) whole (front_before at n es h place))

-- ---- as maps

pub put_map : {V : Type 0} (es new : List (Path × V)) (at : Path) (v : V) → IsRising es →
    new ≡ put path_cmp at v es → IsRising new →
    map.from_sorted {R = path_cmp} new ≡ map.insert (map.from_sorted es) at v
put_map es new at v h is rising =
    map.same_entries_map _ _ (map.entries-from_sorted path_cmp new (holds _ rising)
    ∙ (is ∙ sym (map.entries-insert path_total (map.from_sorted es) at v
    ∙ ap (put path_cmp at v) (map.entries-from_sorted path_cmp es (holds _ h)))))

pub rising_put : {V : Type 0} (es new : List (Path × V)) (at : Path) (v : V) → IsRising es →
    new ≡ put path_cmp at v es → IsRising new
rising_put es new at v h is =
    ap (is_sorted path_cmp) is
    ∙ is_true _ (is_sorted-put path_cmp path_total at v es (holds _ h))

pub absent_removed : {V : Type 0} (m : FinMap path_cmp V) (at : Path) → map.get m at ≡ None →
    map.remove m at ≡ m
absent_removed m at none =
    map.same_map path_total path_exact _ _ (λ q. map.get-remove path_total m at q
    ∙ elim (eq_by_cmp path_cmp q at) as (λ b. eq_by_cmp path_cmp q at ≡ b →
    cond b None (map.get m q) ≡ map.get m q) [
      | true ↦ λ tie. sym (ap (map.get m) (same_path q at tie) ∙ none)
      | false ↦ λ _. refl
    ] refl)

pub none_in_empty : {V : Type 0} → map.from_sorted {X = V} {R = path_cmp} [] ≡ map.empty
none_in_empty =
    map.same_map path_total path_exact _ _ (λ q. map.get-from_sorted path_cmp [] q tt
    ∙ sym (map.get-empty path_cmp q))
