-- Answers in path order: where one stands, and what stands in front of it and after it.
use Rattle.std.proofs.Common.{◌≡◌, ◌<◌, ◌≤◌, ℕ, Bool, true, false, cond, not, T, List, [], ◌∷◌}
use Rattle.std.proofs.Common.{◌++◌, filter, length, length-append, map, ◌||◌, take, drop}
use Rattle.std.proofs.Common.{slice_index_or, refl, sym, ap, ap₂, ◌∙◌, subst, Some, None, Ordering}
use Rattle.std.proofs.Common.{Less, Equal, Greater, is_lt, is_eq, true≢false, arith}
use Rattle.std.specs.List.{AllByRecursion, list_any}
use Rattle.std.specs.Ordering.{eq_by_cmp, ordering_reverse}
use Rattle.std.specs.FinMap.{keys, entries_sorted, find, put, is_sorted, entries, get, insert}
use Rattle.std.specs.FinMap.{get-from_sorted, entries-from_sorted, entries-insert, same_entries_map}
use Rattle.std.specs.FinMap.{get-empty, empty, get-entries}
use Rattle.std.specs.FinMap.Entries.{below_all, by_order}
use Rattle.std.proofs.lemmas.Bool.{and_parts}
use Rattle.std.proofs.Math.Seq.{take-append_seam, drop-append_seam}
use Rattle.syn_model.specs.Path.{Path, path_cmp}
use Rattle.syn_model.proofs.PathLemmas.{path_total, same_path, path_itself, not_less}
use Rattle.syn_scan.specs.inner.Kept.{AreSorted, earlier, positions_with}
use Rattle.syn_model.proofs.BaseLemmas.{is_true, holds, less_of}

abbrev pub Answers : Type 0
Answers = List (Path × ℕ)

abbrev pub is_earlier : Path → Path × ℕ → Bool
is_earlier path entry = is_lt (path_cmp entry.0 path)

abbrev pub later : Path → Answers → Answers
later path list = filter (λ entry. not (is_earlier path entry)) list

-- after a path
abbrev pub After : Path → Answers → Type 0
After path list = AllByRecursion (λ e. path_cmp path e.0 ≡ Less) list

abbrev pub Rising : Answers → Type 0
Rising [] = Unit {0}
Rising (e ∷ es) = After e.0 es × Rising es

after_of : (path : Path) (es : Answers) → below_all path_cmp path es ≡ true → After path es
after_of path [] h = tt
after_of path (e ∷ es) h =
    let both = and_parts (is_lt (path_cmp path e.0)) (below_all path_cmp path es) h in
    (less_of (path_cmp path e.0) both.0, after_of path es both.1)

pub rising_of : (es : Answers) → AreSorted es → Rising es
rising_of [] h = tt
rising_of (e ∷ es) h =
    let both = and_parts (below_all path_cmp e.0 es) (is_sorted path_cmp es) h in
    (after_of e.0 es both.0, rising_of es both.1)

after_more : (q p : Path) (es : Answers) → path_cmp q p ≡ Less → After p es → After q es
after_more q p [] less h = tt
after_more q p (e ∷ es) less h = (path_total.trans q p e.0 less h.0, after_more q p es less h.1)

none_earlier : (q : Path) (es : Answers) → After q es → (earlier q es ≡ []) × (later q es ≡ es)
none_earlier q [] h = (refl, refl)
none_earlier q (e ∷ es) h =
    let rest = none_earlier q es h.1 in
    let not_it = not_less q e.0 h.0 in (
      ap (λ b. cond b (e ∷ earlier q es) (earlier q es)) not_it ∙ rest.0,
      ap (λ b. cond (not b) (e ∷ later q es) (later q es)) not_it ∙ ap (λ xs. e ∷ xs) rest.1,
    )

same_or_after : (q : Path) (e : Path × ℕ) (es : Answers) → After e.0 es →
    is_lt (path_cmp e.0 q) ≡ false → (o : Ordering) → path_cmp q e.0 ≡ o → After q es
same_or_after q e es h low Less is = after_more q e.0 es is h
same_or_after q e es h low Equal is =
    subst (λ p. After p es) (sym (same_path q e.0 (ap is_eq is))) h
same_or_after q e es h low Greater is =
    absurd (true≢false (sym (ap is_lt (path_total.antisymm e.0 q ∙ ap ordering_reverse is)) ∙ low))

-- the pairs before a path, and the others, are the whole in order
pub two_parts : (q : Path) (es : Answers) → Rising es → es ≡ earlier q es ++ later q es
two_parts q [] h = refl
two_parts q (e ∷ es) h =
    let rest = two_parts q es h.1 in
    elim (is_earlier q e) as (λ b. is_earlier q e ≡ b → e ∷ es
    ≡ cond b (e ∷ earlier q es) (earlier q es) ++ cond (not b) (e ∷ later q es) (later q es)) [
      | true ↦ λ _. ap (λ xs. e ∷ xs) rest
      | false ↦ λ low.
          let none = none_earlier q es (same_or_after q e es h.0 low (path_cmp q e.0) refl) in
          sym (ap₂ (λ xs ys. xs ++ e ∷ ys) none.0 none.1)
    ] refl

pub each_earlier : (q : Path) (es : Answers) →
    AllByRecursion (λ e. is_earlier q e ≡ true) (earlier q es)
each_earlier q [] = tt
each_earlier q (e ∷ es) =
    elim (is_earlier q e) as (λ b. is_earlier q e ≡ b →
    AllByRecursion (λ x. is_earlier q x ≡ true) (cond b (e ∷ earlier q es) (earlier q es)))
    [ true ↦ λ is. (is, each_earlier q es) | false ↦ λ _. each_earlier q es ] refl

pub each_later : (q : Path) (es : Answers) →
    AllByRecursion (λ e. is_earlier q e ≡ false) (later q es)
each_later q [] = tt
each_later q (e ∷ es) =
    elim (is_earlier q e) as (λ b. is_earlier q e ≡ b →
    AllByRecursion (λ x. is_earlier q x ≡ false) (cond (not b) (e ∷ later q es) (later q es)))
    [ true ↦ λ _. each_later q es | false ↦ λ is. (is, each_later q es) ] refl

-- what stands before a path is not sought there
find_late : (q : Path) (es : Answers) → find path_cmp q es ≡ find path_cmp q (later q es)
find_late q [] = refl
find_late q (e ∷ es) =
    elim (is_earlier q e) as (λ b. is_earlier q e ≡ b → cond (eq_by_cmp path_cmp q e.0) (Some e.1)
    (find path_cmp q es) ≡ find path_cmp q (cond (not b) (e ∷ later q es) (later q es))) [
      | true ↦ λ is. ap (λ o. cond (is_eq o) (Some e.1) (find path_cmp q es))
          (path_total.antisymm q e.0 ∙ ap ordering_reverse (less_of (path_cmp e.0 q) is))
          ∙ find_late q es
      | false ↦ λ _. ap (cond (eq_by_cmp path_cmp q e.0) (Some e.1)) (find_late q es)
    ] refl

find_after : (q : Path) (es : Answers) → After q es → find path_cmp q es ≡ None
find_after q [] h = refl
find_after q (e ∷ es) h =
    ap (λ o. cond (is_eq o) (Some e.1) (find path_cmp q es)) h.0 ∙ find_after q es h.1

after_later : (q p : Path) (es : Answers) → After p es → After p (later q es)
after_later q p [] k = tt
after_later q p (x ∷ es) k =
    elim (is_earlier q x) as (λ b. After p (cond (not b) (x ∷ later q es) (later q es)))
    [ true ↦ after_later q p es k.1 | false ↦ (k.0, after_later q p es k.1) ]

rising_later : (q : Path) (es : Answers) → Rising es → Rising (later q es)
rising_later q [] h = tt
rising_later q (e ∷ es) h =
    elim (is_earlier q e) as (λ b. Rising (cond (not b) (e ∷ later q es) (later q es)))
    [ true ↦ rising_later q es h.1 | false ↦ (after_later q e.0 es h.0, rising_later q es h.1) ]

after : (q : Path) (x : Path × ℕ) (rest : Answers) → Rising (x ∷ rest) → is_earlier q x ≡ false →
    eq_by_cmp path_cmp x.0 q ≡ false → (o : Ordering) → path_cmp q x.0 ≡ o → After q (x ∷ rest)
after q x rest up low other Less is = (is, after_more q x.0 rest is up.0)
after q x rest up low other Equal is =
    absurd (true≢false (sym (path_itself q)
    ∙ (ap (λ p. eq_by_cmp path_cmp p q) (same_path q x.0 (ap is_eq is)) ∙ other)))
after q x rest up low other Greater is =
    absurd (true≢false (sym (ap is_lt (path_total.antisymm x.0 q ∙ ap ordering_reverse is)) ∙ low))

-- the element after a front is the first of the rest
pub seam : {X : Type 0} (ys zs : List X) (x : X) → length ys < length (ys ++ zs) →
    x ≡ slice_index_or (ys ++ zs) (length ys) x → (rest : List X) × (zs ≡ x ∷ rest)
seam [] [] x l is = absurd (omega arith)
seam [] (z ∷ zs) x l is = (zs, ap (λ w. w ∷ zs) (sym is))
seam (y ∷ ys) zs x l is = seam ys zs x (omega arith) is

pub ended : {X : Type 0} (ys zs : List X) → length (ys ++ zs) ≤ length ys → zs ≡ []
ended [] [] l = refl
ended [] (z ∷ zs) l = absurd (omega arith)
ended (y ∷ ys) zs l = ended ys zs (omega arith)

no_Some : {X : Type 0} (x : X) → Some x ≡ None → ⊥
no_Some x bad = cc

-- where nothing is found a new answer stands after the earlier ones
placed : (q : Path) (v : ℕ) (xs : Answers) → Rising xs → find path_cmp q xs ≡ None →
    put path_cmp q v xs ≡ earlier q xs ++ (q, v) ∷ later q xs
placed q v [] up miss = refl
placed q v (e ∷ xs) up miss =
    let rest = placed q v xs up.1 in
    elim (path_cmp q e.0) as (λ o. path_cmp q e.0 ≡ o →
    put path_cmp q v (e ∷ xs) ≡ earlier q (e ∷ xs) ++ (q, v) ∷ later q (e ∷ xs)) [
      | Less ↦ λ is.
          let none = none_earlier q (e ∷ xs) (is, after_more q e.0 xs is up.0) in
          ap (λ o. by_order o ((q, v) ∷ e ∷ xs) ((e.0, v) ∷ xs) (e ∷ put path_cmp q v xs)) is
          ∙ sym (ap₂ (λ ys zs. ys ++ (q, v) ∷ zs) none.0 none.1)
      | Equal ↦ λ is. absurd
          (no_Some e.1 (sym (ap (λ o. cond (is_eq o) (Some e.1) (find path_cmp q xs)) is) ∙ miss))
      | Greater ↦ λ is.
          let front : is_earlier q e ≡ true =
          ap is_lt (path_total.antisymm e.0 q ∙ ap ordering_reverse is) in
          ap (λ o. by_order o ((q, v) ∷ e ∷ xs) ((e.0, v) ∷ xs) (e ∷ put path_cmp q v xs)) is
          ∙ (ap (λ ys. e ∷ ys)
          (rest (sym (ap (λ o. cond (is_eq o) (Some e.1) (find path_cmp q xs)) is) ∙ miss))
          ∙ sym (ap (λ b. cond b (e ∷ earlier q xs) (earlier q xs) ++ (q, v)
          ∷ cond (not b) (e ∷ later q xs) (later q xs)) front))
    ] refl

module _ (q : Path) (es : Answers) (at : ℕ) (sorted : AreSorted es)
    (counted : at ≡ length (earlier q es)) where
  rising : Rising es
  rising = rising_of es sorted

  parts : es ≡ earlier q es ++ later q es
  parts = two_parts q es rising

  got : get (positions_with es) q ≡ find path_cmp q (later q es)
  got = get-from_sorted path_cmp es q (holds _ sorted) ∙ find_late q es

  first_later : (x : Path × ℕ) → at < length es →
      x ≡ slice_index_or es at x → (rest : Answers) × (later q es ≡ x ∷ rest)
  first_later x l is = seam (earlier q es) (later q es) x
      (subst (λ n. n < length (earlier q es ++ later q es)) counted
      (subst (λ xs. at < length xs) parts l))
      (is ∙ ap₂ (λ xs n. slice_index_or xs n x) parts counted)

  pub there : (x : Path × ℕ) → at < length es → x ≡ slice_index_or es at x →
      eq_by_cmp path_cmp x.0 q ≡ true → Some x.1 ≡ get (positions_with es) q
  there x l is same =
      let f = first_later x l is in
      sym (got ∙ (ap (find path_cmp q) f.1 ∙ ap (λ b. cond b (Some x.1) (find path_cmp q f.0))
      (ap (eq_by_cmp path_cmp q) (same_path x.0 q same) ∙ path_itself q)))

  pub not_there : (x : Path × ℕ) → at < length es → x ≡ slice_index_or es at x →
      eq_by_cmp path_cmp x.0 q ≡ false → None ≡ get (positions_with es) q
  not_there x l is other =
      let f = first_later x l is in
      let up : Rising (x ∷ f.0) = subst Rising f.1 (rising_later q es rising) in
      let low : is_earlier q x ≡ false =
      (subst (AllByRecursion (λ e. is_earlier q e ≡ false)) f.1 (each_later q es)).0 in
      sym (got ∙ (ap (find path_cmp q) f.1
      ∙ find_after q (x ∷ f.0) (after q x f.0 up low other (path_cmp q x.0) refl)))

  pub past_end : length es ≤ at → None ≡ get (positions_with es) q
  past_end l =
      sym (got ∙ ap (find path_cmp q) (ended (earlier q es) (later q es) (subst (λ n. length
      (earlier q es ++ later q es) ≤ n) counted (subst (λ xs. length xs ≤ at) parts l))))

  -- a new answer in its place
  pub put_there : (v : ℕ) → get (positions_with es) q ≡ None → (new : Answers) →
      new ≡ take at es ++ (q, v) ∷ drop at es → new ≡ put path_cmp q v es
  put_there v none new is =
      is ∙ (ap₂ (λ xs n. take n xs ++ (q, v) ∷ drop n xs) parts counted
      ∙ (ap₂ (λ xs ys. xs ++ (q, v) ∷ ys) (take-append_seam (earlier q es) (later q es))
      (drop-append_seam (earlier q es) (later q es))
      ∙ sym (placed q v es rising (sym (get-from_sorted path_cmp es q (holds _ sorted)) ∙ none))))

-- the map of what was put in its place
pub put_sorted : (q : Path) (v : ℕ) (es new : Answers) → AreSorted es → new ≡ put path_cmp q v es →
    AreSorted new × (positions_with new ≡ insert (positions_with es) q v)
put_sorted q v es new sorted is =
    let m = positions_with es in
    let listed : entries (insert m q v) ≡ new = entries-insert path_total m q v
    ∙ (ap (put path_cmp q v) (entries-from_sorted path_cmp es (holds _ sorted)) ∙ sym is) in
    let up : AreSorted new = subst AreSorted listed (is_true _ (entries_sorted (insert m q v))) in
    (up, same_entries_map _ _ (entries-from_sorted path_cmp new (holds _ up) ∙ sym listed))

no_entries : (es : Answers) → ((q : Path) → find path_cmp q es ≡ None) → es ≡ []
no_entries [] h = refl
no_entries (e ∷ es) h =
    absurd (no_Some e.1
    (sym (ap (λ b. cond b (Some e.1) (find path_cmp e.0 es)) (path_itself e.0)) ∙ h e.0))

pub none_yet : (es : Answers) → es ≡ [] → AreSorted es × (positions_with es ≡ empty)
none_yet es is = (
  ap (is_sorted path_cmp) is,
  same_entries_map _ _
      (ap (λ xs. entries (positions_with xs)) is ∙ (entries-from_sorted path_cmp [] tt
      ∙ sym (no_entries (entries (empty {X = ℕ} {R = path_cmp}))
      (λ q. sym (get-entries (empty {X = ℕ} {R = path_cmp}) q) ∙ get-empty path_cmp q)))),
)

pub few_earlier : (q : Path) (es : Answers) → AreSorted es → length (earlier q es) ≤ length es
few_earlier q es sorted =
    omega (
      arith,
      ap length (two_parts q es (rising_of es sorted)),
      length-append (earlier q es) (later q es),
    )

any_mapped : (f : Path → Bool) (es : Answers) →
    list_any (λ e. f e.0) es ≡ list_any f (map (λ e. e.0) es)
any_mapped f [] = refl
any_mapped f (e ∷ es) = ap (λ b. f e.0 || b) (any_mapped f es)

pub any_key : (f : Path → Bool) (es : Answers) → AreSorted es →
    list_any (λ e. f e.0) es ≡ list_any f (keys (positions_with es))
any_key f es sorted =
    any_mapped f es ∙ ap (λ xs. list_any f (map (λ e. e.0) xs))
    (sym (entries-from_sorted path_cmp es (holds _ sorted)))
