-- The first directory that is open.
use Rattle.std.proofs.Common.{◌≡◌, ◌<◌, ℕ, zero, suc, Bool, true, false, cond, not, ◌&&◌, ◌||◌}
use Rattle.std.proofs.Common.{List, [], ◌∷◌}
use Rattle.std.proofs.Common.{◌++◌, ◌≤◌, is_some, length, slice_index_or, refl, sym, ap}
use Rattle.std.proofs.Common.{ap₂, ◌∙◌, subst, Option, Some, None, Less, is_lt, is_eq, true≢false}
use Rattle.std.proofs.Common.{arith, ◌⊎◌, inl, inr}
use Rattle.std.specs.Ordering.{eq_by_cmp, ordering_reverse}
use Rattle.std.specs.Cmp.{tied_itself, eq_by_cmp_equiv}
use Rattle.std.specs.FinMap.{find, entries, get, get-entries, insert, contains_key, get-insert}
use Rattle.std.proofs.lemmas.Option.{none-some, same_Some}
use Rattle.syn_model.specs.Path.{Path, path_cmp}
use Rattle.syn_model.specs.Tree.{Tree, Content, Pair, replace, is_directory_content}
use Rattle.syn_model.proofs.PathLemmas.{path_total, same_path, path_itself}
use Rattle.syn_placed.specs.Pairs.{Pairs}
use Rattle.syn_placed.proofs.RisingLemmas.{Rising, After}
use Rattle.syn_placed.proofs.TreeLemmas.{rising-entries}
use Rattle.syn_scan.specs.inner.Kept.{is_open_entry, is_next_entry, NoneNext, with_tree}
use Rattle.syn_scan.specs.Asked.{with_no_directory, is_next, is_out, without, IsNext, AreAllOut}
use Rattle.syn_scan.specs.Found.{Found, Positions, is_open, was_listed, was_no_directory}

later : (p q : Path) (es : Pairs) (c : Content) → After p es → find path_cmp q es ≡ Some c →
    path_cmp p q ≡ Less
later p q [] c h e = absurd (none-some _ e)
later p q (x ∷ es) c h e =
    elim (eq_by_cmp path_cmp q x.0) as (λ b. eq_by_cmp path_cmp q x.0 ≡ b →
    cond b (Some x.1) (find path_cmp q es) ≡ Some c → path_cmp p q ≡ Less) [
      | true ↦ λ is _. ap (path_cmp p) (same_path q x.0 is) ∙ h.0
      | false ↦ λ _ more. later p q es c h.1 more
    ] refl e

-- none of so many in front passes
abbrev NonePasses : (Pair → Bool) → Pairs → ℕ → Type 0
NonePasses test pairs count = (at : ℕ) (pair : Pair) → at < count →
    test (slice_index_or pairs at pair) ≡ false

-- The first that passes

module _ (test : Pair → Bool) where
  down : (x : Pair) (es : Pairs) (n : ℕ) → NonePasses test (x ∷ es) (suc n) → NonePasses test es n
  down x es n h i d l = h (suc i) d (omega arith)

  pair_is : (q : Path) (c : Content) (x : Pair) → q ≡ x.0 → x.1 ≡ c → ◌≡◌ {A = Pair} (q, c) x
  pair_is q c x a b = λ i. (a i, sym b i)

  first_of : (es : Pairs) (n : ℕ) (e : Pair) → Rising es → NonePasses test es n →
      n < length es → e ≡ slice_index_or es n e → (q : Path) (c : Content) →
      find path_cmp q es ≡ Some c → test (q, c) ≡ true → is_lt (path_cmp q e.0) ≡ false
  first_of [] n e up none l is q c at o = absurd (omega arith)
  first_of (x ∷ es) zero e up none l is q c at o =
      elim (eq_by_cmp path_cmp q x.0) as (λ b. eq_by_cmp path_cmp q x.0 ≡ b →
      cond b (Some x.1) (find path_cmp q es) ≡ Some c → is_lt (path_cmp q e.0) ≡ false) [
        | true ↦ λ same _. ap is_lt (ap (path_cmp q)
            (ap (λ (y : Pair). y.0) is ∙ sym (same_path q x.0 same)) ∙ tied_itself path_total q)
        | false ↦ λ _ more. ap is_lt (path_total.antisymm q e.0 ∙ ap ordering_reverse
            (ap (λ (y : Pair). path_cmp y.0 q) is ∙ later x.0 q es c up.0 more))
      ] refl at
  first_of (x ∷ es) (suc n) e up none l is q c at o =
      elim (eq_by_cmp path_cmp q x.0) as (λ b. eq_by_cmp path_cmp q x.0 ≡ b →
      cond b (Some x.1) (find path_cmp q es) ≡ Some c → is_lt (path_cmp q e.0) ≡ false) [
        | true ↦ λ same here. absurd (true≢false (sym o ∙ (ap test
            (pair_is q c x (same_path q x.0 same) (same_Some _ _ here)) ∙ none 0 x (omega arith))))
        | false ↦ λ _ more. first_of es n e up.1 (down x es n none) (omega arith) is q c more o
      ] refl at

  none_of : (es : Pairs) → NonePasses test es (length es) → (q : Path) (c : Content) →
      find path_cmp q es ≡ Some c → test (q, c) ≡ false
  none_of [] none q c at = absurd (none-some _ at)
  none_of (x ∷ es) none q c at =
      elim (eq_by_cmp path_cmp q x.0) as (λ b. eq_by_cmp path_cmp q x.0 ≡ b →
      cond b (Some x.1) (find path_cmp q es) ≡ Some c → test (q, c) ≡ false) [
        | true ↦ λ same here. ap test
            (pair_is q c x (same_path q x.0 same) (same_Some _ _ here)) ∙ none 0 x (omega arith)
        | false ↦ λ _ more. none_of es (down x es (length es) none) q c more
      ] refl at

after_at : (p : Path) (es : Pairs) (n : ℕ) (e : Pair) → After p es → n < length es →
    e ≡ slice_index_or es n e → path_cmp p e.0 ≡ Less
after_at p [] n e h l is = absurd (omega arith)
after_at p (x ∷ es) zero e h l is = ap (λ (y : Pair). path_cmp p y.0) is ∙ h.0
after_at p (x ∷ es) (suc n) e h l is = after_at p es n e h.1 (omega arith) is

found_at : (es : Pairs) (n : ℕ) (e : Pair) → Rising es → n < length es → e ≡ slice_index_or es n e →
    find path_cmp e.0 es ≡ Some e.1
found_at [] n e up l is = absurd (omega arith)
found_at (x ∷ es) zero e up l is =
    ap₂ (λ b c. cond b (Some c) (find path_cmp e.0 es))
    (ap (λ (y : Pair). eq_by_cmp path_cmp e.0 y.0) (sym is) ∙ path_itself e.0)
    (ap (λ (y : Pair). y.1) (sym is))
found_at (x ∷ es) (suc n) e up l is =
    ap (λ o. cond (is_eq o) (Some x.1) (find path_cmp e.0 es)) (path_total.antisymm e.0 x.0
    ∙ ap ordering_reverse (after_at x.0 es n e up.0 (omega arith) is))
    ∙ found_at es n e up.1 (omega arith) is

-- what is at a path decides whether it is open
at_path : (found : Found) (out : List Path) (p : Path) (c : Content) → get found.marks p ≡ Some c →
    is_next found out p ≡ is_next_entry found out (p, c)
at_path found out p c here =
    ap (λ o. is_directory_content o && not (was_listed found p) && not (was_no_directory found p)
    && not (is_out out p)) here

by_content : (found : Found) (out : List Path) (q : Path) (P : Bool → Type 0) → P false →
    ((c : Content) → get found.marks q ≡ Some c → P (is_next_entry found out (q, c))) →
    P (is_next found out q)
by_content found out q P absent present = at (get found.marks q) refl
  where
    at : (o : Option Content) → get found.marks q ≡ o → P (is_next found out q)
    at None e =
        subst P (sym (ap (λ o. is_directory_content o && not (was_listed found q)
        && not (was_no_directory found q) && not (is_out out q)) e)) absent
    at (Some c) e = subst P (sym (at_path found out q c e)) (present c e)

both_parts : (a b : Bool) → (a && not b) ≡ true → (a ≡ true) × (b ≡ false)
both_parts true false e = (refl, refl)
both_parts true true e = absurd (true≢false (sym e))
both_parts false b e = absurd (true≢false (sym e))

pub first_is : (found : Found) (out : List Path) (n : ℕ) (e : Pair) (p : Path) →
    NoneNext found out (entries found.marks) n → n < length (entries found.marks) →
    e ≡ slice_index_or (entries found.marks) n e → is_next_entry found out e ≡ true → p ≡ e.0 →
    IsNext (record { found = found; out = out }) p
first_is found out n e p none l is o at =
    let es = entries found.marks in
    let here : is_next found out p ≡ true = ap (is_next found out) at
    ∙ (at_path found out e.0 e.1
    (get-entries found.marks e.0 ∙ found_at es n e (rising-entries found.marks) l is) ∙ o) in
    let both = both_parts (is_open found p) (is_out out p) here in
    record {
      opened = both.0;
      unasked = both.1;
      first =
          λ q. by_content found out q (λ b. b ≡ true → is_lt (path_cmp q p) ≡ false)
          (λ h. absurd (true≢false (sym h)))
          (λ c here h. ap (λ w. is_lt (path_cmp q w)) at
          ∙ first_of (is_next_entry found out) es n e (rising-entries found.marks) none l is q c
          (sym (get-entries found.marks q) ∙ here) h);
    }

pub all_out : (found : Found) (out : List Path) (n : ℕ) →
    NoneNext found out (entries found.marks) n → length (entries found.marks) ≤ n →
    AreAllOut (record { found = found; out = out })
all_out found out n none l q =
    by_content found out q (λ b. b ≡ false) refl
    (λ c here. none_of (is_next_entry found out) (entries found.marks)
    (λ i d k. none i d (omega (arith, k, l))) q c (sym (get-entries found.marks q) ∙ here))

-- What is out

-- one more is out
pub is_out-push : (out : List Path) (p q : Path) →
    is_out (out ++ p ∷ []) q ≡ (is_out out q || eq_by_cmp path_cmp q p)
is_out-push [] p q = or_false (eq_by_cmp path_cmp q p)
  where
    or_false : (b : Bool) → (b || false) ≡ b
    or_false true = refl
    or_false false = refl
is_out-push (x ∷ out) p q =
    ap (λ b. eq_by_cmp path_cmp q x || b) (is_out-push out p q)
    ∙ or_assoc (eq_by_cmp path_cmp q x) (is_out out q) (eq_by_cmp path_cmp q p)
  where
    or_assoc : (a b c : Bool) → (a || (b || c)) ≡ ((a || b) || c)
    or_assoc true b c = refl
    or_assoc false b c = refl

-- one other is out no more
pub is_out-without : (out : List Path) (p q : Path) → eq_by_cmp path_cmp p q ≡ false →
    is_out out q ≡ true → is_out (without out p) q ≡ true
is_out-without [] p q other is = is
is_out-without (x ∷ out) p q other is =
    elim (eq_by_cmp path_cmp p x) as (λ b. eq_by_cmp path_cmp p x ≡ b →
    is_out (cond (not b) (x ∷ without out p) (without out p)) q ≡ true) [
      | true ↦ λ same. is_out-without out p q other (rest (eq_by_cmp path_cmp q x) (is_out out q)
          (ap (λ y. eq_by_cmp path_cmp q y) (sym (same_path p x same))
          ∙ ((eq_by_cmp_equiv path_total).symm q p ∙ other)) is)
      | false ↦ λ _. either (eq_by_cmp path_cmp q x) (is_out out q) (is_out (without out p) q)
          (is_out-without out p q other) is
    ] refl
  where
    rest : (a b : Bool) → a ≡ false → (a || b) ≡ true → b ≡ true
    rest true b off e = absurd (true≢false off)
    rest false b off e = e

    either : (a b c : Bool) → (b ≡ true → c ≡ true) → (a || b) ≡ true → (a || c) ≡ true
    either true b c h e = refl
    either false b c h e = h e

-- an entry that is passed stays so: where more is out
pub passed_then_out : (found : Found) (out : List Path) (p : Path) (n : ℕ) →
    NoneNext found out (entries found.marks) n →
    NoneNext found (out ++ p ∷ []) (entries found.marks) n
passed_then_out found out p n none i d l =
    let e = slice_index_or (entries found.marks) i d in
    fewer (is_open_entry found e) (is_out out e.0) (eq_by_cmp path_cmp e.0 p) (none i d l)
    (is_out-push out p e.0)
  where
    fewer : (a b c : Bool) → (a && not b) ≡ false → {o : Bool} → o ≡ (b || c) →
        (a && not o) ≡ false
    fewer false b c e is = refl
    fewer true true c e is = ap not is
    fewer true false c e is = absurd (true≢false e)

-- and where the directory was answered
still_passed : (old new : Found) (out : List Path) (p : Path) (e : Pair) →
    (is_open_entry old e ≡ false → is_open_entry new e ≡ false) →
    (eq_by_cmp path_cmp p e.0 ≡ true → is_open_entry new e ≡ false) →
    is_next_entry old out e ≡ false → is_next_entry new (without out p) e ≡ false
still_passed old new out p e shut answered passed =
    by (is_open_entry new e) (is_open_entry old e) (is_out out e.0) (eq_by_cmp path_cmp p e.0)
    (is_out (without out p) e.0) shut answered (is_out-without out p e.0) passed
  where
    by : (new old out same later : Bool) → (old ≡ false → new ≡ false) →
        (same ≡ true → new ≡ false) → (same ≡ false → out ≡ true → later ≡ true) →
        (old && not out) ≡ false → (new && not later) ≡ false
    by false old out same later h k r e = refl
    by true false out same later h k r e = absurd (true≢false (h refl))
    by true true out true later h k r e = absurd (true≢false (k refl))
    by true true true false later h k r e = ap not (r refl refl)
    by true true false false later h k r e = absurd (true≢false e)

-- What stays passed

shut : (a b b' c c' : Bool) → (b ≡ true → b' ≡ true) → (c ≡ true → c' ≡ true) →
    (a && not b && not c) ≡ false → (a && not b' && not c') ≡ false
shut false b b' c c' h k e = refl
shut true true b' c c' h k e = ap (λ x. not x && not c') (h refl)
shut true false b' true c' h k e = ap (λ x. not b' && not x) (k refl) ∙ never (not b')
  where
    never : (x : Bool) → (x && false) ≡ false
    never true = refl
    never false = refl
shut true false b' false c' h k e = absurd (true≢false e)

-- an entry that is not open stays so with more answers
entry_shut : (old new : Found) (e : Pair) →
    (was_listed old e.0 ≡ true → was_listed new e.0 ≡ true) →
    (was_no_directory old e.0 ≡ true → was_no_directory new e.0 ≡ true) →
    is_open_entry old e ≡ false → is_open_entry new e ≡ false
entry_shut old new e h k =
    shut (is_directory_content (Some e.1)) (was_listed old e.0) (was_listed new e.0)
    (was_no_directory old e.0) (was_no_directory new e.0) h k

key_stays : (m : Positions) (p : Path) (k : ℕ) (q : Path) → contains_key m q ≡ true →
    contains_key (insert m p k) q ≡ true
key_stays m p k q h =
    ap is_some (get-insert path_total m p k q) ∙ elim (eq_by_cmp path_cmp q p)
    as (λ b. is_some (cond b (Some k) (get m q)) ≡ true) [ true ↦ refl | false ↦ h ]

-- the answer for a path shuts its entry
shut_by : (a b c : Bool) → (b ≡ true) ⊎ (c ≡ true) → (a && not b && not c) ≡ false
shut_by a true c (inl e) = never a c
  where
    never : (a c : Bool) → (a && false && not c) ≡ false
    never true c = refl
    never false c = refl
shut_by a false c (inl e) = absurd (true≢false (sym e))
shut_by a b true (inr e) = never (a && not b)
  where
    never : (x : Bool) → (x && false) ≡ false
    never true = refl
    never false = refl
shut_by a b false (inr e) = absurd (true≢false (sym e))

key_now : (m : Positions) (p : Path) (k : ℕ) (q : Path) → eq_by_cmp path_cmp p q ≡ true →
    contains_key (insert m p k) q ≡ true
key_now m p k q same =
    ap is_some (get-insert path_total m p k q) ∙ ap (λ b. is_some (cond b (Some k) (get m q)))
    ((eq_by_cmp_equiv path_total).symm q p ∙ same)

pub passed_after_refusal : (old : Found) (out : List Path) (p : Path) (k n : ℕ) →
    NoneNext old out (entries old.marks) n →
    NoneNext (with_no_directory old p k) (without out p) (entries old.marks) n
passed_after_refusal old out p k n none i d l =
    let e = slice_index_or (entries old.marks) i d in
    let new = with_no_directory old p k in
    still_passed old new out p e
    (entry_shut old new e (λ h. h) (key_stays old.not_dirs p k e.0))
    (λ same. shut_by (is_directory_content (Some e.1)) (was_listed new e.0)
    (was_no_directory new e.0) (inr (key_now old.not_dirs p k e.0 same))) (none i d l)

in_front : (xs ys zs : Pairs) (i : ℕ) (d : Pair) → i < length xs →
    slice_index_or (xs ++ ys) i d ≡ slice_index_or (xs ++ zs) i d
in_front [] ys zs i d l = absurd (omega arith)
in_front (x ∷ xs) ys zs zero d l = refl
in_front (x ∷ xs) ys zs (suc i) d l = in_front xs ys zs i d (omega arith)

-- the entries in front of the directory that is listed stay passed
pub passed_after_listing : (old : Found) (out : List Path) (p : Path) (k n : ℕ) (u : Tree)
    (front back more : Pairs) (here : Pair) → entries old.marks ≡ front ++ (here ∷ back) →
    entries (replace old.marks p u) ≡ front ++ (here ∷ more) → n ≤ length front →
    NoneNext old out (entries old.marks) n →
    NoneNext (with_tree old p k u) (without out p) (entries (replace old.marks p u)) n
passed_after_listing old out p k n u front back more here was now few none i d l =
    let same : slice_index_or (entries old.marks) i d
    ≡ slice_index_or (entries (replace old.marks p u)) i d =
    ap (λ es. slice_index_or es i d) was ∙ (in_front front (here ∷ back) (here ∷ more) i d
    (omega (arith, l, few)) ∙ sym (ap (λ es. slice_index_or es i d) now)) in
    let e = slice_index_or (entries (replace old.marks p u)) i d in
    let new = with_tree old p k u in
    still_passed old new out p e
    (entry_shut old new e (key_stays old.listed p k e.0) (λ h. h))
    (λ same. shut_by (is_directory_content (Some e.1)) (was_listed new e.0)
    (was_no_directory new e.0) (inl (key_now old.listed p k e.0 same)))
    (ap (is_next_entry old out) (sym same) ∙ none i d l)
