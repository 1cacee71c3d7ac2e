-- Two lists of paths in path order, merged: the rows stand in path order, and each says in which
-- lists its path is.
use Rattle.std.proofs.Common.{◌≡◌, Bool, true, false, ◌||◌, List, [], ◌∷◌, map, refl, sym, ap, ap₂}
use Rattle.std.proofs.Common.{◌∙◌, subst, Less, Equal, Greater, is_eq, true≢false, inl, inr}
use Rattle.std.specs.List.{AllByRecursion}
use Rattle.std.specs.List.Sorted.{IsStrictlySortedBy}
use Rattle.std.specs.Ordering.{eq_by_cmp, ordering_reverse}
use Rattle.std.specs.FinMap.Entries.{by_order}
use Rattle.std.proofs.lemmas.Bool.{or_cases, or_right}
use Rattle.std.proofs.lemmas.Map.Keys.{sorted_head, sorted_tail}
use Rattle.syn_model.specs.Path.{Path, path_cmp}
use Rattle.syn_model.proofs.PathLemmas.{path_total, same_path, path_itself, turned}
use Rattle.syn_dirty.specs.Paths.{is_among}
use Rattle.syn_recon.specs.inner.Walks.{Row, Rows, on_left, on_right, on_both, among, merged}
use Rattle.syn_model.proofs.BaseLemmas.{or_assoc}

-- after a path
abbrev pub After : Path → List Path → Type 0
After p qs = AllByRecursion (λ q. path_cmp p q ≡ Less) qs

abbrev pub Rising : List Path → Type 0
Rising [] = Unit {0}
Rising (p ∷ ps) = After p ps × Rising ps

pub rising_of : (ps : List Path) → IsStrictlySortedBy path_cmp ps → Rising ps
rising_of [] h = tt
rising_of (p ∷ ps) h = (sorted_head path_cmp p ps h, rising_of ps (sorted_tail path_cmp p ps h))

abbrev pub AfterRow : Path → Rows → Type 0
AfterRow p rows = AllByRecursion (λ row. path_cmp p row.0 ≡ Less) rows

abbrev pub RisingRows : Rows → Type 0
RisingRows [] = Unit {0}
RisingRows (row ∷ rows) = AfterRow row.0 rows × RisingRows rows

after_more : (q p : Path) (es : List Path) → path_cmp q p ≡ Less → After p es → After q es
after_more q p [] less h = tt
after_more q p (e ∷ es) less h = (path_total.trans q p e less h.0, after_more q p es less h.1)

-- ---- in path order

after_right : (q : Path) (es : List Path) → After q es → AfterRow q (map on_right es)
after_right q [] h = tt
after_right q (e ∷ es) h = (h.0, after_right q es h.1)

rising_right : (es : List Path) → Rising es → RisingRows (map on_right es)
rising_right [] h = tt
rising_right (e ∷ es) h = (after_right e es h.0, rising_right es h.1)

after_among : (q l : Path) (later : List Path → Rows) →
    ((rs : List Path) → After q rs → AfterRow q (later rs)) →
    path_cmp q l ≡ Less → (rs : List Path) → After q rs → AfterRow q (among l later rs)
after_among q l later h less [] a = (less, h [] tt)
after_among q l later h less (r ∷ rs) a =
    let rest = after_among q l later h less rs a.1 in
    elim (path_cmp l r) as (λ o. AfterRow q (by_order o (on_left l ∷ later (r ∷ rs))
    (on_both l ∷ later rs) (on_right r ∷ among l later rs))) [
      | Less ↦ (less, h (r ∷ rs) a)
      | Equal ↦ (less, h rs a.1)
      | Greater ↦ (a.0, rest)
    ]

after_merged : (q : Path) (ls rs : List Path) → After q ls → After q rs → AfterRow q (merged ls rs)
after_merged q [] rs h k = after_right q rs k
after_merged q (l ∷ ls) rs h k =
    after_among q l (merged ls) (λ rs a. after_merged q ls rs h.1 a) h.0 rs k

rising_among : (l : Path) (ls : List Path) (later : List Path → Rows) →
    ((rs : List Path) → Rising rs → RisingRows (later rs)) →
    ((q : Path) (rs : List Path) → After q ls → After q rs → AfterRow q (later rs)) →
    After l ls → (rs : List Path) → Rising rs → RisingRows (among l later rs)
rising_among l ls later up after a [] h = (after l [] a tt, up [] tt)
rising_among l ls later up after a (r ∷ rs) h =
    let rest = rising_among l ls later up after a rs h.1 in
    elim (path_cmp l r) as (λ o. path_cmp l r ≡ o → RisingRows (by_order o
    (on_left l ∷ later (r ∷ rs)) (on_both l ∷ later rs) (on_right r ∷ among l later rs))) [
      | Less ↦ λ e. (after l (r ∷ rs) a (e, after_more l r rs e h.0), up (r ∷ rs) h)
      | Equal ↦ λ e.
          (after l rs a (subst (λ p. After p rs) (sym (same_path l r (ap is_eq e))) h.0), up rs h.1)
      | Greater ↦ λ e.
          let less = turned l r e in (
            after_among r l later
                (λ others k. after r others (after_more r l ls less a) k) less rs h.0,
            rest,
          )
    ] refl

pub rising_merged : (ls rs : List Path) → Rising ls → Rising rs → RisingRows (merged ls rs)
rising_merged [] rs h k = rising_right rs k
rising_merged (l ∷ ls) rs h k =
    rising_among l ls (merged ls) (λ rs a. rising_merged ls rs h.1 a)
    (λ q rs a b. after_merged q ls rs a b) h.0 rs k

-- ---- the paths of the rows

abbrev pub paths_in : Rows → List Path
paths_in rows = map (λ row. row.0) rows

among_right : (q : Path) (rs : List Path) → is_among (paths_in (map on_right rs)) q ≡ is_among rs q
among_right q [] = refl
among_right q (r ∷ rs) = ap (λ b. eq_by_cmp path_cmp q r || b) (among_right q rs)

or_same : (a b c : Bool) → (a || (b || c)) ≡ (b || (a || c))
or_same true true c = refl
or_same true false c = refl
or_same false true c = refl
or_same false false c = refl

among_both : (q l : Path) (ls : List Path) (later : List Path → Rows) → ((rs : List Path) →
    is_among (paths_in (later rs)) q ≡ (is_among ls q || is_among rs q)) → (rs : List Path) →
    is_among (paths_in (among l later rs)) q ≡ (is_among (l ∷ ls) q || is_among rs q)
among_both q l ls later ih [] =
    ap (λ b. eq_by_cmp path_cmp q l || b) (ih [])
    ∙ or_assoc (eq_by_cmp path_cmp q l) (is_among ls q) false
among_both q l ls later ih (r ∷ rs) =
    let rest = among_both q l ls later ih rs in
    let a : Bool = eq_by_cmp path_cmp q l in
    let b : Bool = eq_by_cmp path_cmp q r in
    elim (path_cmp l r) as (λ o. path_cmp l r ≡ o →
    is_among (paths_in (by_order o (on_left l ∷ later (r ∷ rs)) (on_both l ∷ later rs)
    (on_right r ∷ among l later rs))) q ≡ ((a || is_among ls q) || (b || is_among rs q))) [
      | Less ↦ λ _. ap (λ c. a || c) (ih (r ∷ rs)) ∙ or_assoc a (is_among ls q) (b || is_among rs q)
      | Equal ↦ λ e.
          let at : l ≡ r = same_path l r (ap is_eq e) in
          ap (λ c. a || c) (ih rs) ∙ (or_assoc a (is_among ls q) (is_among rs q)
          ∙ (absorbed a (is_among ls q) (is_among rs q)
          ∙ ap (λ p. (a || is_among ls q) || (eq_by_cmp path_cmp q p || is_among rs q)) at))
      | Greater ↦ λ _. ap (λ c. b || c) rest ∙ or_same b (a || is_among ls q) (is_among rs q)
    ] refl
  where
    absorbed : (a b c : Bool) → ((a || b) || c) ≡ ((a || b) || (a || c))
    absorbed true b c = refl
    absorbed false b c = refl

pub among_merged : (q : Path) (ls rs : List Path) →
    is_among (paths_in (merged ls rs)) q ≡ (is_among ls q || is_among rs q)
among_merged q [] rs = among_right q rs
among_merged q (l ∷ ls) rs = among_both q l ls (merged ls) (λ rs. among_merged q ls rs) rs

-- ---- what each row says

abbrev pub Says : List Path → List Path → Row → Type 0
Says ls rs row = (row.1 ≡ is_among ls row.0) × (row.2 ≡ is_among rs row.0)

not_before : (p : Path) (qs : List Path) → After p qs → is_among qs p ≡ false
not_before p [] a = refl
not_before p (q ∷ qs) a = ap₂ (λ o b. is_eq o || b) a.0 (not_before p qs a.1)

later_of : (p q : Path) (qs : List Path) → After p qs → is_among qs q ≡ true → path_cmp p q ≡ Less
later_of p q [] a e = absurd (true≢false (sym e))
later_of p q (x ∷ qs) a e =
    let rest = later_of p q qs a.1 in
    elim (or_cases (eq_by_cmp path_cmp q x) (is_among qs q) e) as (λ _. path_cmp p q ≡ Less) [
      | inl same ↦ ap (path_cmp p) (same_path q x same) ∙ a.0
      | inr there ↦ rest there
    ]

-- of a path in one of two lists, two others tell the same
abbrev Agree : List Path → List Path → List Path → List Path → Type 0
Agree L R ls rs =
    (q : Path) → (is_among ls q || is_among rs q) ≡ true →
    (is_among L q ≡ is_among ls q) × (is_among R q ≡ is_among rs q)

abbrev Flags : List Path → List Path → Rows → Type 0
Flags L R rows = AllByRecursion (Says L R) rows

-- no path after another is that one
other_of : (l q : Path) (ls rs : List Path) → After l ls → After l rs →
    (is_among ls q || is_among rs q) ≡ true → eq_by_cmp path_cmp q l ≡ false
other_of l q ls rs a b e =
    elim (or_cases (is_among ls q) (is_among rs q) e) as (λ _. eq_by_cmp path_cmp q l ≡ false) [
      | inl left ↦ ap is_eq (path_total.antisymm q l ∙ ap ordering_reverse (later_of l q ls a left))
      | inr right ↦ ap is_eq
          (path_total.antisymm q l ∙ ap ordering_reverse (later_of l q rs b right))
    ]

agree_left : (L R : List Path) (l : Path) (ls rs : List Path) → After l ls → After l rs →
    Agree L R (l ∷ ls) rs → Agree L R ls rs
agree_left L R l ls rs a b h q e =
    let other = other_of l q ls rs a b e in
    let both = h q (ap (λ c. (c || is_among ls q) || is_among rs q) other ∙ e) in
    (both.0 ∙ ap (λ c. c || is_among ls q) other, both.1)

agree_right : (L R : List Path) (r : Path) (ls rs : List Path) → After r ls → After r rs →
    Agree L R ls (r ∷ rs) → Agree L R ls rs
agree_right L R r ls rs a b h q e =
    let other = other_of r q ls rs a b e in
    let both = h q (ap (λ c. is_among ls q || (c || is_among rs q)) other ∙ e) in
    (both.0, both.1 ∙ ap (λ c. c || is_among rs q) other)

agree_equal : (L R : List Path) (l r : Path) (ls rs : List Path) → l ≡ r → After l ls → After l rs →
    Agree L R (l ∷ ls) (r ∷ rs) → Agree L R ls rs
agree_equal L R l r ls rs at a b h q e =
    let other = other_of l q ls rs a b e in
    let other_right : eq_by_cmp path_cmp q r ≡ false = ap (eq_by_cmp path_cmp q) (sym at) ∙ other in
    let both =
    h q (ap₂ (λ c d. (c || is_among ls q) || (d || is_among rs q)) other other_right ∙ e) in
    (both.0 ∙ ap (λ c. c || is_among ls q) other, both.1 ∙ ap (λ c. c || is_among rs q) other_right)

itself_among : (q : Path) (qs : List Path) → is_among (q ∷ qs) q ≡ true
itself_among q qs = ap (λ b. b || is_among qs q) (path_itself q)

right_flags : (L R rs : List Path) → Rising rs → Agree L R [] rs → Flags L R (map on_right rs)
right_flags L R [] up h = tt
right_flags L R (r ∷ rs) up h =
    let both = h r (itself_among r rs) in (
      (sym both.0, sym (both.1 ∙ itself_among r rs)),
      right_flags L R rs up.1 (agree_right L R r [] rs tt up.0 h),
    )

or_left : (a b : Bool) → a ≡ true → (a || b) ≡ true
or_left a b h = ap (λ c. c || b) h

among_flags : (L R : List Path) (l : Path) (ls : List Path) (later : List Path → Rows) →
    ((rs : List Path) → Rising rs → Agree L R ls rs → Flags L R (later rs)) → After l ls →
    (rs : List Path) → Rising rs → Agree L R (l ∷ ls) rs → Flags L R (among l later rs)
among_flags L R l ls later ih a [] up h =
    let both = h l (or_left (is_among (l ∷ ls) l) false (itself_among l ls)) in
    ((sym (both.0 ∙ itself_among l ls), sym both.1), ih [] tt (agree_left L R l ls [] a tt h))
among_flags L R l ls later ih a (r ∷ rs) up h =
    let rest = among_flags L R l ls later ih a rs up.1 in
    elim (path_cmp l r) as (λ o. path_cmp l r ≡ o → Flags L R (by_order o
    (on_left l ∷ later (r ∷ rs)) (on_both l ∷ later rs) (on_right r ∷ among l later rs))) [
      | Less ↦ λ e.
          let both =
          h l (or_left (is_among (l ∷ ls) l) (is_among (r ∷ rs) l) (itself_among l ls)) in
          let beyond : After l (r ∷ rs) = (e, after_more l r rs e up.0) in (
            (sym (both.0 ∙ itself_among l ls), sym (both.1 ∙ not_before l (r ∷ rs) beyond)),
            ih (r ∷ rs) up (agree_left L R l ls (r ∷ rs) a beyond h),
          )
      | Equal ↦ λ e.
          let at : l ≡ r = same_path l r (ap is_eq e) in
          let both =
          h l (or_left (is_among (l ∷ ls) l) (is_among (r ∷ rs) l) (itself_among l ls)) in
          let beyond : After l rs = subst (λ p. After p rs) (sym at) up.0 in (
            (
              sym (both.0 ∙ itself_among l ls),
              sym (both.1 ∙ (ap (λ w. is_among (w ∷ rs) l) (sym at) ∙ itself_among l rs)),
            ),
            ih rs up.1 (agree_equal L R l r ls rs at a beyond h),
          )
      | Greater ↦ λ e.
          let less = turned l r e in
          let beyond : After r (l ∷ ls) = (less, after_more r l ls less a) in
          let both =
          h r (or_right (is_among (l ∷ ls) r) (is_among (r ∷ rs) r) (itself_among r rs)) in (
            (sym (both.0 ∙ not_before r (l ∷ ls) beyond), sym (both.1 ∙ itself_among r rs)),
            rest (agree_right L R r (l ∷ ls) rs beyond up.0 h),
          )
    ] refl

flags_of : (L R ls rs : List Path) → Rising ls → Rising rs → Agree L R ls rs →
    Flags L R (merged ls rs)
flags_of L R [] rs up k h = right_flags L R rs k h
flags_of L R (l ∷ ls) rs up k h =
    among_flags L R l ls (merged ls) (λ rs k h. flags_of L R ls rs up.1 k h) up.0 rs k h

-- each row says in which of the lists its path is
pub says_each : (ls rs : List Path) → Rising ls → Rising rs →
    AllByRecursion (Says ls rs) (merged ls rs)
says_each ls rs up k = flags_of ls rs ls rs up k (λ q e. (refl, refl))
