-- Two trees compared path by path: the rows stand in path order, and each says what the two have at
-- its path.
use Rattle.std.proofs.Common.{◌≡◌, Bool, true, false, cond, not, ◌||◌, [], ◌∷◌, map, refl, sym, ap}
use Rattle.std.proofs.Common.{◌∙◌, subst, Option, Some, None, Less, Equal, Greater, is_eq}
use Rattle.std.specs.Prelude.{option_map}
use Rattle.std.specs.List.{AllByRecursion}
use Rattle.std.specs.Ordering.{eq_by_cmp, ordering_reverse}
use Rattle.std.specs.FinMap.{find}
use Rattle.std.specs.FinMap.Entries.{by_order}
use Rattle.syn_model.specs.Path.{Path, path_cmp}
use Rattle.syn_model.specs.Tree.{Content, Pair}
use Rattle.syn_model.specs.Dirty.{is_same_content}
use Rattle.syn_model.proofs.PathLemmas.{path_total, same_path, turned}
use Rattle.syn_placed.specs.Pairs.{Pairs}
use Rattle.syn_placed.proofs.RisingLemmas.{Rising, After}
use Rattle.syn_placed.proofs.FindLemmas.{find_after}
use Rattle.syn_dirty.specs.inner.Rows.{Rows, alone, among, compared, with_set}
use Rattle.syn_model.proofs.BaseLemmas.{each_with}

-- after a path, and so for each row and those after it
abbrev pub AfterRow : Path → Rows → Type 0
AfterRow path rows = AllByRecursion (λ row. path_cmp path row.0 ≡ Less) rows

abbrev pub RisingRows : Rows → Type 0
RisingRows [] = Unit {0}
RisingRows (row ∷ rows) = AfterRow row.0 rows × RisingRows rows

pub after_more : (q p : Path) (es : Pairs) → path_cmp q p ≡ Less → After p es → After q es
after_more q p es less h =
    each_with (λ e. path_cmp p e.0 ≡ Less) (λ e. path_cmp q e.0 ≡ Less)
    (λ e k. path_total.trans q p e.0 less k) es h

-- ---- in path order

after_alone : (q : Path) (es : Pairs) → After q es → AfterRow q (map alone es)
after_alone q [] h = tt
after_alone q (e ∷ es) h = (h.0, after_alone q es h.1)

rising_alone : (es : Pairs) → Rising es → RisingRows (map alone es)
rising_alone [] h = tt
rising_alone (e ∷ es) h = (after_alone e.0 es h.0, rising_alone es h.1)

after_among : (q : Path) (l : Pair) (later : Pairs → Rows) →
    ((rs : Pairs) → After q rs → AfterRow q (later rs)) → path_cmp q l.0 ≡ Less → (rs : Pairs) →
    After q rs → AfterRow q (among l later rs)
after_among q l later h less [] a = (less, h [] tt)
after_among q l later h less (r ∷ rs) a =
    let rest = after_among q l later h less rs a.1 in
    elim (path_cmp l.0 r.0) as (λ o. AfterRow q (by_order o (alone l ∷ later (r ∷ rs))
    ((l.0, not (is_same_content l.1 r.1)) ∷ later rs) (alone r ∷ among l later rs))) [
      | Less ↦ (less, h (r ∷ rs) a)
      | Equal ↦ (less, h rs a.1)
      | Greater ↦ (a.0, rest)
    ]

after_compared : (q : Path) (ls rs : Pairs) → After q ls → After q rs → AfterRow q (compared ls rs)
after_compared q [] rs h k = after_alone q rs k
after_compared q (l ∷ ls) rs h k =
    after_among q l (compared ls) (λ rs a. after_compared q ls rs h.1 a) h.0 rs k

rising_among : (l : Pair) (ls : Pairs) (later : Pairs → Rows) →
    ((rs : Pairs) → Rising rs → RisingRows (later rs)) →
    ((q : Path) (rs : Pairs) → After q ls → After q rs → AfterRow q (later rs)) →
    After l.0 ls → (rs : Pairs) → Rising rs → RisingRows (among l later rs)
rising_among l ls later up after a [] h = (after l.0 [] a tt, up [] tt)
rising_among l ls later up after a (r ∷ rs) h =
    let rest = rising_among l ls later up after a rs h.1 in
    elim (path_cmp l.0 r.0)
    as (λ o. path_cmp l.0 r.0 ≡ o → RisingRows (by_order o (alone l ∷ later (r ∷ rs))
    ((l.0, not (is_same_content l.1 r.1)) ∷ later rs) (alone r ∷ among l later rs))) [
      | Less ↦ λ e. (after l.0 (r ∷ rs) a (e, after_more l.0 r.0 rs e h.0), up (r ∷ rs) h)
      | Equal ↦ λ e. (
        after l.0 rs a
            (subst (λ p. After p rs) (sym (same_path l.0 r.0 (ap is_eq e))) h.0),
        up rs h.1,
      )
      | Greater ↦ λ e.
          let less = turned l.0 r.0 e in (
            after_among r.0 l later
                (λ others k. after r.0 others (after_more r.0 l.0 ls less a) k) less rs h.0,
            rest,
          )
    ] refl

pub rising_compared : (ls rs : Pairs) → Rising ls → Rising rs → RisingRows (compared ls rs)
rising_compared [] rs h k = rising_alone rs k
rising_compared (l ∷ ls) rs h k =
    rising_among l ls (compared ls) (λ rs a. rising_compared ls rs h.1 a)
    (λ q rs a b. after_compared q ls rs a b) h.0 rs k

-- ---- what each row says

-- what is said at a path by what the two have there
abbrev pub combined : Option Content → Option Content → Option Bool
combined None None = None
combined (Some a) None = Some true
combined None (Some b) = Some true
combined (Some a) (Some b) = Some (not (is_same_content a b))

find_alone : (q : Path) (rs : Pairs) →
    find path_cmp q (map alone rs) ≡ combined None (find path_cmp q rs)
find_alone q [] = refl
find_alone q (r ∷ rs) =
    let rest = find_alone q rs in
    elim (eq_by_cmp path_cmp q r.0) as (λ b. cond b (Some true) (find path_cmp q (map alone rs))
    ≡ combined None (cond b (Some r.1) (find path_cmp q rs))) [ true ↦ refl | false ↦ rest ]

find_among : (q : Path) (l : Pair) (ls : Pairs) (later : Pairs → Rows) → ((rs : Pairs) →
    Rising rs → find path_cmp q (later rs) ≡ combined (find path_cmp q ls) (find path_cmp q rs)) →
    After l.0 ls → (rs : Pairs) → Rising rs →
    find path_cmp q (among l later rs) ≡ combined (find path_cmp q (l ∷ ls)) (find path_cmp q rs)
find_among q l ls later ih a [] h =
    let rest = ih [] tt in
    elim (eq_by_cmp path_cmp q l.0) as (λ b. cond b (Some true) (find path_cmp q (later []))
    ≡ combined (cond b (Some l.1) (find path_cmp q ls)) None) [ true ↦ refl | false ↦ rest ]
find_among q l ls later ih a (r ∷ rs) h =
    let rest = find_among q l ls later ih a rs h.1 in
    let left : Option Content = find path_cmp q ls in
    elim (path_cmp l.0 r.0)
    as (λ o. path_cmp l.0 r.0 ≡ o → find path_cmp q (by_order o (alone l ∷ later (r ∷ rs))
    ((l.0, not (is_same_content l.1 r.1)) ∷ later rs) (alone r ∷ among l later rs))
    ≡ combined (find path_cmp q (l ∷ ls)) (find path_cmp q (r ∷ rs))) [
      | Less ↦ λ e. elim (eq_by_cmp path_cmp q l.0) as (λ b. eq_by_cmp path_cmp q l.0 ≡ b →
          cond b (Some true) (find path_cmp q (later (r ∷ rs)))
          ≡ combined (cond b (Some l.1) (find path_cmp q ls)) (find path_cmp q (r ∷ rs))) [
            | true ↦ λ same.
                let at : q ≡ l.0 = same_path q l.0 same in
                sym (ap (combined (Some l.1)) (find_after q (r ∷ rs)
                (subst (λ p. After p (r ∷ rs)) (sym at) (e, after_more l.0 r.0 rs e h.0))))
            | false ↦ λ _. ih (r ∷ rs) h
          ] refl
      | Equal ↦ λ e.
          let at : l.0 ≡ r.0 = same_path l.0 r.0 (ap is_eq e) in
          elim (eq_by_cmp path_cmp q l.0) as (λ b. eq_by_cmp path_cmp q l.0 ≡ b →
          cond b (Some (not (is_same_content l.1 r.1))) (find path_cmp q (later rs))
          ≡ combined (cond b (Some l.1) (find path_cmp q ls)) (find path_cmp q (r ∷ rs))) [
            | true ↦ λ same. sym (ap (λ b. combined (Some l.1)
                (cond b (Some r.1) (find path_cmp q rs)))
                (ap (eq_by_cmp path_cmp q) (sym at) ∙ same))
            | false ↦ λ other. ih rs h.1 ∙ sym
                (ap (λ b. combined (find path_cmp q ls) (cond b (Some r.1) (find path_cmp q rs)))
                (ap (eq_by_cmp path_cmp q) (sym at) ∙ other))
          ] refl
      | Greater ↦ λ e.
          let less = turned l.0 r.0 e in
          elim (eq_by_cmp path_cmp q r.0) as (λ b. eq_by_cmp path_cmp q r.0 ≡ b →
          cond b (Some true) (find path_cmp q (among l later rs))
          ≡ combined (find path_cmp q (l ∷ ls)) (cond b (Some r.1) (find path_cmp q rs))) [
            | true ↦ λ same.
                let at : q ≡ r.0 = same_path q r.0 same in
                sym (ap (λ o. combined o (Some r.1)) (find_after q (l ∷ ls)
                (subst (λ p. After p (l ∷ ls)) (sym at) (less, after_more r.0 l.0 ls less a))))
            | false ↦ λ _. rest
          ] refl
    ] refl

pub find_compared : (q : Path) (ls rs : Pairs) → Rising ls → Rising rs →
    find path_cmp q (compared ls rs) ≡ combined (find path_cmp q ls) (find path_cmp q rs)
find_compared q [] rs h k = find_alone q rs
find_compared q (l ∷ ls) rs h k =
    find_among q l ls (compared ls) (λ rs a. find_compared q ls rs h.1 a) h.0 rs k

-- ---- with a set

after_with_set : (p : Path) (set : Path → Bool) (rows : Rows) → AfterRow p rows →
    AfterRow p (with_set set rows)
after_with_set p set [] h = tt
after_with_set p set (row ∷ rows) h = (h.0, after_with_set p set rows h.1)

pub rising_with_set : (set : Path → Bool) (rows : Rows) → RisingRows rows →
    RisingRows (with_set set rows)
rising_with_set set [] h = tt
rising_with_set set (row ∷ rows) h =
    (after_with_set row.0 set rows h.0, rising_with_set set rows h.1)

pub find_with_set : (q : Path) (set : Path → Bool) (rows : Rows) → find path_cmp q
    (with_set set rows) ≡ option_map (λ differs. differs || set q) (find path_cmp q rows)
find_with_set q set [] = refl
find_with_set q set (row ∷ rows) =
    let rest = find_with_set q set rows in
    elim (eq_by_cmp path_cmp q row.0) as (λ b. eq_by_cmp path_cmp q row.0 ≡ b →
    cond b (Some (row.1 || set row.0)) (find path_cmp q (with_set set rows))
    ≡ option_map (λ differs. differs || set q) (cond b (Some row.1) (find path_cmp q rows))) [
      | true ↦ λ same. ap (λ p. Some (row.1 || set p)) (sym (same_path q row.0 same))
      | false ↦ λ _. rest
    ] refl
