-- Pairs whose paths strictly rise fall into those before a path, those at and below it, and those
-- after.
use Rattle.std.proofs.Math.Seq.{take-append_seam, drop-append_seam}
use Rattle.std.proofs.lemmas.List.Sums.{length-filter, count_by-le-length}
use Rattle.std.proofs.Common.{◌≡◌, ◌≤◌, ◌+◌, length, length-append, take, drop, Bool, true}
use Rattle.std.proofs.Common.{false, cond, not, ◌&&◌, ◌||◌, List, [], ◌∷◌, ◌++◌, filter, refl, sym}
use Rattle.std.proofs.Common.{ap, ap₂, ◌∙◌, subst, Less, is_lt, true≢false}
use Rattle.std.specs.List.{AllByRecursion}
use Rattle.std.specs.FinMap.{is_sorted}
use Rattle.std.specs.FinMap.Entries.{below_all}
use Rattle.std.proofs.lemmas.Bool.{and_parts}
use Rattle.syn_model.specs.Path.{Path, path_cmp, is_prefix}
use Rattle.syn_model.specs.Tree.{Pair}
use Rattle.syn_model.proofs.PathLemmas.{path_total}
use Rattle.syn_placed.specs.Pairs.{Pairs, AreRising, is_before, is_within, is_beyond, before}
use Rattle.syn_placed.specs.Pairs.{within, beyond, under}
use Rattle.syn_placed.proofs.OrderLemmas.{not_before, before_more, between, before_under}
use Rattle.syn_placed.proofs.OrderLemmas.{under_after}
use Rattle.syn_model.proofs.BaseLemmas.{less_of, each_append, each_with}
use Rattle.syn_model.proofs.SubtreeLemmas.{under_cmp}

-- each of the pairs passes a test
abbrev pub Each : {X : Type 0} → (X → Bool) → List X → Type 0
Each p xs = AllByRecursion (λ x. p x ≡ true) xs

abbrev pub NoneOf : {X : Type 0} → (X → Bool) → List X → Type 0
NoneOf p xs = AllByRecursion (λ x. p x ≡ false) xs

pub each-both : {X : Type 0} (P Q : X → Type 0) (xs : List X) → AllByRecursion P xs →
    AllByRecursion Q xs → AllByRecursion (λ x. P x × Q x) xs
each-both P Q [] h k = tt
each-both P Q (x ∷ xs) h k = ((h.0, k.0), each-both P Q xs h.1 k.1)

pub each-filter : {X : Type 0} (p : X → Bool) (xs : List X) → Each p (filter p xs)
each-filter p [] = tt
each-filter p (x ∷ xs) =
    elim (p x) as (λ b. p x ≡ b → Each p (cond b (x ∷ filter p xs) (filter p xs))) [
      | true ↦ λ e. (e, each-filter p xs)
      | false ↦ λ e. each-filter p xs
    ] refl

pub filter-keeps : {X : Type 0} (p : X → Bool) (xs : List X) → Each p xs → filter p xs ≡ xs
filter-keeps p [] h = refl
filter-keeps p (x ∷ xs) h =
    ap (λ b. cond b (x ∷ filter p xs) (filter p xs)) h.0 ∙ ap (λ ys. x ∷ ys) (filter-keeps p xs h.1)

pub filter-drops : {X : Type 0} (p : X → Bool) (xs : List X) → NoneOf p xs → filter p xs ≡ []
filter-drops p [] h = refl
filter-drops p (x ∷ xs) h =
    ap (λ b. cond b (x ∷ filter p xs) (filter p xs)) h.0 ∙ filter-drops p xs h.1

-- after a path, and so for each pair and those after it
abbrev pub After : Path → Pairs → Type 0
After path es = AllByRecursion (λ e. path_cmp path e.0 ≡ Less) es

abbrev pub Rising : Pairs → Type 0
Rising [] = Unit {0}
Rising (e ∷ es) = After e.0 es × Rising es

after_of : (path : Path) (es : Pairs) → below_all path_cmp path es ≡ true → After path es
after_of path [] h = tt
after_of path (e ∷ es) h =
    let both = and_parts (is_lt (path_cmp path e.0)) (below_all path_cmp path es) h in
    (less_of (path_cmp path e.0) both.0, after_of path es both.1)

pub rising_of : (es : Pairs) → AreRising es → Rising es
rising_of [] h = tt
rising_of (e ∷ es) h =
    let both = and_parts (below_all path_cmp e.0 es) (is_sorted path_cmp es) h in
    (after_of e.0 es both.0, rising_of es both.1)

below_of : (path : Path) (es : Pairs) → After path es → below_all path_cmp path es ≡ true
below_of path [] h = refl
below_of path (e ∷ es) h = ap₂ (λ a b. a && b) (ap is_lt h.0) (below_of path es h.1)

pub are_rising : (es : Pairs) → Rising es → AreRising es
are_rising [] h = refl
are_rising (e ∷ es) h = ap₂ (λ a b. a && b) (below_of e.0 es h.0) (are_rising es h.1)

after-filter : (path : Path) (p : Pair → Bool) (es : Pairs) → After path es →
    After path (filter p es)
after-filter path p [] h = tt
after-filter path p (e ∷ es) h =
    elim (p e) as (λ b. After path (cond b (e ∷ filter p es) (filter p es)))
    [ true ↦ (h.0, after-filter path p es h.1) | false ↦ after-filter path p es h.1 ]

pub rising-filter : (p : Pair → Bool) (es : Pairs) → Rising es → Rising (filter p es)
rising-filter p [] h = tt
rising-filter p (e ∷ es) h =
    elim (p e) as (λ b. Rising (cond b (e ∷ filter p es) (filter p es))) [
      | true ↦
          (after-filter e.0 p es h.0, rising-filter p es h.1)
      | false ↦ rising-filter p es h.1
    ]

pub rising-append : (xs ys : Pairs) → Rising xs → Rising ys →
    AllByRecursion (λ x. After x.0 ys) xs → Rising (xs ++ ys)
rising-append [] ys h k between = k
rising-append (x ∷ xs) ys h k between = (
  each_append (λ e. path_cmp x.0 e.0 ≡ Less) xs ys h.0 between.0,
  rising-append xs ys h.1 k between.1,
)

after-under : (at p : Path) (es : Pairs) → After p es → After (at ++ p) (under at es)
after-under at p [] h = tt
after-under at p (e ∷ es) h = (under_cmp at p e.0 ∙ h.0, after-under at p es h.1)

pub rising-under : (at : Path) (es : Pairs) → Rising es → Rising (under at es)
rising-under at [] h = tt
rising-under at (e ∷ es) h = (after-under at e.0 es h.0, rising-under at es h.1)

-- no pair stands before the place where an earlier one does not
pub none_before : (at p : Path) (es : Pairs) → After p es → is_lt (path_cmp p at) ≡ false →
    NoneOf (is_before at) es
none_before at p es h low =
    each_with (λ e. path_cmp p e.0 ≡ Less) (λ e. is_before at e ≡ false)
    (λ e less. never e less (is_before at e) refl) es h
  where
    never : (e : Pair) → path_cmp p e.0 ≡ Less → (b : Bool) → is_before at e ≡ b → b ≡ false
    never e less true k = absurd (true≢false (sym (before_more p e.0 at less k) ∙ low))
    never e less false k = refl

pub none_within : (at p : Path) (es : Pairs) → After p es → is_lt (path_cmp p at) ≡ false →
    is_prefix at p ≡ false → NoneOf (is_within at) es
none_within at p es h low out =
    each_with (λ e. path_cmp p e.0 ≡ Less) (λ e. is_within at e ≡ false)
    (λ e less. never e less (is_within at e) refl) es h
  where
    never : (e : Pair) → path_cmp p e.0 ≡ Less → (b : Bool) → is_within at e ≡ b → b ≡ false
    never e less true k = absurd (true≢false (sym (between at p e.0 low less k) ∙ out))
    never e less false k = refl

-- the three parts, in order, are the whole
pub three_parts : (at : Path) (es : Pairs) → Rising es →
    es ≡ before at es ++ (within at es ++ beyond at es)
three_parts at [] h = refl
three_parts at (e ∷ es) h =
    let rest = three_parts at es h.1 in
    elim (is_before at e)
    as (λ b. is_before at e ≡ b → e ∷ es ≡ cond b (e ∷ before at es) (before at es)
    ++ (within at (e ∷ es) ++ cond (not (b || is_within at e)) (e ∷ beyond at es) (beyond at es))) [
      | true ↦ λ is.
          let out : is_within at e ≡ false = inside (is_within at e) refl is in
          ap (λ xs. e ∷ xs) rest ∙ sym (ap (λ b. (e ∷ before at es)
          ++ (cond b (e ∷ within at es) (within at es) ++ beyond at es)) out)
      | false ↦ λ never.
          let none : before at es ≡ [] =
          filter-drops (is_before at) es (none_before at e.0 es h.0 never) in
          elim (is_within at e) as (λ b. is_within at e ≡ b → e ∷ es ≡ before at es ++ (cond b
          (e ∷ within at es) (within at es) ++ cond (not b) (e ∷ beyond at es) (beyond at es))) [
            | true ↦ λ _. ap (λ xs. e ∷ xs)
                (rest ∙ ap (λ xs. xs ++ (within at es ++ beyond at es)) none)
                ∙ sym (ap (λ xs. xs ++ ((e ∷ within at es) ++ beyond at es)) none)
            | false ↦ λ out.
                let no_more : within at es ≡ [] =
                filter-drops (is_within at) es (none_within at e.0 es h.0 never out) in
                ap (λ xs. e ∷ xs) (rest ∙ ap₂ (λ xs ys. xs ++ (ys ++ beyond at es)) none no_more)
                ∙ sym (ap₂ (λ xs ys. xs ++ (ys ++ e ∷ beyond at es)) none no_more)
          ] refl
    ] refl
  where
    inside : (b : Bool) → is_within at e ≡ b → is_before at e ≡ true → b ≡ false
    inside true k is = absurd (true≢false (sym is ∙ not_before at e.0 k))
    inside false k is = refl

-- what is in the parts
pub before_out : (at : Path) (es : Pairs) → NoneOf (is_within at) (before at es)
before_out at es =
    each_with (λ e. is_before at e ≡ true) (λ e. is_within at e ≡ false)
    (λ e is. never e is (is_within at e) refl) (before at es) (each-filter (is_before at) es)
  where
    never : (e : Pair) → is_before at e ≡ true → (b : Bool) → is_within at e ≡ b → b ≡ false
    never e is true k = absurd (true≢false (sym is ∙ not_before at e.0 k))
    never e is false k = refl

neither : (a b : Bool) → not (a || b) ≡ true → (a ≡ false) × (b ≡ false)
neither true b h = absurd (true≢false (sym h))
neither false true h = absurd (true≢false (sym h))
neither false false h = (refl, refl)

pub after_parts : (at : Path) (es : Pairs) →
    AllByRecursion (λ e. (is_before at e ≡ false) × (is_within at e ≡ false)) (beyond at es)
after_parts at es =
    each_with (λ e. is_beyond at e ≡ true)
    (λ e. (is_before at e ≡ false) × (is_within at e ≡ false))
    (λ e h. neither (is_before at e) (is_within at e) h) (beyond at es)
    (each-filter (is_beyond at) es)

pub after_out : (at : Path) (es : Pairs) → NoneOf (is_within at) (beyond at es)
after_out at es =
    each_with (λ e. (is_before at e ≡ false) × (is_within at e ≡ false))
    (λ e. is_within at e ≡ false) (λ e h. h.1) (beyond at es) (after_parts at es)

-- what takes the place of the part at and below a path
abbrev pub replaced : Path → Pairs → Pairs → Pairs
replaced at es us = before at es ++ (under at us ++ beyond at es)

after_all : (at q : Path) (es : Pairs) → After (at ++ q) (beyond at es)
after_all at q es =
    each_with (λ e. (is_before at e ≡ false) × (is_within at e ≡ false))
    (λ e. path_cmp (at ++ q) e.0 ≡ Less) (λ e h. under_after at q e.0 h.0 h.1) (beyond at es)
    (after_parts at es)

under_before_after : (at : Path) (us es : Pairs) →
    AllByRecursion (λ x. After x.0 (beyond at es)) (under at us)
under_before_after at [] es = tt
under_before_after at (u ∷ us) es = (after_all at u.0 es, under_before_after at us es)

before_all_under : (at a : Path) (us : Pairs) → is_lt (path_cmp a at) ≡ true → After a (under at us)
before_all_under at a [] h = tt
before_all_under at a (u ∷ us) h = (before_under a at u.0 h, before_all_under at a us h)

before_all_after : (at a : Path) (es : Pairs) → is_lt (path_cmp a at) ≡ true →
    After a (beyond at es)
before_all_after at a es h =
    each_with (λ e. path_cmp (at ++ []) e.0 ≡ Less) (λ e. path_cmp a e.0 ≡ Less)
    (λ e k. path_total.trans a (at ++ []) e.0 (before_under a at [] h) k) (beyond at es)
    (after_all at [] es)

pub rising-replaced : (at : Path) (es us : Pairs) → Rising es → Rising us →
    Rising (replaced at es us)
rising-replaced at es us h k =
    rising-append (before at es) (under at us ++ beyond at es) (rising-filter (is_before at) es h)
    (rising-append (under at us) (beyond at es) (rising-under at us k)
    (rising-filter (is_beyond at) es h) (under_before_after at us es))
    (each_with (λ e. is_before at e ≡ true) (λ e. After e.0 (under at us ++ beyond at es))
    (λ e x. each_append (λ f. path_cmp e.0 f.0 ≡ Less) (under at us) (beyond at es)
    (before_all_under at e.0 us x) (before_all_after at e.0 es x)) (before at es)
    (each-filter (is_before at) es))

-- none of those in the part or after it stands before the place
pub none_after : (at : Path) (es : Pairs) → NoneOf (is_before at) (within at es ++ beyond at es)
none_after at es = each_append (λ e. is_before at e ≡ false) (within at es) (beyond at es)
    (each_with (λ e. is_within at e ≡ true) (λ e. is_before at e ≡ false)
    (λ e h. not_before at e.0 h) (within at es) (each-filter (is_within at) es))
    (each_with (λ e. (is_before at e ≡ false) × (is_within at e ≡ false))
    (λ e. is_before at e ≡ false) (λ e h. h.0) (beyond at es) (after_parts at es))

-- what is left after those before the place
pub after_before : (at : Path) (es : Pairs) → Rising es →
    drop (length (before at es)) es ≡ within at es ++ beyond at es
after_before at es h =
    ap (drop (length (before at es))) (three_parts at es h)
    ∙ drop-append_seam (before at es) (within at es ++ beyond at es)

pub few_before : (at : Path) (es : Pairs) → length (before at es) ≤ length es
few_before at es =
    subst (λ n. n ≤ length es) (sym (length-filter (is_before at) es))
    (count_by-le-length (is_before at) es)

-- the part at and below the place
pub taken_within : (at : Path) (es : Pairs) → Rising es →
    take (length (within at es)) (drop (length (before at es)) es) ≡ within at es
taken_within at es h =
    ap (take (length (within at es))) (after_before at es h)
    ∙ take-append_seam (within at es) (beyond at es)

pub counted : (at : Path) (es : Pairs) → Rising es →
    length es ≡ length (before at es) + (length (within at es) + length (beyond at es))
counted at es h =
    ap length (three_parts at es h) ∙ (length-append (before at es) (within at es ++ beyond at es)
    ∙ ap (λ n. length (before at es) + n) (length-append (within at es) (beyond at es)))
