-- What stands below a path in a list in path order falls into what stands at and below each name
-- there.
use Rattle.std.proofs.Common.{◌≡◌, Bool, true, false, cond, List, [], ◌∷◌, ◌++◌, filter}
use Rattle.std.proofs.Common.{flat_map, refl, sym, ap, ap₂, ◌∙◌, subst, Some, None, is_some, Less}
use Rattle.std.proofs.Common.{is_lt, is_eq, true≢false, append_assoc, inl, inr}
use Rattle.std.specs.List.{AllByRecursion, list_any}
use Rattle.std.specs.Ordering.{eq_by_cmp, ordering_then, ordering_reverse}
use Rattle.std.specs.FinMap.{find}
use Rattle.std.specs.FinMap.Entries.{find-where_key}
use Rattle.std.proofs.lemmas.Bool.{or_cases}
use Rattle.std.proofs.lemmas.List.Elements.{filter-append}
use Rattle.syn_model.specs.Path.{Path, Name, name_cmp, path_cmp, child, is_prefix}
use Rattle.syn_model.specs.Tree.{Pair}
use Rattle.syn_model.proofs.PathLemmas.{path_total, path_exact, same_name, same_path, prefix-append}
use Rattle.syn_model.proofs.DirtyLemmas.{prefix_chain}
use Rattle.syn_model.proofs.PlanOrder.{siblings, apart_below, not_longer}
use Rattle.syn_placed.specs.Pairs.{Pairs, is_before, is_within, before, within, beyond}
use Rattle.syn_placed.proofs.OrderLemmas.{not_before}
use Rattle.syn_placed.proofs.RisingLemmas.{Rising, After, Each, each-filter, filter-drops}
use Rattle.syn_placed.proofs.RisingLemmas.{three_parts, rising-filter, after_parts}
use Rattle.syn_model.proofs.BaseLemmas.{each_with, each_of_both}
use Rattle.syn_model.proofs.PathLemmas.{prefix_itself, comparable_itself}
use Rattle.syn_model.proofs.SubtreeLemmas.{under_cmp}

-- names in byte order, each once
abbrev pub RisingNames : List Name → Type 0
RisingNames [] = Unit {0}
RisingNames (n ∷ ns) = AllByRecursion (λ m. name_cmp n m ≡ Less) ns × RisingNames ns

-- ---- lists

pub every-filter : {X : Type 0} (P : X → Type 0) (f : X → Bool) (xs : List X) →
    AllByRecursion P xs → AllByRecursion P (filter f xs)
every-filter P f [] h = tt
every-filter P f (x ∷ xs) h =
    let rest = every-filter P f xs h.1 in
    elim (f x) as (λ b. AllByRecursion P (cond b (x ∷ filter f xs) (filter f xs)))
    [ true ↦ (h.0, rest) | false ↦ rest ]

pub filter_twice : {X : Type 0} (f g : X → Bool) → ((x : X) → f x ≡ true → g x ≡ true) →
    (xs : List X) → filter f (filter g xs) ≡ filter f xs
filter_twice f g h [] = refl
filter_twice f g h (x ∷ xs) =
    let rest = filter_twice f g h xs in
    elim (g x) as (λ b. g x ≡ b → filter f (cond b (x ∷ filter g xs) (filter g xs))
    ≡ cond (f x) (x ∷ filter f xs) (filter f xs)) [
      | true ↦ λ _. ap (λ ys. cond (f x) (x ∷ ys) ys) rest
      | false ↦ λ out. rest
          ∙ sym (ap (λ b. cond b (x ∷ filter f xs) (filter f xs)) (never (f x) refl out))
    ] refl
  where
    never : (b : Bool) → f x ≡ b → g x ≡ false → f x ≡ false
    never true e out = absurd (true≢false (sym (h x e) ∙ out))
    never false e out = e

pub flat_map-same : {X Y : Type 0} (f g : X → List Y) (xs : List X) →
    AllByRecursion (λ x. f x ≡ g x) xs → flat_map f xs ≡ flat_map g xs
flat_map-same f g [] h = refl
flat_map-same f g (x ∷ xs) h = ap₂ (λ ys zs. ys ++ zs) h.0 (flat_map-same f g xs h.1)

pub every_x : {X : Type 0} {P : X → Type 0} → ((x : X) → P x) → (xs : List X) → AllByRecursion P xs
every_x f [] = tt
every_x f (x ∷ xs) = (f x, every_x f xs)

-- ---- names below a path

-- the element stands below the path, at one of the names
pub record BelowOne (p : Path) (names : List Name) (e : Pair) : Type 0 where
  pub name : Name
  pub rest : Path
  pub is : e.0 ≡ p ++ name ∷ rest
  pub among : list_any (eq_by_cmp name_cmp name) names ≡ true

at_child : (p : Path) (n : Name) (r : Path) → is_prefix (child p n) (p ++ n ∷ r) ≡ true
at_child p n r =
    ap (is_prefix (child p n)) (sym (append_assoc p (n ∷ []) r)) ∙ prefix-append (child p n) r

before_child : (p : Path) (m n : Name) (r : Path) → name_cmp m n ≡ Less →
    is_lt (path_cmp (p ++ n ∷ r) (child p m)) ≡ false
before_child p m n r less =
    ap is_lt (path_total.antisymm (p ++ n ∷ r) (child p m) ∙ ap ordering_reverse
    (under_cmp p (m ∷ []) (n ∷ r) ∙ ap (λ o. ordering_then o (path_cmp [] r)) less))

among_later : (m n : Name) (ns : List Name) → AllByRecursion (λ x. name_cmp m x ≡ Less) ns →
    list_any (eq_by_cmp name_cmp n) ns ≡ true → name_cmp m n ≡ Less
among_later m n [] a e = absurd (true≢false (sym e))
among_later m n (x ∷ ns) a e =
    let rest = among_later m n ns a.1 in
    elim (or_cases (eq_by_cmp name_cmp n x) (list_any (eq_by_cmp name_cmp n) ns) e)
    as (λ _. name_cmp m n ≡ Less) [
      | inl same ↦ ap (name_cmp m) (same_name n x same) ∙ a.0
      | inr there ↦ rest there
    ]

-- none of what stands below stands before the first name
none_before_first : (p : Path) (m : Name) (ms : List Name) →
    AllByRecursion (λ x. name_cmp m x ≡ Less) ms → (e : Pair) → BelowOne p (m ∷ ms) e →
    is_before (child p m) e ≡ false
none_before_first p m ms a e b =
    elim (or_cases (eq_by_cmp name_cmp b.name m) (list_any (eq_by_cmp name_cmp b.name) ms) b.among)
    as (λ _. is_before (child p m) e ≡ false) [
      | inl same ↦ ap (λ w. is_lt (path_cmp w (child p m)))
          (b.is ∙ ap (λ n. p ++ n ∷ b.rest) (same_name b.name m same))
          ∙ not_before (child p m) (p ++ m ∷ b.rest) (at_child p m b.rest)
      | inr there ↦ ap (λ w. is_lt (path_cmp w (child p m))) b.is
          ∙ before_child p m b.name b.rest (among_later m b.name ms a there)
    ]

-- what is not at or below the first name is at or below a later one
at_later : (p : Path) (m : Name) (ms : List Name) (e : Pair) → BelowOne p (m ∷ ms) e →
    is_within (child p m) e ≡ false → BelowOne p ms e
at_later p m ms e b out = record {
  name = b.name;
  rest = b.rest;
  is = b.is;
  among =
      elim (or_cases (eq_by_cmp name_cmp b.name m) (list_any (eq_by_cmp name_cmp b.name) ms)
      b.among) as (λ _. list_any (eq_by_cmp name_cmp b.name) ms ≡ true) [
        | inl same ↦ absurd (true≢false (sym (ap (is_prefix (child p m))
            (b.is ∙ ap (λ n. p ++ n ∷ b.rest) (same_name b.name m same)) ∙ at_child p m b.rest)
            ∙ out))
        | inr there ↦ there
      ];
}

-- nothing stands below two names
one_name : (p : Path) (m n : Name) → name_cmp m n ≡ Less → (e : Pair) →
    is_within (child p m) e ≡ true → is_within (child p n) e ≡ false
one_name p m n less e h = by_case (is_within (child p n) e) refl
  where
    by_case : (b : Bool) → is_within (child p n) e ≡ b → b ≡ false
    by_case true k =
        absurd (true≢false (sym (comparable_itself e.0)
        ∙ apart_below (child p m) (child p n) e.0 e.0 (siblings p m n (ap is_eq less)) h k))
    by_case false k = refl

-- what stands below a path, name by name
pub by_names : (p : Path) (names : List Name) (es : Pairs) → RisingNames names → Rising es →
    AllByRecursion (BelowOne p names) es → es ≡ flat_map (λ n. within (child p n) es) names
by_names p [] [] sorted up h = refl
by_names p [] (e ∷ es) sorted up h = absurd (true≢false (sym (h.0).among))
by_names p (m ∷ ms) es sorted up h =
    let c = child p m in
    let front : before c es ≡ [] = filter-drops (is_before c) es (each_with (BelowOne p (m ∷ ms))
    (λ e. is_before c e ≡ false) (none_before_first p m ms sorted.0) es h) in
    let whole : es ≡ within c es ++ beyond c es = three_parts c es up
    ∙ ap (λ xs. xs ++ (within c es ++ beyond c es)) front in
    let later : AllByRecursion (BelowOne p ms) (beyond c es) =
    each_of_both (BelowOne p (m ∷ ms)) (λ e. (is_before c e ≡ false) × (is_within c e ≡ false))
    (BelowOne p ms) (λ e b o. at_later p m ms e b o.1) (beyond c es)
    (every-filter (BelowOne p (m ∷ ms)) _ es h) (after_parts c es) in
    let rest = by_names p ms (beyond c es) sorted.1 (rising-filter _ es up) later in
    whole ∙ ap (λ xs. within c es ++ xs)
    (rest ∙ flat_map-same (λ n. within (child p n) (beyond c es)) (λ n. within (child p n) es) ms
    (each_with (λ n. name_cmp m n ≡ Less) (λ n. within (child p n) (beyond c es)
    ≡ within (child p n) es) (λ n less. sym (apart n less whole)) ms sorted.0))
  where
    apart : (n : Name) → name_cmp m n ≡ Less → es ≡ within (child p m) es ++ beyond (child p m) es →
        within (child p n) es ≡ within (child p n) (beyond (child p m) es)
    apart n less whole =
        ap (within (child p n)) whole
        ∙ (filter-append (is_within (child p n)) (within (child p m) es) (beyond (child p m) es)
        ∙ ap (λ xs. xs ++ within (child p n) (beyond (child p m) es))
        (filter-drops (is_within (child p n)) (within (child p m) es)
        (each_with (λ e. is_within (child p m) e ≡ true) (λ e. is_within (child p n) e ≡ false)
        (one_name p m n less) (within (child p m) es) (each-filter (is_within (child p m)) es))))

-- ---- the path itself stands first

pub found_later : (p q : Path) (es : Pairs) → After p es → is_some (find path_cmp q es) ≡ true →
    path_cmp p q ≡ Less
found_later p q [] a e = absurd (true≢false (sym e))
found_later p q (x ∷ es) a e =
    let rest = found_later p q es a.1 in
    elim (eq_by_cmp path_cmp q x.0) as (λ b. eq_by_cmp path_cmp q x.0 ≡ b →
    is_some (cond b (Some x.1) (find path_cmp q es)) ≡ true → path_cmp p q ≡ Less) [
      | true ↦ λ same _. ap (path_cmp p) (same_path q x.0 same) ∙ a.0
      | false ↦ λ _ more. rest more
    ] refl e

find_within : (p : Path) (es : Pairs) → find path_cmp p (within p es) ≡ find path_cmp p es
find_within p es =
    find-where_key path_cmp (is_prefix p) p (λ x e. ap (is_prefix p) (sym (path_exact p x e))) es
    ∙ ap (λ b. cond b (find path_cmp p es) None) (prefix_itself p)

-- a list that begins with the path, and then has what stands below
pub record Headed (p : Path) (es : Pairs) : Type 0 where
  pub head : Pair
  pub rest : Pairs
  pub whole : es ≡ head ∷ rest
  pub is : head.0 ≡ p
  pub after : After p rest
  pub inside : Each (is_within p) rest

headed : (p : Path) (es : Pairs) → Rising es → Each (is_within p) es →
    is_some (find path_cmp p es) ≡ true → Headed p es
headed p [] up each e = absurd (true≢false (sym e))
headed p (x ∷ es) up each e =
    elim (eq_by_cmp path_cmp p x.0) as (λ b. eq_by_cmp path_cmp p x.0 ≡ b →
    is_some (cond b (Some x.1) (find path_cmp p es)) ≡ true → Headed p (x ∷ es)) [
      | true ↦ λ same _.
          let at = same_path p x.0 same in
          record {
            head = x;
            rest = es;
            whole = refl;
            is = sym at;
            after = subst (λ q. After q es) (sym at) up.0;
            inside = each.1;
          }
      | false ↦ λ _ more. absurd
          (true≢false (sym (ap is_lt (found_later x.0 p es up.0 more)) ∙ not_before p x.0 each.0))
    ] refl e

pub head_of : (p : Path) (es : Pairs) → Rising es → is_some (find path_cmp p es) ≡ true →
    Headed p (within p es)
head_of p es up e =
    headed p (within p es) (rising-filter (is_within p) es up) (each-filter (is_within p) es)
    (ap is_some (find_within p es) ∙ e)

-- below a name of the path the head does not stand
pub rest_within : (p : Path) (n : Name) (es : Pairs) (h : Headed p (within p es)) →
    within (child p n) h.rest ≡ within (child p n) es
rest_within p n es h =
    let c = child p n in
    sym (ap (λ b. cond b (h.head ∷ within c h.rest) (within c h.rest))
    (ap (is_prefix c) h.is ∙ not_longer p n []))
    ∙ (ap (within c) (sym h.whole) ∙ filter_twice (is_within c) (is_within p)
    (λ e k. prefix_chain p c e.0 (prefix-append p (n ∷ [])) k) es)
