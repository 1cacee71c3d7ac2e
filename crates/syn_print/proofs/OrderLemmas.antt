-- A stable sort gives the list in order.
use Rattle.std.proofs.Common.{◌≡◌, ◌∙◌, ◌∷◌, ◌≤◌, ◌<◌, ◌&&◌, ℕ, suc, [], Bool, true, false, not}
use Rattle.std.proofs.Common.{List, cond, filter, length, map, get_or, refl, ap, ap₂, arith, subst}
use Rattle.std.proofs.Common.{sym, true≢false}
use Rattle.std.specs.Cmp.{IsStrictWeakOrder}
use Rattle.std.specs.List.Sorted.{IsSortedBy, IsStableBy, ties}
use Rattle.std.proofs.lemmas.List.Sorted.{sorted_far}
use Rattle.syn_print.specs.Reports.{inserted, in_order}

-- both are false where neither of them is true
neither : (a b : Bool) → not a && not b ≡ true → (a ≡ false) × (b ≡ false)
neither true b h = absurd (true≢false (sym h))
neither false true h = absurd (true≢false (sym h))
neither false false h = (refl, refl)

-- two tests that do not both hold may change their places
swapped : {X : Type 0} (p q : Bool) (x y : X) (rest : List X) → (p ≡ true → q ≡ true → ⊥)
    → cond p (x ∷ cond q (y ∷ rest) rest) (cond q (y ∷ rest) rest)
    ≡ cond q (y ∷ cond p (x ∷ rest) rest) (cond p (x ∷ rest) rest)
swapped true true x y rest h = absurd (h refl refl)
swapped true false x y rest h = refl
swapped false true x y rest h = refl
swapped false false x y rest h = refl

-- the head of a list that is not empty, and what is after it
abbrev head_or : {X : Type 0} → X → List X → X
head_or d [] = d
head_or d (x ∷ xs) = x

abbrev others_of : {X : Type 0} → List X → List X
others_of [] = []
others_of (x ∷ xs) = xs

abbrev has_head : {X : Type 0} → List X → Bool
has_head [] = false
has_head (x ∷ xs) = true

not_empty : {X : Type 0} (x : X) (xs : List X) → x ∷ xs ≡ [] → ⊥
not_empty x xs h = true≢false (ap has_head h)

without : {X : Type 0} (t : Bool) (x : X) (xs ys : List X)
    → cond t (x ∷ xs) xs ≡ cond t (x ∷ ys) ys → xs ≡ ys
without true x xs ys h = ap others_of h
without false x xs ys h = h

module _ {X : Type 0} (lt : X → X → Bool) where
  -- none of the elements is less than x
  abbrev Above : X → List X → Type 0
  Above x [] = Unit {0}
  Above x (y ∷ ys) = (lt y x ≡ false) × Above x ys

  -- none is less than one before it
  abbrev Up : List X → Type 0
  Up [] = Unit {0}
  Up (x ∷ xs) = Above x xs × Up xs

  -- the elements that tie with x
  abbrev tied_with : X → List X → List X
  tied_with x xs = filter (ties lt x) xs

  above_of : (x : X) (xs : List X) → ((k : ℕ) → k < length xs → lt (get_or xs k x) x ≡ false)
      → Above x xs
  above_of x [] h = tt
  above_of x (y ∷ ys) h = (h 0 (omega arith), above_of x ys (λ k p. h (suc k) (omega arith)))

  up_of : (xs : List X) → ((i j : ℕ) (d : X) → i ≤ j → j < length xs
      → lt (get_or xs j d) (get_or xs i d) ≡ false) → Up xs
  up_of [] h = tt
  up_of (x ∷ xs) h = (
    above_of x xs (λ k p. h 0 (suc k) x (omega arith) (omega arith)),
    up_of xs (λ i j d p q. h (suc i) (suc j) d (omega arith) (omega arith)),
  )

  above_pick : (x : X) (b : Bool) (l r : List X) → Above x l → Above x r → Above x (cond b l r)
  above_pick x true l r p q = p
  above_pick x false l r p q = q

  above_kept : (t : X → Bool) (x : X) (xs : List X) → Above x xs → Above x (filter t xs)
  above_kept t x [] h = tt
  above_kept t x (y ∷ ys) h =
      let rest = above_kept t x ys h.1 in
      above_pick x (t y) (y ∷ filter t ys) (filter t ys) (h.0, rest) rest

  above_inserted : (x one : X) (xs : List X) → lt one x ≡ false → Above x xs
      → Above x (inserted lt one xs)
  above_inserted x one [] p h = (p, tt)
  above_inserted x one (y ∷ ys) p h =
      above_pick x (lt y one) (y ∷ inserted lt one ys) (one ∷ (y ∷ ys))
      (h.0, above_inserted x one ys p h.1) (p, h)

  up_pick : (b : Bool) (l r : List X) → (b ≡ true → Up l) → (b ≡ false → Up r) → Up (cond b l r)
  up_pick true l r p q = p refl
  up_pick false l r p q = q refl

  not_itself : (b : Bool) → (b ≡ true → b ≡ false) → b ≡ false
  not_itself true h = h refl
  not_itself false h = refl

  module _ (o : IsStrictWeakOrder lt) where
    irreflexive : (x : X) → lt x x ≡ false
    irreflexive x = not_itself (lt x x) (o.one_way x x)

    above_lower : (x y : X) (xs : List X) → lt y x ≡ false → Above y xs → Above x xs
    above_lower x y [] p h = tt
    above_lower x y (z ∷ zs) p h = (o.chain z y x h.0 p, above_lower x y zs p h.1)

    up_inserted : (one : X) (xs : List X) → Up xs → Up (inserted lt one xs)
    up_inserted one [] h = (tt, tt)
    up_inserted one (y ∷ ys) h =
        up_pick (lt y one) (y ∷ inserted lt one ys) (one ∷ (y ∷ ys))
        (λ below. (above_inserted y one ys (o.one_way y one below) h.0, up_inserted one ys h.1))
        (λ not_below. ((not_below, above_lower one y ys not_below h.0), h))

    up_in_order : (xs : List X) → Up (in_order lt xs)
    up_in_order [] = tt
    up_in_order (x ∷ xs) = up_inserted x (in_order lt xs) (up_in_order xs)

    -- what ties with the same is not below one another
    not_apart : (x y z : X) → ties lt x y ≡ true → ties lt x z ≡ true → lt y z ≡ true → ⊥
    not_apart x y z p q below =
        let first = neither (lt x y) (lt y x) p in
        let second = neither (lt x z) (lt z x) q in
        true≢false (sym below ∙ o.chain y x z first.1 second.0)

    kept_pick : (x one y : X) (ys : List X) (b : Bool) → b ≡ lt y one
        → tied_with x (inserted lt one ys) ≡ tied_with x (one ∷ ys)
        → tied_with x (cond b (y ∷ inserted lt one ys) (one ∷ (y ∷ ys)))
        ≡ tied_with x (one ∷ (y ∷ ys))
    kept_pick x one y ys true below rest =
        ap (λ l. cond (ties lt x y) (y ∷ l) l) rest
        ∙ swapped (ties lt x y) (ties lt x one) y one (tied_with x ys)
        (λ p q. not_apart x y one p q (sym below))
    kept_pick x one y ys false below rest = refl

    kept_inserted : (x one : X) (xs : List X)
        → tied_with x (inserted lt one xs) ≡ tied_with x (one ∷ xs)
    kept_inserted x one [] = refl
    kept_inserted x one (y ∷ ys) =
        kept_pick x one y ys (lt y one) refl (kept_inserted x one ys)

    kept_in_order : (x : X) (xs : List X) → tied_with x (in_order lt xs) ≡ tied_with x xs
    kept_in_order x [] = refl
    kept_in_order x (y ∷ ys) =
        kept_inserted x y (in_order lt ys)
        ∙ ap (λ l. cond (ties lt x y) (y ∷ l) l) (kept_in_order x ys)

    tied : (x y : X) → lt x y ≡ false → lt y x ≡ false → ties lt x y ≡ true
    tied x y p q = ap₂ (λ a b. not a && not b) p q

    -- an element that ties is the first of those that do
    first_tied : (x y : X) (ys : List X) → ties lt x y ≡ true
        → tied_with x (y ∷ ys) ≡ y ∷ tied_with x ys
    first_tied x y ys tie = ap (λ t. cond t (y ∷ tied_with x ys) (tied_with x ys)) tie

    -- a list has its head among what ties with it
    first_kept : (x : X) (xs : List X) → tied_with x (x ∷ xs) ≡ x ∷ tied_with x xs
    first_kept x xs = first_tied x x xs (tied x x (irreflexive x) (irreflexive x))

    -- where the head of one stands in the other too, the other's head is not above it
    not_above : (x y : X) (xs ys : List X) → Above y ys
        → tied_with x (x ∷ xs) ≡ tied_with x (y ∷ ys) → lt x y ≡ false
    not_above x y xs ys above same =
        (subst (Above y) (sym same ∙ first_kept x xs)
        (above_kept (ties lt x) y (y ∷ ys) (irreflexive y, above))).0

    same_order : (xs ys : List X) → Up xs → Up ys → IsStableBy lt xs ys → xs ≡ ys
    same_order [] [] u v h = refl
    same_order [] (y ∷ ys) u v h =
        absurd (not_empty y (tied_with y ys) (sym (first_kept y ys) ∙ h y))
    same_order (x ∷ xs) [] u v h =
        absurd (not_empty x (tied_with x xs) (sym (first_kept x xs) ∙ sym (h x)))
    same_order (x ∷ xs) (y ∷ ys) u v h =
        let low = not_above x y xs ys v.0 (sym (h x)) in
        let high = not_above y x ys xs u.0 (h y) in
        let heads : x ≡ y = ap (head_or x)
        (sym (first_kept x xs) ∙ (sym (h x) ∙ first_tied x y ys (tied x y low high))) in
        let as_before = λ (z w : X). cond (ties lt z w) (w ∷ tied_with z ys) (tied_with z ys) in
        let rest : IsStableBy lt xs ys =
        λ z. without (ties lt z x) x (tied_with z ys) (tied_with z xs)
        (ap (as_before z) heads ∙ h z) in
        ap₂ (λ one more. one ∷ more) heads (same_order xs ys u.1 v.1 rest)

    -- a list that was sorted stably is the list in order
    pub sorted_so : (xs ys : List X) → IsSortedBy lt ys → IsStableBy lt xs ys → ys ≡ in_order lt xs
    sorted_so xs ys sorted stable =
        same_order ys (in_order lt xs) (up_of ys (sorted_far lt o ys sorted)) (up_in_order xs)
        (λ x. kept_in_order x xs ∙ sym (stable x))

-- the order of what a function gives of the elements
map_pick : {X Y : Type 0} (f : X → Y) (b : Bool) (l r : List X)
    → map f (cond b l r) ≡ cond b (map f l) (map f r)
map_pick f true l r = refl
map_pick f false l r = refl

map_inserted : {X Y : Type 0} (f : X → Y) (lt : Y → Y → Bool) (one : X) (xs : List X)
    → map f (inserted (λ x y. lt (f x) (f y)) one xs) ≡ inserted lt (f one) (map f xs)
map_inserted f lt one [] = refl
map_inserted {X = X} f lt one (y ∷ ys) =
    let lower : X → X → Bool = λ x y. lt (f x) (f y) in
    let is_below = lt (f y) (f one) in
    map_pick f is_below (y ∷ inserted lower one ys) (one ∷ (y ∷ ys))
    ∙ ap (λ l. cond is_below (f y ∷ l) (f one ∷ (f y ∷ map f ys))) (map_inserted f lt one ys)

pub map_in_order : {X Y : Type 0} (f : X → Y) (lt : Y → Y → Bool) (xs : List X)
    → map f (in_order (λ x y. lt (f x) (f y)) xs) ≡ in_order lt (map f xs)
map_in_order f lt [] = refl
map_in_order f lt (x ∷ xs) =
    map_inserted f lt x (in_order (λ x y. lt (f x) (f y)) xs)
    ∙ ap (inserted lt (f x)) (map_in_order f lt xs)
