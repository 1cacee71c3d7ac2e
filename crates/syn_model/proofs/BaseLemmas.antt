-- Small facts about truth values, orderings, lists and options that many proofs use.
use Rattle.std.proofs.Common.{◌≡◌, Bool, true, false, T, ◌&&◌, ◌||◌, List, [], ◌∷◌, ◌++◌, map}
use Rattle.std.proofs.Common.{length, zero, suc, Option, Some, None, is_some, refl, sym, subst}
use Rattle.std.proofs.Common.{true≢false, arith, Ordering, Less, Equal, Greater, is_lt, is_eq}
use Rattle.std.specs.Prelude.{Contains}
use Rattle.std.specs.List.{AllByRecursion}
use Rattle.std.specs.Option.{option_or}

-- Truth values

pub and_false : (a : Bool) → (a && false) ≡ false
and_false true = refl
and_false false = refl

pub and_true : (a : Bool) → (a && true) ≡ a
and_true true = refl
and_true false = refl

pub or_false : (a : Bool) → (a || false) ≡ a
or_false true = refl
or_false false = refl

pub or_assoc : (a b c : Bool) → (a || (b || c)) ≡ ((a || b) || c)
or_assoc true b c = refl
or_assoc false b c = refl

pub is_true : (b : Bool) → T b → b ≡ true
is_true true h = refl
is_true false h = absurd h

pub holds : (b : Bool) → b ≡ true → T b
holds b h = subst T (sym h) tt

pub both_hold : (a b : Bool) → T (a && b) → T a × T b
both_hold true b h = (tt, h)
both_hold false b h = absurd h

-- Orderings

pub less_of : (o : Ordering) → is_lt o ≡ true → o ≡ Less
less_of Less h = refl
less_of Equal h = absurd (true≢false (sym h))
less_of Greater h = absurd (true≢false (sym h))

pub equal_of : (o : Ordering) → is_eq o ≡ true → o ≡ Equal
equal_of Less h = absurd (true≢false (sym h))
equal_of Equal h = refl
equal_of Greater h = absurd (true≢false (sym h))

-- What a list contains

pub contains_none : {X : Type 0} (x : X) → Contains [] x → ⊥
contains_none x (k, short, is) = absurd (omega (arith, short))

pub contains_one : {X : Type 0} (x y : X) → Contains (x ∷ []) y → x ≡ y
contains_one x y (zero, short, is) = is
contains_one x y (suc k, short, is) = absurd (omega (arith, short))

pub nothing_in : {X : Type 0} (xs : List X) → ((x : X) → Contains xs x → ⊥) → xs ≡ []
nothing_in [] none = refl
nothing_in (x ∷ xs) none = absurd (none x (0, omega arith, refl))

pub from_map : {X Y : Type 0} (f : X → Y) (xs : List X) (y : Y) → Contains (map f xs) y →
    (x : X) × Contains xs x × (f x ≡ y)
from_map f [] y c = absurd (omega (arith, c.1))
from_map f (x ∷ xs) y (zero, short, is) = (x, (0, omega arith, refl), is)
from_map f (x ∷ xs) y (suc k, short, is) =
    let rest = from_map f xs y (k, omega (arith, short), is) in
    (rest.0, (suc rest.1.0, omega (arith, rest.1.1), rest.1.2), rest.2)

pub empty_of : {X : Type 0} (xs : List X) → length xs ≡ 0 → xs ≡ []
empty_of [] none = refl
empty_of (x ∷ xs) none = absurd (omega arith)

-- What holds of each

pub each_append : {X : Type 0} (P : X → Type 0) (xs ys : List X) → AllByRecursion P xs →
    AllByRecursion P ys → AllByRecursion P (xs ++ ys)
each_append P [] ys h k = k
each_append P (x ∷ xs) ys h k = (h.0, each_append P xs ys h.1 k)

pub each_with : {X : Type 0} (P Q : X → Type 0) → ((x : X) → P x → Q x) → (xs : List X) →
    AllByRecursion P xs → AllByRecursion Q xs
each_with P Q f [] h = tt
each_with P Q f (x ∷ xs) h = (f x h.0, each_with P Q f xs h.1)

pub each_of_both : {X : Type 0} (P Q R : X → Type 0) → ((x : X) → P x → Q x → R x) →
    (xs : List X) → AllByRecursion P xs → AllByRecursion Q xs → AllByRecursion R xs
each_of_both P Q R f [] h k = tt
each_of_both P Q R f (x ∷ xs) h k = (f x h.0 k.0, each_of_both P Q R f xs h.1 k.1)

-- What may be nothing

pub none_of : {X : Type 0} (o : Option X) → is_some o ≡ false → o ≡ None
none_of None h = refl
none_of (Some x) h = absurd (true≢false h)

pub or_none : {X : Type 0} (o : Option X) → option_or o None ≡ o
or_none None = refl
or_none (Some x) = refl
