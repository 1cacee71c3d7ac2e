-- What the looks at a folder show.
use Rattle.std.proofs.Common.{◌≡◌, ℕ, List, [], ◌∷◌, ◌++◌, length, map, take, inl, inr, sym, subst}
use Rattle.std.proofs.Common.{ap, ◌∙◌, arith, append-nil, Option, Some, None, ◌<◌, ◌+◌}
use Rattle.std.proofs.Common.{get_or, Bor, ◌↔◌}
use Rattle.std.proofs.lemmas.List.{map-append, take_more}
use Rattle.std.specs.Option.{option_to_list}
use Rattle.std.proofs.Math.Seq.{take-length}
use Rattle.syn_model.specs.Path.{Bytes}
use Rattle.std.specs.List.{Contains}
use Rattle.std.specs.List.Sorted.{IsPermutation}
use Rattle.std.proofs.lemmas.List.Elements.{Contains-append_left, Contains-append_right}
use Rattle.std.proofs.lemmas.List.Elements.{Contains-append_cases, Contains-push}
use Rattle.std.proofs.lemmas.List.Elements.{Contains-push_cases}
use Rattle.std.proofs.lemmas.List.Sorted.{Contains-permutation, IsPermutation-sym}
use Rattle.syn_folder.specs.Looks.{AreShown}
use Rattle.syn_model.proofs.BaseLemmas.{contains_none, contains_one}

pub shown_none : {A B : Type 0} (Shows : A → B → Type 0) → AreShown Shows [] []
shown_none Shows one = (
  (λ within. absurd (contains_none one within)),
  (λ shows. absurd
      (contains_none shows.0 shows.1)),
)

-- one more, which shows these
pub shown_more : {A B : Type 0} (Shows : A → B → Type 0) (from : List A) (x : A)
    (found more : List B) → AreShown Shows from found
    → ((one : B) → (Contains more one → Shows x one) × (Shows x one → Contains more one))
    → AreShown Shows (from ++ x ∷ []) (found ++ more)
shown_more Shows from x found more before new one = (
  (λ within. elim (Contains-append_cases found more one within) [
    | inl earlier ↦
        let shows = (before one).0 earlier in
        (shows.0, Contains-append_left from (x ∷ []) shows.0 shows.1, shows.2)
    | inr later ↦ (x, Contains-push from x, (new one).0 later)
  ]),
  (λ shows. elim (Contains-push_cases from x shows.0 shows.1) [
    | inl earlier ↦ Contains-append_left found more one
        ((before one).1 (shows.0, earlier, shows.2))
    | inr is ↦ Contains-append_right found more one
        ((new one).1 (subst (λ y. Shows y one) (sym is) shows.2))
  ]),
)

-- one more, which shows nothing
pub shown_skip : {A B : Type 0} (Shows : A → B → Type 0) (from : List A) (x : A) (found : List B)
    → AreShown Shows from found → ((one : B) → Shows x one → ⊥)
    → AreShown Shows (from ++ x ∷ []) found
shown_skip Shows from x found before nothing =
    subst (λ all. AreShown Shows (from ++ x ∷ []) all) (append-nil found)
    (shown_more Shows from x found [] before (λ one.
    ((λ within. absurd (contains_none one within)), (λ shows. absurd (nothing one shows)))))

-- one more, which shows one thing
pub shown_one : {A B : Type 0} (Shows : A → B → Type 0) (from : List A) (x : A) (found : List B)
    (y : B) → AreShown Shows from found → Shows x y → ((one : B) → Shows x one → y ≡ one)
    → AreShown Shows (from ++ x ∷ []) (found ++ y ∷ [])
shown_one Shows from x found y before shows only =
    shown_more Shows from x found (y ∷ []) before (λ one. (
      (λ within. subst (Shows x) (contains_one y one within) shows),
      (λ there. subst (Contains (y ∷ [])) (only one there) (Contains-push [] y)),
    ))

-- the same in another order
pub shown_permuted : {A B : Type 0} (Shows : A → B → Type 0) (from other : List A) (found : List B)
    → IsPermutation from other → AreShown Shows other found → AreShown Shows from found
shown_permuted Shows from other found moved shown one = (
  (λ within. let shows = (shown one).0 within in (
    shows.0,
    Contains-permutation other from shows.0 (IsPermutation-sym from other moved) shows.1,
    shows.2,
  )),
  (λ shows. (shown one).1
      (shows.0, Contains-permutation from other shows.0 moved shows.1, shows.2)),
)

-- what an option has
option_has : {B : Type 0} (there : Option B) (one : B)
    → (Contains (option_to_list there) one → there ≡ Some one)
    × (there ≡ Some one → Contains (option_to_list there) one)
option_has None one = ((λ within. absurd (contains_none one within)), (λ is. absurd cc))
option_has (Some x) one = (
  (λ within. ap Some (contains_one x one within)),
  (λ is. let same : x ≡ one = cc in subst (Contains (x ∷ [])) same (Contains-push [] x)),
)

-- one more, which shows one thing or nothing
pub shown_option : {A B : Type 0} (Shows : A → B → Type 0) (from : List A) (x : A) (found : List B)
    (there : Option B) → AreShown Shows from found
    → ((one : B) → (there ≡ Some one) ↔ Shows x one)
    → AreShown Shows (from ++ x ∷ []) (found ++ option_to_list there)
shown_option Shows from x found there before says =
    shown_more Shows from x found (option_to_list there) before (λ one. (
      (λ within. (says one).0 ((option_has there one).0 within)),
      (λ shows. (option_has there one).1 ((says one).1 shows)),
    ))

-- one more of a list, by its place
pub more_named : (names : List (Bor Bytes)) (i : ℕ) (d : Bor Bytes) → i < length names
    → map (λ n. n.now) (take (i + 1) names)
    ≡ map (λ n. n.now) (take i names) ++ (get_or names i d).now ∷ []
more_named names i d within =
    ap (map (λ n. n.now)) (take_more names i d within)
    ∙ map-append (λ (n : Bor Bytes). n.now) (take i names) (get_or names i d ∷ [])

pub named_option : {B : Type 0} (Shows : Bytes → B → Type 0) (names : List (Bor Bytes)) (i : ℕ)
    (d : Bor Bytes) (found more : List B) (there : Option B) → i < length names
    → AreShown Shows (map (λ n. n.now) (take i names)) found
    → ((one : B) → (there ≡ Some one) ↔ Shows (get_or names i d).now one)
    → more ≡ found ++ option_to_list there
    → AreShown Shows (map (λ n. n.now) (take (i + 1) names)) more
named_option Shows names i d found more there within before says is =
    subst (AreShown Shows (map (λ n. n.now) (take (i + 1) names))) (sym is)
    (subst (λ all. AreShown Shows all (found ++ option_to_list there))
    (sym (more_named names i d within))
    (shown_option Shows (map (λ n. n.now) (take i names)) (get_or names i d).now found there before
    says))

-- all of a list was gone through, and it was another order of the first
pub named_all : {B : Type 0} (Shows : Bytes → B → Type 0) (from : List Bytes)
    (names : List (Bor Bytes)) (i : ℕ) (found : List B) → i ≡ length names
    → IsPermutation from (map (λ n. n.now) names)
    → AreShown Shows (map (λ n. n.now) (take i names)) found → AreShown Shows from found
named_all Shows from names i found ended moved shown =
    shown_permuted Shows from (map (λ n. n.now) names) found moved
    (subst (λ xs. AreShown Shows (map (λ n. n.now) xs) found)
    (ap (λ n. take n names) ended ∙ take-length names) shown)

-- what was pushed, or not
pub pushed_some : {B : Type 0} (more found : List B) (x : B) (there : Option B) → there ≡ Some x
    → more ≡ found ++ x ∷ [] → more ≡ found ++ option_to_list there
pushed_some more found x there some is = is ∙ ap (λ o. found ++ option_to_list o) (sym some)

pub pushed_none : {B : Type 0} (more found : List B) (there : Option B) → there ≡ None
    → more ≡ found → more ≡ found ++ option_to_list there
pushed_none more found there none is =
    is ∙ (sym (append-nil found) ∙ ap (λ o. found ++ option_to_list o) (sym none))
