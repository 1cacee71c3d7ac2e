-- A walk through a folder.
use Rattle.std.proofs.Common.{◌≡◌, List, [], ◌∷◌, ◌++◌, map, inl, inr, sym, subst, Vec}
use Rattle.std.proofs.Common.{ℕ, Global, refl, ap₂, true}
use Rattle.std.specs.Prelude.{bytes_eq}
use Rattle.std.specs.Cmp.Lexicographic.{pointwise}
use Rattle.std.proofs.lemmas.Slice.Eq.{bytes_eq-Decides}
use Rattle.syn_folder.proofs.PictureLemmas.{both}
use Rattle.std.specs.List.{Contains}
use Rattle.std.specs.List.Sorted.{IsPermutation}
use Rattle.std.proofs.lemmas.List.{map-append}
use Rattle.std.proofs.lemmas.List.Elements.{Contains-append_cases, Contains-append_left}
use Rattle.std.proofs.lemmas.List.Elements.{Contains-append_right, Contains-push}
use Rattle.std.proofs.lemmas.List.Elements.{Contains-push_cases}
use Rattle.std.proofs.lemmas.List.Sorted.{Contains-permutation}
use Rattle.syn_model.specs.Path.{Bytes, Path, root}
use Rattle.syn_folder.specs.Looks.{AreShown, IsChildOf, IsEntered, IsFollowed, IsOfDirectory}
use Rattle.syn_folder.specs.Looks.{listed_in, pieces}
use Rattle.syn_folder.specs.declared.system.looks.Look.{Look}
use Rattle.syn_folder.specs.declared.system.looks.Seen.{Seen}
use Rattle.syn_folder.specs.declared.system.looks.Shown.{Shown}
use Rattle.syn_folder.specs.declared.system.looks.Shown.TheVariants as shown
use Rattle.syn_model.proofs.BaseLemmas.{contains_none}

-- nothing was looked at yet
pub followed_none : (at : Path) (pending : List Path) → IsFollowed at [] pending
followed_none at pending seen name child within = absurd (contains_none seen within)

-- one more was looked at, and what it lists is pending
pub followed_more : (at : Path) (looks : List Seen) (pending more : List Path) (seen : Seen)
    → IsFollowed at looks (pending ++ seen.path ∷ [])
    → ((child : Path) → Contains pending child → Contains more child)
    → ((name : Bytes) (child : Path) → Contains (listed_in seen.shown) name
    → IsChildOf at seen.path name child → Contains more child)
    → IsFollowed at (looks ++ seen ∷ []) more
followed_more at looks pending more seen before kept listed one name child within lists is =
    let paths = map (λ (s : Seen). s.path) looks in
    let all : map (λ (s : Seen). s.path) (looks ++ seen ∷ []) ≡ paths ++ seen.path ∷ [] =
    map-append (λ (s : Seen). s.path) looks (seen ∷ []) in
    subst (λ xs. Contains (xs ++ more) child) (sym all) (elim
    (Contains-push_cases looks seen one within) [
      | inl earlier ↦ elim (Contains-append_cases paths (pending ++ seen.path ∷ []) child
          (before one name child earlier lists is)) [
            | inl looked ↦ Contains-append_left (paths ++ seen.path ∷ []) more child
                (Contains-append_left paths (seen.path ∷ []) child looked)
            | inr left ↦ elim (Contains-push_cases pending seen.path child left) [
              | inl still ↦ Contains-append_right (paths ++ seen.path ∷ []) more child
                  (kept child still)
              | inr now ↦ Contains-append_left (paths ++ seen.path ∷ []) more child
                  (subst (Contains (paths ++ seen.path ∷ [])) now (Contains-push paths seen.path))
            ]
          ]
      | inr same ↦ Contains-append_right (paths ++ seen.path ∷ []) more child (listed name child
          (subst (λ (s : Seen). Contains (listed_in s.shown) name) (sym same) lists)
          (subst (λ (s : Seen). IsChildOf at s.path name child) (sym same) is))
    ])

-- the folder itself was looked at first
pub entered_first : (looks : List Seen) (seen : Seen) → seen.path ≡ root → IsOfDirectory seen.shown
    → IsEntered (looks ++ seen ∷ [])
entered_first looks seen is there = (seen, Contains-push looks seen, is, there)

pub entered_more : (looks more : List Seen) → IsEntered looks → IsEntered (looks ++ more)
entered_more looks more entered =
    (entered.0, Contains-append_left looks more entered.0 entered.1, entered.2, entered.3)

-- what a directory lists is among what comes after the pending
pub listed_after : (at path : Path) (there : Shown) (look : Look) (listing : Vec ℕ Global)
    (bytes : Bytes) (children turned pending all : List Path) → there ≡ shown.Directory look listing
    → bytes ≡ listing.items → AreShown (IsChildOf at path) (pieces bytes) children
    → IsPermutation children turned → all ≡ pending ++ turned
    → (name : Bytes) (child : Path) → Contains (listed_in there) name
    → IsChildOf at path name child → Contains all child
listed_after at path there look listing bytes children turned pending all is same shows moved more
    name child lists fits =
    let within = subst (λ s. Contains (listed_in s) name) is lists in
    let piece = subst (λ b. Contains (pieces b) name) (sym same) within in
    subst (λ xs. Contains xs child) (sym more) (Contains-append_right pending turned child
    (Contains-permutation children turned child moved ((shows child).1 (name, piece, fits))))

-- what is no directory lists nothing
pub lists_nothing : (there : Shown)
    → ((look : Look) (listing : Vec ℕ Global) → there ≡ shown.Directory look listing → ⊥)
    → (name : Bytes) → Contains (listed_in there) name → ⊥
lists_nothing (shown.Directory look listing) other name within = other look listing refl
lists_nothing (shown.Crowded listing) other name within = contains_none name within
lists_nothing (shown.File look bytes) other name within = contains_none name within
lists_nothing (shown.Strange because) other name within = contains_none name within
lists_nothing shown.Unread other name within = contains_none name within
lists_nothing shown.Changed other name within = contains_none name within

-- names that compare as equal are the same
pub same_names : (p q : Path) → pointwise bytes_eq p q ≡ true → p ≡ q
same_names [] [] same = refl
same_names [] (y ∷ q) same = absurd cc
same_names (x ∷ p) [] same = absurd cc
same_names (x ∷ p) (y ∷ q) same =
    let parts = both (bytes_eq x y) (pointwise bytes_eq p q) same in
    ap₂ (λ a b. a ∷ b) ((bytes_eq-Decides x y).0 parts.0)
    (same_names p q parts.1)
