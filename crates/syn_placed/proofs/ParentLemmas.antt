-- Parents and children of paths.
use Rattle.std.proofs.Common.{◌≡◌, ◌≤◌, ◌<◌, ◌+◌, ℕ, zero, suc, Bool, true, false, cond}
use Rattle.std.proofs.Common.{if◌then◌else◌, not, ◌&&◌, [], ◌∷◌, take, length, refl, sym, ap, ◌∙◌}
use Rattle.std.proofs.Common.{Some, None, is_some, arith}
use Rattle.std.specs.Prelude.{option_and_then}
use Rattle.std.specs.Ordering.{eq_by_cmp}
use Rattle.std.specs.Cmp.{eq_by_cmp_equiv}
use Rattle.std.proofs.lemmas.Option.{none-some}
use Rattle.syn_model.specs.Path.{Path, name_cmp, path_cmp, strip_prefix, is_root, parent}
use Rattle.syn_model.specs.Tree.{Tree, is_directory}
use Rattle.syn_model.specs.Limits.{only_name}
use Rattle.syn_model.specs.Refusal.{Root, NoParent, first_cause}
use Rattle.syn_model.specs.Standing.{place_causes}
use Rattle.syn_model.proofs.PathLemmas.{name_total, then_rest}
use Rattle.syn_placed.specs.Pairs.{is_child}

pub parent-take : (q : Path) (k : ℕ) → k + 1 ≡ length q → take k q ≡ parent q
parent-take [] k h = absurd (omega arith)
parent-take (n ∷ []) zero h = refl
parent-take (n ∷ []) (suc k) h = absurd (omega arith)
parent-take (n ∷ m ∷ q) zero h = absurd (omega arith)
parent-take (n ∷ m ∷ q) (suc k) h = ap (λ p. n ∷ p) (parent-take (m ∷ q) k (omega arith))

pub not_root : (q : Path) → 1 ≤ length q → is_root q ≡ false
not_root [] h = absurd (omega arith)
not_root (n ∷ q) h = refl

pub child-take : (p q : Path) (k : ℕ) → k + 1 ≡ length q →
    eq_by_cmp path_cmp (take k q) p ≡ is_child p q
child-take p [] k h = absurd (omega arith)
child-take p (m ∷ []) (suc k) h = absurd (omega arith)
child-take p (m ∷ x ∷ q) zero h = absurd (omega arith)
child-take [] (m ∷ []) zero h = refl
child-take [] (m ∷ x ∷ q) (suc k) h = refl
child-take (n ∷ []) (m ∷ []) zero h =
    elim (eq_by_cmp name_cmp n m)
    as (λ b. false ≡ is_some (option_and_then only_name (if b then Some [] else None)))
    [ true ↦ refl | false ↦ refl ]
child-take (n ∷ x ∷ p) (m ∷ []) zero h =
    elim (eq_by_cmp name_cmp n m)
    as (λ b. false ≡ is_some (option_and_then only_name (if b then None else None)))
    [ true ↦ refl | false ↦ refl ]
child-take (n ∷ p) (m ∷ x ∷ q) (suc k) h =
    let rest = child-take p (x ∷ q) k (omega arith) in
    then_rest m n (take k (x ∷ q)) p
    ∙ (ap (λ b. cond b (eq_by_cmp path_cmp (take k (x ∷ q)) p) false)
    ((eq_by_cmp_equiv name_total).symm m n)
    ∙ elim (eq_by_cmp name_cmp n m) as (λ b. cond b (eq_by_cmp path_cmp (take k (x ∷ q)) p) false
    ≡ is_some (option_and_then only_name (if b then strip_prefix p (x ∷ q) else None)))
    [ true ↦ rest | false ↦ refl ])

pub no_child : (p q : Path) → length q < 1 → is_child p q ≡ false
no_child [] [] h = refl
no_child (n ∷ p) [] h = refl
no_child p (m ∷ q) h = absurd (omega arith)

-- below the root, the parent of a child is the path above it
pub child-parent : (p q : Path) →
    (not (is_root q) && eq_by_cmp path_cmp (parent q) p) ≡ is_child p q
child-parent p [] = sym (no_child p [] (omega arith))
child-parent p (m ∷ q) =
    ap (λ a. eq_by_cmp path_cmp a p) (sym (parent-take (m ∷ q) (length q) (omega arith)))
    ∙ child-take p (m ∷ q) (length q) (omega arith)

-- why nothing may be put at a place
pub place_root : (t : Tree) (q : Path) → is_root q ≡ true →
    first_cause (place_causes t q) ≡ Some Root
place_root t q h =
    ap (λ b. if b then Some Root
    else first_cause ((not (is_directory t (parent q)), NoParent) ∷ [])) h

pub place_answer : (t : Tree) (q : Path) → is_root q ≡ false →
    first_cause (place_causes t q) ≡ (if is_directory t (parent q) then None else Some NoParent)
place_answer t q h =
    ap (λ b. if b then Some Root
    else first_cause ((not (is_directory t (parent q)), NoParent) ∷ [])) h
    ∙ elim (is_directory t (parent q))
    as (λ b. (if not b then Some NoParent else None) ≡ (if b then None else Some NoParent))
    [ true ↦ refl | false ↦ refl ]

pub place_free : (t : Tree) (q : Path) → first_cause (place_causes t q) ≡ None →
    (is_root q ≡ false) × (is_directory t (parent q) ≡ true)
place_free t q h = by_root (is_root q) refl (is_directory t (parent q)) refl
  where
    by_root : (a : Bool) → is_root q ≡ a → (b : Bool) → is_directory t (parent q) ≡ b →
        (is_root q ≡ false) × (is_directory t (parent q) ≡ true)
    by_root true is b is' = absurd (none-some _ (sym h ∙ place_root t q is))
    by_root false is true is' = (is, is')
    by_root false is false is' =
        absurd (none-some _
        (sym h ∙ (place_answer t q is ∙ ap (λ b. if b then None else Some NoParent) is')))

pub place_allowed : (t : Tree) (q : Path) → is_root q ≡ false → is_directory t (parent q) ≡ true →
    first_cause (place_causes t q) ≡ None
place_allowed t q h k = place_answer t q h ∙ ap (λ b. if b then None else Some NoParent) k
