-- The requests of a session that wait for an answer.
use Rattle.std.proofs.Common.{◌≡◌, ℕ, zero, suc, true, false, not, ◌==◌}
use Rattle.std.proofs.Common.{true≢false, if◌then◌else◌, List, [], ◌∷◌, refl}
use Rattle.std.proofs.Common.{sym, ap, ◌∙◌, Some, arith, inl, inr}
use Rattle.std.specs.Prelude.{Contains}
use Rattle.std.proofs.lemmas.Bool.{eqb-true}
use Rattle.std.proofs.lemmas.List.Elements.{Contains-append_left, Contains-append_right}
use Rattle.std.proofs.lemmas.List.Elements.{Contains-append_cases}
use Rattle.std.proofs.lemmas.Option.{none-some, same_Some}
use Rattle.syn_machine.specs.Side.{Request}
use Rattle.syn_machine.specs.Coordinator.{Outstanding, without, asked_in}

pub kept_in-filter : (number : ℕ) (waiting : List Outstanding) (one : Outstanding) →
    Contains waiting one → (one.number == number) ≡ false → Contains (without number waiting) one
kept_in-filter number [] one c off = absurd (omega (arith, c.1))
kept_in-filter number (first ∷ waiting) one (zero, h, e) off =
    elim (first.number == number) as (λ b. (first.number == number) ≡ b →
    Contains (if not b then first ∷ without number waiting else without number waiting) one) [
      | true ↦ λ on. absurd (true≢false (sym on ∙ (ap (λ o. o.number == number) e ∙ off)))
      | false ↦ λ _. (0, omega arith, e)
    ] refl
kept_in-filter number (first ∷ waiting) one (suc k, h, e) off =
    let rest = kept_in-filter number waiting one (k, omega (arith, h), e) off in
    elim (first.number == number) as (λ b. Contains
    (if not b then first ∷ without number waiting else without number waiting) one) [
      | true ↦ rest
      | false ↦ (suc rest.0, let w = rest.1 in omega (arith, w), rest.2)
    ]

one_later : (first : Outstanding) (waiting : List Outstanding) (one : Outstanding) →
    Contains waiting one → Contains (first ∷ waiting) one
one_later first waiting one c = Contains-append_right (first ∷ []) waiting one c

pub was_in-filter : (number : ℕ) (waiting : List Outstanding) (one : Outstanding) →
    Contains (without number waiting) one → Contains waiting one
was_in-filter number [] one c = c
was_in-filter number (first ∷ waiting) one c =
    elim (first.number == number) as (λ b. Contains (if not b then first ∷ without number waiting
    else without number waiting) one → Contains (first ∷ waiting) one) [
      | true ↦ λ c. one_later first waiting one (was_in-filter number waiting one c)
      | false ↦ λ c. elim (Contains-append_cases (first ∷ []) (without number waiting) one c)
          as (λ _. Contains (first ∷ waiting) one) [
            | inl here ↦ Contains-append_left (first ∷ []) waiting one here
            | inr there ↦ one_later first waiting one (was_in-filter number waiting one there)
          ]
    ] c

-- the request that waits under a number
pub asked_waits : (waiting : List Outstanding) (number : ℕ) (request : Request) →
    asked_in waiting number ≡ Some request →
    (one : Outstanding) × Contains waiting one × (one.number ≡ number) × (one.request ≡ request)
asked_waits [] number request e = absurd (none-some _ e)
asked_waits (first ∷ waiting) number request e =
    elim (first.number == number) as (λ b. (first.number == number) ≡ b → (if b
    then Some first.request else asked_in waiting number) ≡ Some request → (one : Outstanding)
    × Contains (first ∷ waiting) one × (one.number ≡ number) × (one.request ≡ request)) [
      | true ↦ λ on is.
          (first, (0, omega arith, refl), eqb-true first.number number on, same_Some _ _ is)
      | false ↦ λ _ is. let rest = asked_waits waiting number request is in
          (rest.0, (suc rest.1.0, let w = rest.1.1 in omega (arith, w), rest.1.2), rest.2, rest.3)
    ] refl e
