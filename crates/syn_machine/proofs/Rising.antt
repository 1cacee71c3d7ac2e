-- The numbers of what waits on a side rise: as an answer is taken, as more is asked for, and as
-- what waits is sent again.
use Rattle.std.proofs.Common.{◌≡◌, ◌<◌, ◌+◌, ℕ, suc, true, false, not, ◌==◌, if◌then◌else◌, List}
use Rattle.std.proofs.Common.{[], ◌∷◌, ◌++◌, length, get_or, refl, sym, ap, subst, Some, arith}
use Rattle.std.proofs.Common.{append_assoc, append-nil, inl, inr}
use Rattle.std.specs.Prelude.{All}
use Rattle.std.proofs.lemmas.Bool.{eqb-true}
use Rattle.std.proofs.lemmas.List.{get_or-map}
use Rattle.std.proofs.lemmas.List.Elements.{All-map, All-push}
use Rattle.std.proofs.lemmas.List.Kept.{AllPairs-filter}
use Rattle.std.proofs.lemmas.List.Quantifiers.{all_pairs_push}
use Rattle.std.proofs.lemmas.Bool.Decides.{nat_tests}
use Rattle.std.proofs.lemmas.Option.{none-some}
use Rattle.syn_machine.specs.Side.{Request}
use Rattle.syn_machine.specs.Coordinator.{Outstanding, asked_in, numbered, once_more, without}
use Rattle.syn_machine.specs.Coordinator.{AreRising, IsListing, MayWait}

abbrev Rises : Outstanding → Outstanding → Type 0
Rises earlier later = earlier.number < later.number

-- what comes later has a higher number
pub later_above : (one : Outstanding) (more : List Outstanding) → AreRising (one ∷ more) →
    All (λ later. one.number < later.number) more
later_above one more rising k d less = rising 0 (suc k) d (omega arith) (omega (arith, less))

pub later_rise : (one : Outstanding) (more : List Outstanding) → AreRising (one ∷ more) →
    AreRising more
later_rise one more rising i j d before less =
    rising (suc i) (suc j) d (omega (arith, before)) (omega (arith, less))

pub without-rising : (number : ℕ) (waiting : List Outstanding) → AreRising waiting →
    AreRising (without number waiting)
without-rising number waiting = AllPairs-filter Rises (λ one. not (one.number == number)) waiting

-- where each number is above, all stay
pub all_stay : (number : ℕ) (waiting : List Outstanding) →
    All (λ one. number < one.number) waiting → without number waiting ≡ waiting
all_stay number [] above = refl
all_stay number (one ∷ more) above =
    let here : number < one.number = above 0 one (omega arith) in
    let off : (one.number == number) ≡ false = apart one.number number here in
    let rest : without number more ≡ more =
    all_stay number more (λ k d less. above (suc k) d (omega (arith, less))) in
    subst (λ b. (if not b then one ∷ without number more else without number more) ≡ one ∷ more)
    (sym off) (ap (λ later. one ∷ later) rest)
  where
    apart : (m n : ℕ) → n < m → (m == n) ≡ false
    apart m n h = grind (arith, nat_tests)

-- so what was answered was one that waited, and no other has its number
pub one_less : (waiting : List Outstanding) (number : ℕ) (request : Request) → AreRising waiting →
    asked_in waiting number ≡ Some request → length (without number waiting) + 1 ≡ length waiting
one_less [] number request rising e = absurd (none-some _ e)
one_less (one ∷ more) number request rising e =
    elim (one.number == number) as (λ b. (one.number == number) ≡ b →
    (if b then Some one.request else asked_in more number) ≡ Some request →
    length (if not b then one ∷ without number more else without number more) + 1
    ≡ suc (length more)) [
      | true ↦ λ on is.
          let same : one.number ≡ number = eqb-true one.number number on in
          let stay = ap length (all_stay number more
          (subst (λ n. All (λ later. n < later.number) more) same (later_above one more rising))) in
          omega (arith, stay)
      | false ↦ λ off is.
          let less = one_less more number request (later_rise one more rising) is in
          omega (arith, less)
    ] refl e

-- what is asked for now is numbered on
pub numbered-rising : (waiting : List Outstanding) (count : ℕ) (requests : List Request) →
    AreRising waiting → All (λ one. one.number < count) waiting →
    AreRising (waiting ++ numbered count requests)
numbered-rising waiting count [] rising below =
    subst AreRising (sym (append-nil waiting)) rising
numbered-rising waiting count (request ∷ more) rising below =
    let now : Outstanding = record { number = count; request = request; resent = 0 } in
    subst AreRising (append_assoc waiting (now ∷ []) (numbered (suc count) more))
    (numbered-rising (waiting ++ now ∷ []) (suc count) more
    (all_pairs_push Rises waiting now rising (λ k d less. below k d less))
    (All-push (λ one. one.number < suc count) waiting now
    (λ k d less. let was = below k d less in omega (arith, was)) (omega arith)))

-- what waits is sent again
pub once_more-length : (waiting : List Outstanding) →
    length (once_more waiting) ≡ length waiting
once_more-length [] = refl
once_more-length (one ∷ more) = ap suc (once_more-length more)

pub once_more-rising : (waiting : List Outstanding) → AreRising waiting →
    AreRising (once_more waiting)
once_more-rising waiting rising i j d before less =
    let within : j < length waiting =
    omega (arith, less, once_more-length waiting) in
    let first = get_or-map (λ (one : Outstanding). record one { resent = suc one.resent }) waiting
    i d d (omega (arith, before, within)) in
    let second = get_or-map (λ (one : Outstanding). record one { resent = suc one.resent }) waiting
    j d d within in
    let was = rising i j d before within in
    let a : (get_or (once_more waiting) i d).number ≡ (get_or waiting i d).number =
    ap (λ o. o.number) first in
    let b : (get_or (once_more waiting) j d).number ≡ (get_or waiting j d).number =
    ap (λ o. o.number) second in
    omega (arith, a, b, was)

pub may_wait_again : (waiting : List Outstanding) → MayWait waiting → MayWait (once_more waiting)
may_wait_again waiting may =
    let same = once_more-length waiting in
    elim may as (λ _. MayWait (once_more waiting)) [
      | inl alone ↦ inl (omega (arith, same, alone))
      | inr listings ↦ let few = listings.1 in
          inr (
            All-map (λ one. IsListing one.request)
                (λ (one : Outstanding). record one { resent = suc one.resent }) waiting listings.0,
            omega (arith, same, few),
          )
    ]
