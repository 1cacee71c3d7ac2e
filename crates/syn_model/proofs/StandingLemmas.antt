-- What an image keeps of a history goes on event by event.
use Rattle.std.proofs.Common.{◌≡◌, ℕ, ◌+◌, ◌-◌, List, [], ◌∷◌, ◌++◌, length, take, drop, sym, ap}
use Rattle.std.proofs.Common.{◌∙◌, subst, append_assoc, append-nil, add-zero, zero-add, suc, None}
use Rattle.std.proofs.Common.{arith, fold}
use Rattle.std.proofs.lemmas.List.{length-append, length-drop, drop-drop, drop-append-le}
use Rattle.std.proofs.lemmas.List.{take-append-le}
use Rattle.std.proofs.lemmas.List.Sums.{fold-append}
use Rattle.std.proofs.Math.Seq.{take-add}
use Rattle.syn_model.specs.Event.{Event}
use Rattle.syn_model.specs.Standing.{Touch, most_touches, surplus, above_last, touches_at}
use Rattle.syn_model.specs.Standing.{session_after, token_after, standing_after, AllAllowedAt}
use Rattle.syn_model.specs.History.{History, standing_of, touches_from}
use Rattle.syn_model.specs.Laws.{StandingSteps, StandingAllows}
use Rattle.syn_model.proofs.HistoryLemmas.{tree_of-append}

touches_from-append : (position : ℕ) (history : History) (event : Event) →
    touches_from position (history ++ event ∷ [])
    ≡ touches_from position history ++ touches_at (position + length history) event
touches_from-append position [] event =
    append-nil (touches_at position event) ∙ ap (λ n. touches_at n event) (sym (add-zero position))
touches_from-append position (e ∷ history) event =
    ap (λ more. touches_at position e ++ more) (touches_from-append (position + 1) history event)
    ∙ (ap (λ n. touches_at position e ++ (touches_from (position + 1) history
    ++ touches_at n event)) (later position (length history))
    ∙ sym (append_assoc (touches_at position e) (touches_from (position + 1) history)
    (touches_at (position + length (e ∷ history)) event)))
  where
    later : (p n : ℕ) → p + 1 + n ≡ p + suc n
    later p n = omega arith

-- the touches that are left, and more
module _ (limit : ℕ) (touches more : List Touch) where
  all : List Touch
  all = touches ++ more

  left : List Touch
  left = drop (surplus limit touches) touches ++ more

  left_is : left ≡ drop (surplus limit touches) all
  unfolding left all
  left_is = sym (drop-append-le (surplus limit touches) touches more (omega arith))

  surplus_sum : surplus limit touches + surplus limit left ≡ surplus limit all
  unfolding all
  surplus_sum =
      ap (λ xs. surplus limit touches + surplus limit xs) left_is
      ∙ (ap (λ n. surplus limit touches + (n - limit)) (length-drop (surplus limit touches) all)
      ∙ (ap (λ n. surplus limit touches + (n - surplus limit touches - limit))
      (length-append touches more)
      ∙ (sums (length touches) (length more) limit
      ∙ sym (ap (λ n. n - limit) (length-append touches more)))))
    where
      sums : (t m l : ℕ) → (t - l) + (t + m - (t - l) - l) ≡ t + m - l
      sums t m l = omega arith

  pub left_over : drop (surplus limit (drop (surplus limit touches) touches ++ more))
      (drop (surplus limit touches) touches ++ more)
      ≡ drop (surplus limit (touches ++ more)) (touches ++ more)
  unfolding left all
  left_over =
      ap (λ xs. drop (surplus limit left) xs) left_is
      ∙ (drop-drop (surplus limit left) (surplus limit touches) all
      ∙ ap (λ n. drop n all) surplus_sum)

  pub above_goes_on : above_last (above_last 0 (take (surplus limit touches) touches))
      (take (surplus limit (drop (surplus limit touches) touches ++ more))
      (drop (surplus limit touches) touches ++ more))
      ≡ above_last 0 (take (surplus limit (touches ++ more)) (touches ++ more))
  unfolding left all
  above_goes_on =
      let step : ℕ → Touch → ℕ = λ above touch. touch.position + 1 in
      ap (λ xs. above_last (above_last 0 xs) (take (surplus limit left) left))
      (sym (take-append-le (surplus limit touches) touches more (omega arith)))
      ∙ (ap (λ xs. above_last (above_last 0 (take (surplus limit touches) all))
      (take (surplus limit left) xs)) left_is
      ∙ (sym (fold-append step 0 (take (surplus limit touches) all)
      (take (surplus limit left) (drop (surplus limit touches) all)))
      ∙ (ap (λ xs. above_last 0 xs)
      (sym (take-add (surplus limit touches) (surplus limit left) all))
      ∙ ap (λ n. above_last 0 (take n all)) surplus_sum)))

-- one more event takes a standing one step on
pub standing_steps : StandingSteps
standing_steps history event =
    let tree = tree_of-append history (event ∷ []) in
    let position : length (history ++ event ∷ []) ≡ length history + 1 =
    length-append history (event ∷ []) in
    let touches = touches_from-append 0 history event
    ∙ ap (λ n. touches_from 0 history ++ touches_at n event) (zero-add (length history)) in
    let floors = ap (λ xs. above_last 0 (take (surplus most_touches xs) xs)) touches ∙ sym
    (above_goes_on most_touches (touches_from 0 history) (touches_at (length history) event)) in
    let rest = ap (λ xs. drop (surplus most_touches xs) xs) touches
    ∙ sym (left_over most_touches (touches_from 0 history) (touches_at (length history) event)) in
    let session = fold-append session_after 0 history (event ∷ []) in
    let token = fold-append token_after None history (event ∷ []) in
    cc

-- what is allowed in a standing is what is allowed after its history
pub standing_allows : StandingAllows
standing_allows history [] = (λ _. tt, λ _. tt)
standing_allows history (event ∷ events) =
    let next = subst (λ s. AllAllowedAt s events) (standing_steps history event) in
    let back = subst (λ s. AllAllowedAt s events) (sym (standing_steps history event)) in
    let more = standing_allows (history ++ event ∷ []) events in (
      λ all. (
        record { lawful = all.0.lawful; not_refused = all.0.not_refused },
        more.0 (back all.1),
      ),
      λ all. (
        record { lawful = all.0.lawful; not_refused = all.0.not_refused },
        next (more.1 all.1),
      ),
    )

-- the standing after more events is that of the longer history
pub standing_goes_on : (history events : History) →
    standing_of (history ++ events) ≡ fold standing_after (standing_of history) events
standing_goes_on history [] = ap standing_of (append-nil history)
standing_goes_on history (event ∷ events) =
    ap standing_of (sym (append_assoc history (event ∷ []) events))
    ∙ (standing_goes_on (history ++ event ∷ []) events
    ∙ ap (λ s. fold standing_after s events) (standing_steps history event))
