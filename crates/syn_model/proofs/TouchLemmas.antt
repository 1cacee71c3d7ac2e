-- What an image keeps of a history's touches tells what touched a path.
use Rattle.std.proofs.Common.{◌≡◌, ◌≤◌, ◌<◌, ℕ, ◌+◌, ◌-◌, zero, suc, Bool, true, false, not, ◌&&◌}
use Rattle.std.proofs.Common.{◌||◌, List, [], ◌∷◌, ◌++◌, take, drop, refl, sym, ap, ap₂, ◌∙◌}
use Rattle.std.proofs.Common.{nat_le, arith}
use Rattle.std.specs.List.{list_any}
use Rattle.std.proofs.lemmas.Bool.{lt-leb, le-leb, leb-true, leb-false}
use Rattle.std.proofs.lemmas.List.{take-append-drop}
use Rattle.std.proofs.lemmas.List.Folds.{list_any-append}
use Rattle.syn_model.specs.Path.{Path, comparable}
use Rattle.syn_model.specs.Event.{Event, Edited, Began, Replaced, touches, edited_path}
use Rattle.syn_model.specs.Event as event
use Rattle.syn_model.specs.Standing.{Touch, most_touches, surplus, above_last, touches_at}
use Rattle.syn_model.specs.History.{touches_from}
use Rattle.syn_model.specs.Laws.{TouchesTell}
use Rattle.syn_model.proofs.QuietLemmas.{none_touches, quiet_rest}

-- the touches rise, from the position on
abbrev RiseFrom : ℕ → List Touch → Type 0
RiseFrom n [] = Unit {0}
RiseFrom n (touch ∷ touches) = (n ≤ touch.position) × RiseFrom (touch.position + 1) touches

rise_before : (m n : ℕ) (xs : List Touch) → m ≤ n → RiseFrom n xs → RiseFrom m xs
rise_before m n [] h r = tt
rise_before m n (x ∷ xs) h r = (omega (arith, h, r.0), r.1)

touch_rises : (n : ℕ) (event : Event) (xs : List Touch) → RiseFrom (n + 1) xs →
    RiseFrom n (touches_at n event ++ xs)
touch_rises n (Edited user (event.Put path bytes)) xs r = (omega arith, r)
touch_rises n (Edited user (event.MakeDir path)) xs r = (omega arith, r)
touch_rises n (Edited user (event.Remove path)) xs r = (omega arith, r)
touch_rises n (Edited user (event.Chmod path mode)) xs r = (omega arith, r)
touch_rises n (Began session) xs r = rise_before n (n + 1) xs (omega arith) r
touch_rises n (Replaced token path since new) xs r = (omega arith, r)

touches_rise : (n : ℕ) (events : List Event) → RiseFrom n (touches_from n events)
touches_rise n [] = tt
touches_rise n (event ∷ events) =
    touch_rises n event (touches_from (n + 1) events) (touches_rise (n + 1) events)

module _ (since : ℕ) (path : Path) where
  -- the touch is of the path, and not before the position
  abbrev pub tells : Touch → Bool
  tells touch = nat_le since touch.position && comparable touch.path path

  early : (touch : Touch) → touch.position < since → tells touch ≡ false
  early touch h = ap (λ b. b && comparable touch.path path) (lt-leb since touch.position h)

  late : (touch : Touch) → since ≤ touch.position → tells touch ≡ comparable touch.path path
  late touch h = ap (λ b. b && comparable touch.path path) (le-leb since touch.position h)

  above_rises : (m k : ℕ) (xs : List Touch) → RiseFrom m xs → m ≤ above_last m (take k xs)
  above_rises m zero xs r = omega arith
  above_rises m (suc k) [] r = omega arith
  above_rises m (suc k) (x ∷ xs) r = omega (arith, r.0, above_rises (x.position + 1) k xs r.1)

  -- touches that the floor is above are before it
  none_early : (m k : ℕ) (xs : List Touch) → RiseFrom m xs → above_last m (take k xs) ≤ since →
      list_any tells (take k xs) ≡ false
  none_early m zero xs r h = refl
  none_early m (suc k) [] r h = refl
  none_early m (suc k) (x ∷ xs) r h =
      let floor = above_rises (x.position + 1) k xs r.1 in
      ap₂ (λ a b. a || b) (early x (omega (arith, floor, h)))
      (none_early (x.position + 1) k xs r.1 h)

  touch_early : (n : ℕ) (event : Event) → n < since → list_any tells (touches_at n event) ≡ false
  touch_early n (Edited user edit) h =
      ap (λ b. b || false) (early (record { position = n; path = edited_path edit }) h)
  touch_early n (Began session) h = refl
  touch_early n (Replaced token at k new) h =
      ap (λ b. b || false) (early (record { position = n; path = at }) h)

  or_false : (b : Bool) → (b || false) ≡ b
  or_false true = refl
  or_false false = refl

  touch_late : (n : ℕ) (event : Event) → since ≤ n →
      list_any tells (touches_at n event) ≡ touches event path
  touch_late n (Edited user edit) h =
      or_false (tells (record { position = n; path = edited_path edit }))
      ∙ late (record { position = n; path = edited_path edit }) h
  touch_late n (Began session) h = refl
  touch_late n (Replaced token at k new) h =
      or_false (tells (record { position = n; path = at }))
      ∙ late (record { position = n; path = at }) h

  not_both : (a b : Bool) → (a || not b) ≡ not (not a && b)
  not_both true b = refl
  not_both false b = refl

  -- all touches tell it
  all_tell : (n : ℕ) (events : List Event) →
      list_any tells (touches_from n events) ≡ not (none_touches (drop (since - n) events) path)
  all_tell n [] = none (since - n)
    where
      none : (k : ℕ) → false ≡ not (none_touches (drop k []) path)
      none zero = refl
      none (suc k) = refl
  all_tell n (event ∷ events) =
      list_any-append tells (touches_at n event) (touches_from (n + 1) events) ∙
      elim (nat_le since n) as (λ b. nat_le since n ≡ b →
      (list_any tells (touches_at n event) || list_any tells (touches_from (n + 1) events))
      ≡ not (none_touches (drop (since - n) (event ∷ events)) path)) [
        | true ↦ λ y.
            let h = leb-true since n y in
            let here : since - n ≡ 0 = omega (arith, h) in
            let next : since - (n + 1) ≡ 0 = omega (arith, h) in
            ap₂ (λ a b. a || b) (touch_late n event h)
            (all_tell (n + 1) events ∙ ap (λ k. not (none_touches (drop k events) path)) next)
            ∙ (not_both (touches event path) (none_touches events path)
            ∙ ap (λ k. not (none_touches (drop k (event ∷ events)) path)) (sym here))
        | false ↦ λ y.
            let h = leb-false since n y in
            let step : since - n ≡ suc (since - (n + 1)) = omega (arith, h) in
            ap₂ (λ a b. a || b) (touch_early n event h) (all_tell (n + 1) events)
            ∙ ap (λ k. not (none_touches (drop k (event ∷ events)) path)) (sym step)
      ] refl

-- the touches that are kept tell it from the floor on
pub touches_tell : TouchesTell
touches_tell history since path h =
    let all = touches_from 0 history in
    let k = surplus most_touches all in
    let split = ap (list_any (tells since path)) (sym (take-append-drop k all))
    ∙ list_any-append (tells since path) (take k all) (drop k all) in
    let first = none_early since path 0 k all (touches_rise 0 history) h in
    let start : since - 0 ≡ since = omega arith in
    ap not (quiet_rest history since path) ∙ (ap (λ n. not (none_touches (drop n history) path))
    (sym start) ∙ (sym (all_tell since path 0 history)
    ∙ (split ∙ ap (λ b. b || list_any (tells since path) (drop k all)) first)))
