-- What a pass has seen, and what each call adds to it.
use Rattle.std.specs.Prelude.{◌≡◌, ℕ, List, [], ◌∷◌, ◌++◌, Option, Some, replicate}
use mathlib.Core.List.{IsPrefix}
use Rattle.syn_lock.specs.declared.view.Hold.{Hold}
use Rattle.syn_lock.specs.declared.view.View.{View}
use Rattle.syn_lock.specs.History.{hold, end_of, IsHistory, holds_by}

module _ {S : Type 0} where
  abbrev pub view : ℕ → Option S → List (Hold S) → List (Hold S) → List (Hold ℕ) → View S
  view number origin seen own turns = record
      { number = number; origin = origin; seen = seen; own = own; turns = turns }

  -- a new pass, which has seen these holds
  abbrev pub newcomer : ℕ → S → List (Hold S) → View S
  newcomer number origin seen = view number (Some origin) seen [] []

  abbrev pub seeing : View S → List (Hold S) → View S
  seeing v seen = view v.number v.origin seen v.own v.turns

  -- one step more on the lock's word
  abbrev pub turned : View S → ℕ → ℕ → View S
  turned v found left = view v.number v.origin v.seen v.own
      (v.turns ++ hold v.number found left ∷ [])

  -- it saw these holds, found the lock free and took it
  abbrev pub entered : View S → List (Hold S) → View S
  entered v seen = turned (seeing v seen) 0 1

  -- its exchange found the lock taken, and left it so
  abbrev pub refused : View S → View S
  refused v = turned v 1 1

  abbrev pub refused_times : View S → ℕ → View S
  refused_times v times = view v.number v.origin v.seen v.own
      (v.turns ++ replicate times (hold v.number 1 1))

  -- it gave the lock back
  abbrev pub outside : View S → View S
  outside v = turned v 1 0

  -- the pass's own hold, from the last state that it saw to the state left
  abbrev pub own_hold : S → View S → S → Hold S
  own_hold origin v left = hold v.number (end_of origin v.seen) left

  abbrev pub published : S → View S → S → View S
  published origin v left = view v.number v.origin (v.seen ++ own_hold origin v left ∷ [])
      (v.own ++ own_hold origin v left ∷ []) v.turns

  -- after a hold of its own, which found the end of these holds and left this state
  abbrev pub held : S → View S → List (Hold S) → S → View S
  held origin v seen left = outside (published origin (entered v seen) left)

  -- a lock history that begins with all that the pass had seen, and has the pass's own holds and no
  -- others under its number
  abbrev pub Sees : (S → S → Type 0) → S → View S → List (Hold S) → Type 0
  Sees grows origin v seen = IsPrefix v.seen seen × IsHistory grows origin seen
      × (holds_by v.number seen ≡ v.own)

  -- the pass has now seen such a history
  abbrev pub LooksAt : (S → S → Type 0) → S → View S → View S → Type 0
  LooksAt grows origin v w = Sees grows origin v w.seen × (w ≡ seeing v w.seen)

  -- the state at the end of such a history
  abbrev pub EndsAt : (S → S → Type 0) → S → View S → S → Type 0
  EndsAt grows origin v state = (seen : List (Hold S)) × Sees grows origin v seen
      × (state ≡ end_of origin seen)

  -- one hold more of its own, which found the end of such a history and left a state of which this
  -- is true
  abbrev pub Held : (S → S → Type 0) → S → View S → View S → (S → S → Type 0) → Type 0
  Held grows origin v w change = (seen : List (Hold S)) × (left : S) × Sees grows origin v seen
      × (w ≡ held origin v seen left) × change (end_of origin seen) left
