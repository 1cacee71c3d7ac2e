-- Histories: changes in order, each by one pass.
use Rattle.std.specs.Prelude.{◌≡◌, ℕ, List, [], ◌∷◌, cond, ◌==◌}
use Rattle.syn_lock.specs.declared.view.Hold.{Hold}

module _ {S : Type 0} where
  abbrev pub hold : ℕ → S → S → Hold S
  hold pass found left = record { pass = pass; found = found; left = left }

  -- what is there after these holds, where s was there at first
  abbrev pub end_of : S → List (Hold S) → S
  end_of s [] = s
  end_of s (h ∷ hs) = end_of h.left hs

  -- each hold found what the one before left, the first found s, and each left what has grown from
  -- what it found
  abbrev pub IsHistory : (S → S → Type 0) → S → List (Hold S) → Type 0
  IsHistory grows s [] = Unit {0}
  IsHistory grows s (h ∷ hs) = (h.found ≡ s) × grows s h.left × IsHistory grows h.left hs

  -- the holds of one pass
  abbrev pub holds_by : ℕ → List (Hold S) → List (Hold S)
  holds_by pass [] = []
  holds_by pass (h ∷ hs) = cond (h.pass == pass) (h ∷ holds_by pass hs) (holds_by pass hs)

-- The lock's word has a history too. Its holds are the steps on it, and each may leave any number
abbrev pub IsWordHistory : List (Hold ℕ) → Type 0
IsWordHistory turns = IsHistory (λ _ _. Unit {0}) 0 turns
