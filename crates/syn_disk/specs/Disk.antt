-- What the calls of a disk do to its bytes, and what a stop may leave.
use Rattle.std.specs.Prelude.{◌≡◌, ◌<◌, ◌≤◌, ◌⊎◌, ◌↔◌, ◌+◌, ℕ, List, ◌++◌, length, take, drop}
use Rattle.std.specs.Prelude.{slice_index, Result, MatchResult}

-- old with these bytes from `at` on
abbrev pub overwritten : {X : Type 0} → List X → ℕ → List X → List X
overwritten old at bytes = take at old ++ (bytes ++ drop (at + length bytes) old)

-- any bytes in the n places from `at` on, the same elsewhere
pub record Torn (at n : ℕ) (old new : List ℕ) : Type 0 where
  pub size : length new ≡ length old
  pub before : (i : ℕ) → i < at → slice_index new i ≡ slice_index old i
  pub after : (i : ℕ) → at + n ≤ i → slice_index new i ≡ slice_index old i

-- each content that a stop may leave now is one that it might have left before, after this step
abbrev pub Follows : (List ℕ → List ℕ → Type 0) → (List ℕ → Type 0) → (List ℕ → Type 0) → Type 0
Follows step old new = (c : List ℕ) → new c → (d : List ℕ) × old d × step d c

-- a stop leaves no content that it might not have left before
abbrev pub NothingNew : (List ℕ → Type 0) → (List ℕ → Type 0) → Type 0
NothingNew old new = (c : List ℕ) → new c → old c

-- a stop leaves the same contents
abbrev pub SameOutcomes : (List ℕ → Type 0) → (List ℕ → Type 0) → Type 0
SameOutcomes old new = (c : List ℕ) → old c ↔ new c

-- a stop leaves this content
abbrev pub Only : List ℕ → (List ℕ → Type 0) → Type 0
Only content outcomes = (c : List ℕ) → outcomes c → c ≡ content

-- Time goes on: a stop since t might have left what it might have left before, or what it may leave
-- now.
pub record Elapses (before now : ℕ) (past since : ℕ → List ℕ → Type 0)
    (may_leave : List ℕ → Type 0) : Type 0 where
  pub later : before ≤ now
  pub nothing_else : (t : ℕ) (c : List ℕ) → t ≤ before → since t c → past t c ⊎ may_leave c
  pub keeps : (t : ℕ) (c : List ℕ) → t ≤ before → past t c → since t c

-- the count grows exactly when the call fails
abbrev pub CountsFailure : {T E : Type 0} → Result T E → ℕ → ℕ → Type 0
CountsFailure result old new = MatchResult result (λ _. new ≡ old) (λ _. old < new)
