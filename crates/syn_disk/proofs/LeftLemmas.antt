-- What a stop leaves after a call, said of more and of what is read.
use Rattle.std.proofs.Common.{ℕ, List, ◌≤◌, ◌⊎◌, inl, inr}
use Rattle.syn_disk.specs.Stops.{LeavesOnly}

-- what a stop leaves has more than was said of it
pub leaves_weaker : {D : Type 0} (moment : D → ℕ) (left_since : D → ℕ → List ℕ → Type 0)
    (old new : D) (P Q : List ℕ → Type 0) → ((c : List ℕ) → P c → Q c) →
    LeavesOnly moment left_since old new P → LeavesOnly moment left_since old new Q
leaves_weaker moment left_since old new P Q f l = record {
  later = l.later;
  each = λ c left. f c (l.each c left);
  before =
      λ t c le left. elim (l.before t c le left) as (λ _. left_since old t c ⊎ Q c)
      [ inl was ↦ inl was | inr p ↦ inr (f c p) ];
}

-- and what a read gives is among it
pub seen_is_left : {D : Type 0} (seen : D → List ℕ) (may_leave : D → List ℕ → Type 0)
    (moment : D → ℕ) (left_since : D → ℕ → List ℕ → Type 0) →
    ((disk : D) → may_leave disk (seen disk)) →
    ((disk : D) (t : ℕ) (c : List ℕ) → t ≤ moment disk → may_leave disk c → left_since disk t c) →
    (old new : D) (P : List ℕ → Type 0) → LeavesOnly moment left_since old new P → P (seen new)
seen_is_left seen may_leave moment left_since stays counts old new P l =
    l.each (seen new) (counts new (moment old) (seen new) l.later (stays new))
