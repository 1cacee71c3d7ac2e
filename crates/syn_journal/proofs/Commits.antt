-- What a stop leaves in each of the two steps of a commit.
use Rattle.std.proofs.Common.{◌≡◌, inl, inr, ℕ, ◌+◌, List, length, refl, sym, subst}
use Rattle.syn_disk.specs.Disk.{Torn, Follows, Only, overwritten}
use Rattle.syn_journal.specs.inner.Commit.{IsStagedOrOpened}

pub untouched : (at n : ℕ) (c : List ℕ) → Torn at n c c
untouched at n c = record { size = refl; before = λ i less. refl; after = λ i past. refl }

module _ (start : List ℕ) (gate : ℕ) (body : List ℕ) where
  pub at_first : (old : List ℕ → Type 0) → Only start old → (c : List ℕ) → old c →
      IsStagedOrOpened start gate body c
  at_first old only c left =
      inl (subst (λ d. Torn (gate + 1) (length body) start d) (sym (only c left))
      (untouched (gate + 1) (length body) start))

  pub staged : (old new : List ℕ → Type 0) → Only start old →
      Follows (Torn (gate + 1) (length body)) old new → (c : List ℕ) → new c →
      IsStagedOrOpened start gate body c
  staged old new only follows c left =
      let from = follows c left in
      inl (subst (λ d. Torn (gate + 1) (length body) d c) (only from.0 from.1) from.2)

  pub opened : (mid : List ℕ) (old new : List ℕ → Type 0) →
      mid ≡ overwritten start (gate + 1) body → Only mid old →
      Follows (Torn gate 1) old new → (c : List ℕ) → new c → IsStagedOrOpened start gate body c
  opened mid old new is only follows c left =
      let from = follows c left in
      let at_mid : Torn gate 1 mid c = subst (λ d. Torn gate 1 d c) (only from.0 from.1) from.2 in
      inr (subst (λ d. Torn gate 1 d c) is at_mid)
