-- A file in memory of which nothing was used.
use Rattle.std.proofs.Common.{◌≡◌, ℕ, ◌-◌, List, [], length, refl, sym, subst}
use Rattle.std.specs.List.{All}
use Rattle.std.proofs.lemmas.List.Elements.{All-replicate}
use Rattle.syn_disk.specs.Padded.{padded}

zeros : (n : ℕ) → All (λ (byte : ℕ). byte ≡ 0) (padded [] n 0)
unfolding padded
zeros n = All-replicate (λ (byte : ℕ). byte ≡ 0) (n - length {A = ℕ} []) 0 refl

pub padded-zeros : (items : List ℕ) (n : ℕ) → items ≡ [] →
    All (λ (byte : ℕ). byte ≡ 0) (padded items n 0)
padded-zeros items n none =
    subst (λ xs. All (λ (byte : ℕ). byte ≡ 0) (padded xs n 0)) (sym none) (zeros n)
