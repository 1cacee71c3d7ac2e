-- The laws of the moments of a disk.
use Rattle.std.specs.Prelude.{◌≤◌, ℕ, List, length}
use Rattle.std.proofs.Common.{subst, sym, arith}
use Rattle.std.proofs.lemmas.List.{get_or_past}
use Rattle.syn_disk.specs.Moments.{LeftSince}

module _ {S : Type 0} (may_leave : S → List ℕ → Type 0) (past : List S) (now : S) (c : List ℕ) where
  -- this moment counts
  pub now_counts : (t : ℕ) → t ≤ length past → may_leave now c → LeftSince may_leave past now t c
  now_counts t earlier left = (
    length past,
    earlier,
    subst
        (λ s. may_leave s c) (sym (get_or_past past (length past) now (omega arith))) left,
  )

  -- since this moment there is no other
  pub only_now : LeftSince may_leave past now (length past) c → may_leave now c
  only_now (k, later, left) = subst (λ s. may_leave s c) (get_or_past past k now later) left
