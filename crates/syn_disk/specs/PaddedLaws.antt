-- The length of a list that is kept in part.
use Rattle.std.specs.Prelude.{◌≡◌, ◌≤◌, ◌-◌, ℕ, List, length, replicate}
use Rattle.std.proofs.Common.{arith, length-append}
use Rattle.std.proofs.lemmas.List.{length-replicate}
use Rattle.syn_disk.specs.Padded.{padded}

pub length-padded : {X : Type 0} (rest : X) (items : List X) (size : ℕ) → length items ≤ size
    → length (padded items size rest) ≡ size
unfolding padded
length-padded rest items size fits =
    omega (
      arith,
      length-append items (replicate (size - length items) rest),
      length-replicate
          (size - length items) rest,
    )
