-- Laws of beginnings of lists.
use Rattle.std.proofs.Common.{List, []}
use mathlib.Core.List.{IsPrefix, append-nil}

pub prefix_self : {A : Type 0} (xs : List A) → IsPrefix xs xs
prefix_self xs = ([], append-nil xs)
