-- What a chain collects, as a function reads it.
use Rattle.std.proofs.Common.{◌≡◌, ◌∙◌, List, Option, Result, Ok, Err, ap, map}
use Rattle.std.specs.Result.{IfOk}
use Rattle.std.specs.declared.vec.Vec.{Vec}
use Rattle.std.proofs.lemmas.Iterator.{IsCollectResult, YieldsList, items_from_drains}

pub read_from_collect : {S A B Z E : Type 0} {steps : S → Option A → S → Type 0} {v : A → B}
    {s : S} {all : List B} → (r : Result (Vec A Z) E) → IsCollectResult steps s r
    → YieldsList steps v s all → IfOk r (λ items. map v items.items ≡ all)
read_from_collect {v = v} (Ok items) ran yields =
    ap (map v) ran.2.0 ∙ items_from_drains ran.0 ran.1 yields
read_from_collect (Err error) ran yields = tt
