-- Facts of one result.
use Rattle.std.proofs.Common.{Result, Ok, Err, OnOk}

pub both_ok : {X E P Q S : Type 0} (result : Result X E) → (P → Q → S) → OnOk result P →
    OnOk result Q → OnOk result S
both_ok (Ok x) make p q = make p q
both_ok (Err e) make p q = tt
