use Rattle.std.proofs.Common.{◌++◌, ap₂, subst, sym, ◌∙◌}
use Rattle.std.proofs.lemmas.List.{take-append-drop}
use Rattle.syn_model.specs.Event.{AreBytes}
use Rattle.syn_wire.proofs.ByteLemmas.{in_front, of_slice}
use Rattle.syn_wire.proofs.reader.split.Goals as goal

pub returns-clause-bytes : goal.returns-clause-bytes
returns-clause-bytes c =
    let front = c.split_at.result.0.now in
    let rest = c.split_at.result.1.now in
    in_front front rest (subst AreBytes (sym (take-append-drop c.args.count c.args.bytes.now)
    ∙ ap₂ (λ a b. a ++ b) (sym c.split_at.ensures.front) (sym c.split_at.ensures.back))
    (of_slice c.args.bytes.now c.type_inv.bytes))
