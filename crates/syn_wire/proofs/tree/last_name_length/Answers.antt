use Rattle.std.proofs.Common.{◌-◌, length, slice_get, sym, ap, ◌∙◌, arith}
use Rattle.syn_wire.proofs.WritingLemmas.{last_name}
use Rattle.syn_wire.proofs.tree.last_name_length.Goals as goal

pub returns-in-Some-clause-length : goal.returns-in-Some-clause-length
returns-in-Some-clause-length c =
    let last = last_name c.args.path.now c.in-Some.name.now (ap (λ p. slice_get p (length p - 1))
    (sym c.names.ensures.names) ∙ sym c.in-Some.ensures.value) in
    omega (arith, ap length c.as_str.ensures.bytes, ap length last)

pub returns-in-Some-clause-brief : goal.returns-in-Some-clause-brief
returns-in-Some-clause-brief c =
    omega (arith, ap length c.as_str.ensures.bytes, c.as_str.ensures.lawful.not_long)
