use Rattle.std.proofs.Common.{◌++◌, ◌∷◌, length, slice_get, ◌-◌, sym, ap, ◌∙◌}
use Rattle.std.proofs.lemmas.Result.{on_ok_weaker}
use Rattle.syn_wire.proofs.WritingLemmas.{last_name}
use Rattle.syn_wire.proofs.tree.write_last_name.Goals as goal

pub returns-in-Some-clause-added : goal.returns-in-Some-clause-added
returns-in-Some-clause-added c =
    let out = c.args.out.now.items in
    let last = last_name c.args.path.now c.in-Some.name.now (ap (λ p. slice_get p (length p - 1))
    (sym c.names.ensures.names) ∙ sym c.in-Some.ensures.value) in
    let text = c.as_bytes.ensures.value ∙ c.as_str.ensures.bytes in
    on_ok_weaker c.write_name.result
    (λ e. e ∙ ap (λ s. out ++ s) (ap (λ t. length t ∷ t) text ∙ sym last))
    c.write_name.ensures.added
