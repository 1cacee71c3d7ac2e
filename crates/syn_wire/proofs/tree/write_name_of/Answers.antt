use Rattle.std.proofs.Common.{◌++◌, sym, ap, ◌∙◌, append-nil}
use Rattle.std.proofs.lemmas.Result.{on_ok_weaker}
use Rattle.syn_wire.proofs.WritingLemmas.{last_name, no_last_name}
use Rattle.syn_wire.proofs.tree.write_name_of.Goals as goal

pub returns-in-Some-clause-added : goal.returns-in-Some-clause-added
returns-in-Some-clause-added c =
    let out = c.args.out.now.items in
    let last = last_name c.args.pair.now.0 c.in-Some.name.now (sym c.in-Some.ensures.name) in
    on_ok_weaker c.write_name.result (λ e. e ∙ ap (λ s. out ++ s) (sym last))
    c.write_name.ensures.added

pub returns-in-None-clause-added : goal.returns-in-None-clause-added
returns-in-None-clause-added c =
    let out = c.args.out.now.items in
    sym (append-nil out)
    ∙ ap (λ s. out ++ s) (sym (no_last_name c.args.pair.now.0 (sym c.in-None.ensures.name)))
