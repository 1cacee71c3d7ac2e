use Rattle.std.proofs.Common.{◌≡◌, [], sym, ◌∙◌, subst, eqb-true, arith}
use Rattle.std.proofs.lemmas.List.{nil_from_length}
use Rattle.syn_folder.specs.Strangers.{IsApart}
use Rattle.syn_folder.proofs.FolderLemmas.{anyway}
use Rattle.syn_folder.proofs.export.update.Goals as goal

pub returns-clause-apart : goal.returns-clause-apart
returns-clause-apart g c =
    let strange = c.in_ok-strange.strange in
    let zero : strange.len ≡ 0 = eqb-true _ _ (sym c.is_empty.ensures ∙ c.if-not-is_empty.false) in
    let none : strange.items ≡ [] =
    nil_from_length strange.items (omega (arith, zero, strange.ok)) in
    anyway c.make_all.result (subst (λ xs. IsApart xs c.args.wanted.now) c.strangers.ensures
    (c.in_ok-strange.ensures.apart none))
