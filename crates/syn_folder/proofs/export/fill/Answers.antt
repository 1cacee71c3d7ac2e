use Rattle.std.proofs.Common.{◌≡◌, [], arith, ap, ◌∙◌}
use Rattle.std.specs.FinMap.{entries}
use Rattle.std.proofs.lemmas.List.{nil_from_length}
use Rattle.syn_folder.proofs.FolderLemmas.{anyway, is_empty}
use Rattle.syn_folder.proofs.export.fill.Goals as goal

pub returns-clause-empty : goal.returns-clause-empty
returns-clause-empty g c =
    let none : c.entries.result ≡ [] =
    nil_from_length c.entries.result (omega (arith, c.if-len-gt0.false, c.len.ensures.value)) in
    anyway c.mirror.result (is_empty _ c.entries.result
    (c.entries.ensures.all ∙ ap entries c.tree.ensures) none)
