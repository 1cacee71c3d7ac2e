use Rattle.std.proofs.Common.{ap, sym, ◌∙◌, Some}
use Rattle.syn_model.specs.Tree.{is_directory_content}
use Rattle.syn_placed.proofs.FindLemmas.{below_root}
use Rattle.syn_placed.proofs.by_path.is_directory.Goals as goal

pub returns-in-Some : goal.returns-in-Some
returns-in-Some g c =
    c.is_directory.ensures ∙ (ap (λ x. is_directory_content (Some x)) c.content.ensures
    ∙ ap is_directory_content (c.in-Some.ensures ∙ sym
    (below_root c.args.names.now c.args.list.now (sym c.is_empty.ensures ∙ c.if-is_empty.false))))

pub returns-in-None : goal.returns-in-None
returns-in-None g c =
    ap is_directory_content (c.in-None.ensures ∙ sym
    (below_root c.args.names.now c.args.list.now (sym c.is_empty.ensures ∙ c.if-is_empty.false)))
