use Rattle.std.proofs.Common.{◌++◌, option_map, sym, ap, ◌∙◌, subst}
use Rattle.syn_model.specs.Tree.{IsPart}
use Rattle.syn_model.specs.Version.{current_version}
use Rattle.syn_wire.proofs.MadeLemmas.{absent_lawful}
use Rattle.syn_model.specs.Spelling.{spelling}
use Rattle.syn_tree.specs.Nodes.{part_of}
use Rattle.syn_wire.proofs.NodeLemmas.{absent_spelled}
use Rattle.syn_wire.proofs.tree.write_node.Goals as goal

pub returns-in_ok-push-in-None-clause-added : goal.returns-in_ok-push-in-None-clause-added
returns-in_ok-push-in-None-clause-added c =
    let none = ap (λ o. spelling (part_of (option_map (λ there. there.now) o))) c.in-None.is
    ∙ absent_spelled current_version in
    c.in_ok-push-in-None.ensures.items ∙ ap (λ b. c.args.out.now.items ++ b) (sym none)

pub returns-in_ok-push-in-None-clause-lawful : goal.returns-in_ok-push-in-None-clause-lawful
returns-in_ok-push-in-None-clause-lawful c =
    subst (λ o. IsPart (part_of (option_map (λ there. there.now) o)))
    (sym c.in-None.is) absent_lawful.part
