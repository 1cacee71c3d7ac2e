use Rattle.std.proofs.Common.{◌++◌, ◌∷◌, [], List, ℕ, length, sym, ap, ap₂, ◌∙◌, subst}
use Rattle.std.proofs.Common.{append_assoc, arith}
use Rattle.syn_model.specs.Contents.{AreLawfulContents, contents_spelling, contents_with}
use Rattle.syn_model.specs.Version.{current_version}
use Rattle.syn_model.specs.Tree.{File, IsPart}
use Rattle.syn_tree.proofs.ChangeLemmas.{lawful_part}
use Rattle.std.proofs.lemmas.Result.{on_ok_weaker}
use Rattle.syn_model.specs.Spelling.{spelling}
use Rattle.syn_model.specs.Limits.{fits_part}
use Rattle.syn_tree.specs.Modes.{mode_of}
use Rattle.syn_tree.specs.Nodes.{node_tree}
use Rattle.syn_wire.proofs.NodeLemmas.{file_spelled, file_brief}
use Rattle.syn_wire.proofs.tree.write_present.Goals as goal

pub write_contents-requires : goal.write_contents-requires
write_contents-requires c =
    let brief = file_brief (contents_with (mode_of c.in-File.mode) c.in-File.bytes.items)
    (ap (λ n. fits_part (node_tree n)) (sym c.in-File.is) ∙ c.requires) in
    let long = ap length c.deref.ensures.value in
    omega (arith, brief, long)

pub returns-in_ok-push-in-File-clause-added : goal.returns-in_ok-push-in-File-clause-added
returns-in_ok-push-in-File-clause-added c =
    let out = c.args.out.now.items in
    let bytes = c.in-File.bytes.items in
    let mode = mode_of c.in-File.mode in
    let file = λ (b : List ℕ). contents_spelling (contents_with mode b) in
    let spelled = ap (λ n. spelling (node_tree n)) c.in-File.is
    ∙ file_spelled current_version (contents_with mode bytes) in
    on_ok_weaker c.write_contents.result (λ e.
    e ∙ (ap₂ (λ x y. x ++ file y) c.in_ok-push-in-File.ensures.items c.deref.ensures.value
    ∙ (append_assoc out (1 ∷ []) (file bytes) ∙ ap (λ b. out ++ b) (sym spelled))))
    c.write_contents.ensures.added

pub returns-in_ok-push-in-File-clause-lawful : goal.returns-in_ok-push-in-File-clause-lawful
returns-in_ok-push-in-File-clause-lawful c =
    let mode = mode_of c.in-File.mode in
    let part = lawful_part (File (contents_with mode c.in-File.bytes.items))
    (subst (λ b. AreLawfulContents (contents_with mode b)) c.deref.ensures.value
    c.write_contents.ensures.lawful) in
    on_ok_weaker c.write_contents.result
    (λ _. subst (λ n. IsPart (node_tree n)) (sym c.in-File.is) part) c.write_contents.ensures.added
