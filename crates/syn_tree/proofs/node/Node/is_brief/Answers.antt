use Rattle.std.proofs.Common.{◌≡◌, nat_le, length, true, false, sym, ap, ◌∙◌, subst}
use Rattle.syn_model.specs.Limits.{fits_part, fits_paths}
use Rattle.syn_model.specs.Contents.{contents_with}
use Rattle.syn_model.specs.Tree.{File}
use Rattle.syn_tree.specs.Modes.{mode_of}
use Rattle.syn_tree.specs.Nodes.{node_tree}
use Rattle.syn_tree.proofs.CheckLemmas.{one_fits_as, one_path_fits}
use Rattle.syn_tree.specs.Lists.{FitsNowhere}
use Rattle.syn_tree.proofs.PlaceableLemmas.{nowhere_content}
use Rattle.syn_tree.proofs.node.Node.is_brief.Goals as goal

pub returns-in-File-clause-brief : goal.returns-in-File-clause-brief
returns-in-File-clause-brief c h =
    let bytes = c.in-File.bytes.items in
    let short : nat_le (length bytes) 16384 ≡ true =
    ap (λ n. nat_le n 16384) (sym (c.len.ensures ∙ c.in-File.bytes.ok.0)) ∙ h in
    ap (λ n. fits_part (node_tree n)) c.in-File.is
    ∙ one_fits_as (File (contents_with (mode_of c.in-File.field-0) bytes)) true short

pub returns-in-File-clause-long : goal.returns-in-File-clause-long
returns-in-File-clause-long c h at =
    let bytes = c.in-File.bytes.items in
    let long : nat_le (length bytes) 16384 ≡ false =
    ap (λ n. nat_le n 16384) (sym (c.len.ensures ∙ c.in-File.bytes.ok.0)) ∙ h in
    subst (λ n. FitsNowhere at (node_tree n)) (sym c.in-File.is)
    (nowhere_content at (File (contents_with (mode_of c.in-File.field-0) bytes)) long)

pub returns-in-File-clause-paths : goal.returns-in-File-clause-paths
returns-in-File-clause-paths c =
    ap (λ n. fits_paths (node_tree n)) c.in-File.is
    ∙ one_path_fits (File (contents_with (mode_of c.in-File.field-0) c.in-File.bytes.items))
