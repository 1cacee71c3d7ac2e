use Rattle.std.proofs.Common.{◌≡◌, ◌∙◌, Some, true, refl, sym, ap, inl, inr}
use Rattle.std.proofs.lemmas.Result.{IfErr-weaker}
use Rattle.std.specs.FinMap.{get-empty}
use Rattle.syn_model.specs.Limits.{fits_part, fits_paths, fits_replica}
use Rattle.syn_model.specs.Path.{path_cmp, root}
use Rattle.syn_model.specs.Tree.{Tree, File, absent, file_with, is_directory_content, subtree}
use Rattle.syn_model.specs.Contents.{contents_with}
use Rattle.syn_model.proofs.HistoryLemmas.{get-at_root}
use Rattle.syn_tree.specs.Modes.{mode_of}
use Rattle.syn_tree.specs.Nodes.{part_of}
use Rattle.syn_change.proofs.PartLemmas.{full_never, part_fits, root_of}
use Rattle.syn_change.proofs.plan.copy_part.Goals as goal

pub returns-in-Some-Dir-clause-refused : goal.returns-in-Some-Dir-clause-refused
returns-in-Some-Dir-clause-refused c =
    let tree = c.args.tree.now in
    let path = c.args.path.now in
    let entries = c.in-Some-Dir.entries in
    let whole : entries ≡ subtree tree path =
    sym (ap part_of (c.in-Some-Dir.is ∙ ap (λ n. Some n) c.in-Some-Dir.field-0-is))
    ∙ c.in_ok-entries.ensures in
    let fits : fits_replica entries ≡ true =
    ap (λ (t : Tree). fits_replica t) whole ∙ part_fits tree path c.entries.ensures.fits
    (sym (ap (λ (t : Tree). fits_part t) whole) ∙ c.iter.ensures.part)
    (sym (ap (λ (t : Tree). fits_paths t) whole) ∙ c.iter.ensures.paths) in
    IfErr-weaker c.from_entries.result _ _ (λ e refused. inl (full_never e entries fits refused))
    c.from_entries.ensures.refused

pub returns-in-Some-File-clause-refused : goal.returns-in-Some-File-clause-refused
returns-in-Some-File-clause-refused c =
    let tree = c.args.tree.now in
    let path = c.args.path.now in
    let mode = mode_of c.in-Some-File.field-0-0 in
    let bytes = c.in-Some-File.field-0-1.items in
    let whole : file_with mode bytes ≡ subtree tree path =
    sym (ap part_of (c.in-Some-File.is ∙ ap (λ n. Some n) c.in-Some-File.field-0-is))
    ∙ c.in_ok-entries.ensures in
    inr (
      refl,
      root_of tree path (file_with mode bytes) whole
          ∙ ap is_directory_content (get-at_root (File (contents_with mode bytes)) root),
    )

pub returns-clause-refused : goal.returns-clause-refused
returns-clause-refused c =
    let tree = c.args.tree.now in
    let path = c.args.path.now in
    let whole : absent ≡ subtree tree path =
    sym (ap part_of c.in-None.is) ∙ c.in_ok-entries.ensures in
    inr (refl, root_of tree path absent whole ∙ ap is_directory_content (get-empty path_cmp root))
