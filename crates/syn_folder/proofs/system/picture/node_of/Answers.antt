use Rattle.std.proofs.Common.{◌≡◌, Some, sym, ap, ◌∙◌, false, length, ◌==◌}
use Rattle.syn_folder.specs.Looks.{content_in, look_in}
use Rattle.syn_model.specs.Path.{Path, is_root}
use Rattle.syn_model.specs.Tree.{Pair}
use Rattle.syn_tree.specs.Contents.{content_of}
use Rattle.syn_folder.proofs.PictureLemmas.{below_root}
use Rattle.syn_folder.proofs.system.picture.node_of.Goals as goal
use Rattle.syn_model.proofs.PathLemmas.{not_root}

pub returns-clause-entry : goal.returns-clause-entry
returns-clause-entry c =
    let seen = c.args.seen in
    let below : is_root seen.path ≡ false =
    not_root seen.path (ap (λ (p : Path). length p == 0) (sym c.names.ensures.names) ∙ (sym
    c.is_empty.ensures ∙ c.if-is_empty.false)) in
    let there = below_root seen.path (content_in seen.shown) _ below (sym
    c.in-Some.ensures.content) in
    let pair : Path → Pair = λ p. (p, content_of c.in-Some.content) in
    ap Some (c.in_ok-entry.ensures ∙ ap pair c.key.ensures) ∙ sym there

pub returns-clause-look : goal.returns-clause-look
returns-clause-look c =
    let seen = c.args.seen in
    let below : is_root seen.path ≡ false =
    not_root seen.path (ap (λ (p : Path). length p == 0) (sym c.names.ensures.names) ∙ (sym
    c.is_empty.ensures ∙ c.if-is_empty.false)) in
    sym (below_root seen.path (look_in seen.shown) c.in-Some.look below (sym
    c.in-Some.ensures.look))
