use Rattle.std.proofs.Common.{◌≡◌, sym, ap, ap₂, ◌∙◌, Some, None, if◌then◌else◌}
use Rattle.std.specs.FinMap.{find, get}
use Rattle.syn_model.specs.Path.{path_cmp, parent, is_root}
use Rattle.syn_model.specs.Tree.{is_directory, is_directory_content}
use Rattle.syn_model.specs.Refusal.{NoParent}
use Rattle.syn_placed.specs.Pairs.{rooted}
use Rattle.syn_placed.proofs.TreeLemmas.{get-with}
use Rattle.syn_placed.proofs.ParentLemmas.{place_answer}
use Rattle.syn_tree.proofs.tree.TreeLimited.check_place.Goals as goal
use Rattle.syn_tree.proofs.tree.TreeLimited.check_place.Goals.{After-is_directory}

shown : (c : After-is_directory) →
    c.is_directory.result ≡ is_directory c.args.self.now (parent c.args.path.now)
shown c =
    let at = parent c.args.path.now in
    c.is_directory.ensures ∙ ap is_directory_content
    (ap₂ (λ q es. find path_cmp q (rooted es)) c.parent_key.ensures c.deref.ensures.value
    ∙ (sym (get-with c.self.inside.list.items at c.self.invariant.rising)
    ∙ ap (λ t. get t at) c.self.view_is))

pub returns-then-is_directory : goal.returns-then-is_directory
returns-then-is_directory c =
    let free = ap is_root (sym c.key.ensures) ∙ (sym c.is_root.ensures.root ∙ c.if-is_root.false) in
    sym (place_answer c.args.self.now c.args.path.now free
    ∙ ap (λ b. if b then None else Some NoParent) (sym (shown c.before) ∙ c.if-is_directory.true))

pub returns-else-is_directory : goal.returns-else-is_directory
returns-else-is_directory c =
    let free = ap is_root (sym c.key.ensures) ∙ (sym c.is_root.ensures.root ∙ c.if-is_root.false) in
    sym (place_answer c.args.self.now c.args.path.now free
    ∙ ap (λ b. if b then None else Some NoParent) (sym (shown c.before) ∙ c.if-is_directory.false))
