use Rattle.std.proofs.Common.{rules, ◌≡◌, ◌-◌, ◌<◌, length, take, subst, sym, ◌∙◌}
use Rattle.syn_model.specs.Path.{IsPath}
use Rattle.syn_path.proofs.PathLemmas.{above_last, parent_lawful}
use Rattle.syn_path.proofs.path.Path.parent.Goals as goal

pub invariant_of-result : goal.invariant_of-result
invariant_of-result c =
    let path = c.self.inside.names.items in
    let above : c.in_ok-names-in-len1-up.names.items ≡ take (length path - 1) path = search rules in
    let some : 0 < length path = search rules in
    let split = above_last path some in
    rw above (parent_lawful _ split.0 (subst IsPath (sym split.1) c.self.invariant))

pub returns-in_ok-names-in-len1-up-clause-below : goal.returns-in_ok-names-in-len1-up-clause-below
returns-in_ok-names-in-len1-up-clause-below c =
    let path = c.self.inside.names.items in
    let above : c.in_ok-names-in-len1-up.names.items ≡ take (length path - 1) path = search rules in
    let some : 0 < length path = search rules in
    let split = above_last path some in
    (split.0, rw above (split.1 ∙ c.self.view_is))
