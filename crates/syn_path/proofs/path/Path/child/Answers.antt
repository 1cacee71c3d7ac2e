use Rattle.std.proofs.Common.{rules, ◌≡◌, ◌++◌, ◌∷◌, [], ◌+◌, ◌<◌, ◌≤◌, length, refl}
use Rattle.syn_model.proofs.ExitLemmas.{if_err_of_exit}
use Rattle.syn_model.specs.Path.{IsPath, path_spelling}
use Rattle.syn_path.proofs.PathLemmas.{child_lawful}
use Rattle.syn_path.specs.declared.error.PathError.TheVariants.{Memory}
use Rattle.syn_path.proofs.path.Path.child.Goals as goal

pub invariant_of-result : goal.invariant_of-result
invariant_of-result c =
    let below : c.push.new.self.items ≡ c.self.inside.names.items ++ c.args.name.now ∷ [] =
    search rules in
    let room : length c.self.inside.names.items < 16 = search rules in
    let short : length (path_spelling c.self.inside.names.items) + 1 + length c.args.name.now
    ≤ 255 = search rules in
    rw below (child_lawful c.self.inside.names.items c.args.name.now c.self.invariant
    c.as_str.ensures.lawful room short)

pub returns-clause-ok : goal.returns-clause-ok
returns-clause-ok c =
    let below : c.push.new.self.items ≡ c.self.inside.names.items ++ c.args.name.now ∷ [] =
    search rules in
    let room : length c.self.inside.names.items < 16 = search rules in
    let short : length (path_spelling c.self.inside.names.items) + 1 + length c.args.name.now
    ≤ 255 = search rules in
    rw (below, ← c.self.view_is) (
      refl,
      child_lawful c.self.inside.names.items c.args.name.now
          c.self.invariant c.as_str.ensures.lawful room short,
    )

pub returns-in_err-names-clause-memory : goal.returns-in_err-names-clause-memory
returns-in_err-names-clause-memory c =
    let room : length c.self.inside.names.items < 16 = search rules in
    let short : length (path_spelling c.self.inside.names.items) + 1 + length c.args.name.now
    ≤ 255 = search rules in
    if_err_of_exit c.from_residual.result _
    (λ e. e ≡ Memory → IsPath (c.args.self.now ++ c.args.name.now ∷ []))
    c.from_residual.ensures.1 (λ _. rw (← c.self.view_is) (child_lawful
    c.self.inside.names.items c.args.name.now c.self.invariant c.as_str.ensures.lawful room short))

pub returns-in_err-copy-clause-memory : goal.returns-in_err-copy-clause-memory
returns-in_err-copy-clause-memory c =
    let room : length c.self.inside.names.items < 16 = search rules in
    let short : length (path_spelling c.self.inside.names.items) + 1 + length c.args.name.now
    ≤ 255 = search rules in
    if_err_of_exit c.from_residual-in_err-copy.result _
    (λ e. e ≡ Memory → IsPath (c.args.self.now ++ c.args.name.now ∷ []))
    c.from_residual-in_err-copy.ensures.1 (λ _. rw (← c.self.view_is) (child_lawful
    c.self.inside.names.items c.args.name.now c.self.invariant c.as_str.ensures.lawful room short))

pub returns-in_err-push-clause-memory : goal.returns-in_err-push-clause-memory
returns-in_err-push-clause-memory c =
    let room : length c.self.inside.names.items < 16 = search rules in
    let short : length (path_spelling c.self.inside.names.items) + 1 + length c.args.name.now
    ≤ 255 = search rules in
    if_err_of_exit c.from_residual-in_err-push.result _
    (λ e. e ≡ Memory → IsPath (c.args.self.now ++ c.args.name.now ∷ []))
    c.from_residual-in_err-push.ensures.1 (λ _. rw (← c.self.view_is) (child_lawful
    c.self.inside.names.items c.args.name.now c.self.invariant c.as_str.ensures.lawful room short))
