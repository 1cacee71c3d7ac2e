use Rattle.std.proofs.Common.{◌≡◌, ◌∷◌, [], ◌∙◌, length, take, sym, append-nil, arith}
use Rattle.syn_wire.specs.Names.{names_spelling}
use Rattle.syn_model.proofs.ExitLemmas.{on_ok_of_exit}
use Rattle.syn_wire.proofs.ByteLemmas.{begins_alike, begins_more}
use Rattle.syn_wire.proofs.NameLemmas.{name_added, path_added}
use Rattle.syn_wire.proofs.path.write_path.Goals as goal

pub loop-name-init : goal.loop-name-init
loop-name-init c = sym (append-nil c.push.new.self.items)

pub loop-name-preserved : goal.loop-name-preserved
loop-name-preserved c =
    name_added c.names-names.result.now c.loop-name.name-index c.name-item.result
    c.as_str-text.result.now c.as_bytes.result.now c.push.new.self.items c.loop-name.out.items
    c.push-in-loop-name.new.self.items c.extend_from_slice.new.self.items
    c.loop-name-test.true c.name-item.is c.as_str-text.ensures.bytes c.as_bytes.ensures.value
    c.loop-name.invariant c.in_ok-push-2.ensures.items c.in_ok-extend_from_slice.ensures.items

pub returns-clause-added : goal.returns-clause-added
returns-clause-added c =
    let names = c.names-names.result.now in
    let ended : c.loop-name.name-index ≡ length names =
    omega (arith, c.loop-name-test.false, c.loop-name.auto.name-index-end) in
    path_added c.args.path.now names c.loop-name.name-index c.args.out.now.items
    c.push.new.self.items c.loop-name.out.items c.names-names.ensures.names ended
    c.in_ok-push.ensures.items c.loop-name.invariant

pub returns-clause-kept : goal.returns-clause-kept
returns-clause-kept c =
    begins_more c.args.out.now.items c.push.new.self.items c.loop-name.out.items
    (names_spelling (take c.loop-name.name-index c.names-names.result.now))
    (_, c.in_ok-push.ensures.items) c.loop-name.invariant

pub returns-clause-lawful : goal.returns-clause-lawful
returns-clause-lawful c = c.names-names.ensures.lawful

pub returns-in_err-push-clause-added : goal.returns-in_err-push-clause-added
returns-in_err-push-clause-added c =
    on_ok_of_exit c.from_residual.result _ _ c.from_residual.ensures.1

pub returns-in_err-push-clause-kept : goal.returns-in_err-push-clause-kept
returns-in_err-push-clause-kept c =
    begins_alike c.args.out.now.items c.push.new.self.items c.in_err-push.ensures.items

pub returns-in_err-push-clause-lawful : goal.returns-in_err-push-clause-lawful
returns-in_err-push-clause-lawful c = c.names-names.ensures.lawful

pub returns-in_err-push-2-clause-added : goal.returns-in_err-push-2-clause-added
returns-in_err-push-2-clause-added c =
    on_ok_of_exit c.from_residual-in_err-push-2.result _ _ c.from_residual-in_err-push-2.ensures.1

pub returns-in_err-push-2-clause-kept : goal.returns-in_err-push-2-clause-kept
returns-in_err-push-2-clause-kept c =
    begins_more c.args.out.now.items c.push.new.self.items c.push-in-loop-name.new.self.items
    (names_spelling (take c.loop-name.name-index c.names-names.result.now))
    (_, c.in_ok-push.ensures.items) (c.in_err-push-2.ensures.items ∙ c.loop-name.invariant)

pub returns-in_err-push-2-clause-lawful : goal.returns-in_err-push-2-clause-lawful
returns-in_err-push-2-clause-lawful c = c.names-names.ensures.lawful

pub returns-in_err-extend_from_slice-clause-added :
    goal.returns-in_err-extend_from_slice-clause-added
returns-in_err-extend_from_slice-clause-added c =
    on_ok_of_exit c.from_residual-in_err-extend_from_slice.result _ _
    c.from_residual-in_err-extend_from_slice.ensures.1

pub returns-in_err-extend_from_slice-clause-kept : goal.returns-in_err-extend_from_slice-clause-kept
returns-in_err-extend_from_slice-clause-kept c =
    let out = c.args.out.now.items in
    let so_far = begins_more out c.push.new.self.items c.loop-name.out.items
    (names_spelling (take c.loop-name.name-index c.names-names.result.now))
    (_, c.in_ok-push.ensures.items) c.loop-name.invariant in
    begins_more out c.loop-name.out.items c.extend_from_slice.new.self.items
    (length c.as_str-text.result.now ∷ []) so_far
    (c.in_err-extend_from_slice.ensures.items ∙ c.in_ok-push-2.ensures.items)

pub returns-in_err-extend_from_slice-clause-lawful :
    goal.returns-in_err-extend_from_slice-clause-lawful
returns-in_err-extend_from_slice-clause-lawful c = c.names-names.ensures.lawful
