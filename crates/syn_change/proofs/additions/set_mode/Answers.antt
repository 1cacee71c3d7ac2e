use Rattle.std.proofs.Common.{refl, sym, true≢false, ◌∙◌}
use Rattle.std.proofs.lemmas.Result.{on_ok_weaker}
use Rattle.syn_model.specs.Event.{Chmod}
use Rattle.syn_tree.specs.Modes.{mode_of}
use Rattle.syn_change.specs.Changes.{ChangesMode}
use Rattle.syn_change.proofs.GoingLemmas.{goes_as, goes_nowhere, refused_as}
use Rattle.syn_change.proofs.OverlayLemmas.{mode_placed, same_mode}
use Rattle.syn_change.proofs.ResultLemmas.{both_ok}
use Rattle.syn_change.proofs.additions.set_mode.Goals as goal

pub returns-then-has_mode-clause-there : goal.returns-then-has_mode-clause-there
returns-then-has_mode-clause-there c bytes has =
    same_mode c.args.work.now c.args.path (mode_of c.args.mode) bytes
    (c.has_mode.ensures.0 c.if-has_mode.true) has

pub returns-then-has_mode-clause-edits : goal.returns-then-has_mode-clause-edits
returns-then-has_mode-clause-edits c =
    goes_nowhere (ChangesMode c.args.work.now c.args.path (mode_of c.args.mode)) c.args.work.now
    c.args.edits.now.items

pub returns-clause-there : goal.returns-clause-there
returns-clause-there c bytes has =
    both_ok c.make.result
    (λ made allowed. (mode_placed c.args.work.now c.args.path (mode_of c.args.mode)
    c.make.new.work c.entries.ensures.tree.part.parents allowed made).0 bytes has)
    c.make.ensures.done c.make.ensures.allowed

pub returns-clause-elsewhere : goal.returns-clause-elsewhere
returns-clause-elsewhere c =
    both_ok c.make.result
    (λ made allowed. (mode_placed c.args.work.now c.args.path (mode_of c.args.mode)
    c.make.new.work c.entries.ensures.tree.part.parents allowed made).1)
    c.make.ensures.done c.make.ensures.allowed

pub returns-clause-edits : goal.returns-clause-edits
returns-clause-edits c =
    let mode = mode_of c.args.mode in
    on_ok_weaker c.make.result
    (λ on. goes_as (ChangesMode c.args.work.now c.args.path mode) c.args.work.now
    c.args.edits.now.items c.make.new.work c.make.new.edits.items (Chmod c.args.path mode)
    (refl, λ there. true≢false (sym (c.has_mode.ensures.1 there) ∙ c.if-has_mode.false)) on)
    c.make.ensures.edits

pub returns-clause-refused : goal.returns-clause-refused
returns-clause-refused c =
    let mode = mode_of c.args.mode in
    refused_as (ChangesMode c.args.work.now c.args.path mode) c.args.work.now c.make.result
    (Chmod c.args.path mode)
    (refl, λ there. true≢false (sym (c.has_mode.ensures.1 there) ∙ c.if-has_mode.false))
    c.make.ensures.cause
