use Rattle.std.proofs.Common.{◌≡◌, ◌∙◌, None, sym, ap, ap₂, subst, true≢false}
use Rattle.std.specs.FinMap.{get}
use Rattle.std.proofs.lemmas.Result.{on_ok_weaker}
use Rattle.syn_model.specs.Event.{Edit, Put, after_edit, put_mode}
use Rattle.syn_model.specs.Standing.{edit_refusal}
use Rattle.syn_change.specs.Changes.{PutsBytes}
use Rattle.syn_change.proofs.GoingLemmas.{goes_as, goes_nowhere, refused_as}
use Rattle.syn_change.proofs.OverlayLemmas.{put_placed}
use Rattle.syn_change.proofs.ResultLemmas.{both_ok}
use Rattle.syn_change.proofs.additions.put_bytes.Goals as goal

pub returns-then-has_bytes-clause-edits : goal.returns-then-has_bytes-clause-edits
returns-then-has_bytes-clause-edits c =
    goes_nowhere (PutsBytes c.args.work.now c.args.path.now c.args.bytes.now) c.args.work.now
    c.args.edits.now.items

pub returns-clause-there : goal.returns-clause-there
returns-clause-there c =
    let t = c.args.work.now in
    let same = ap₂ Put c.in_ok-copy.ensures c.in_ok-from_slice.ensures.items in
    let P : Edit → Type 0 = λ e. edit_refusal t e ≡ None in
    let above = c.entries.ensures.tree.part.parents in
    both_ok c.make.result
    (λ made allowed. (
      put_mode (get t c.args.path.now),
      (put_placed t c.args.path.now c.args.bytes.now c.make.new.work above (subst P same allowed)
          (made ∙ ap (after_edit t) same)).0,
    )) c.make.ensures.done c.make.ensures.allowed

pub returns-clause-mode : goal.returns-clause-mode
returns-clause-mode c =
    let t = c.args.work.now in
    let same = ap₂ Put c.in_ok-copy.ensures c.in_ok-from_slice.ensures.items in
    let P : Edit → Type 0 = λ e. edit_refusal t e ≡ None in
    both_ok c.make.result
    (λ made allowed. ap put_mode (put_placed t c.args.path.now c.args.bytes.now c.make.new.work
    c.entries.ensures.tree.part.parents (subst P same allowed) (made ∙ ap (after_edit t) same)).0)
    c.make.ensures.done c.make.ensures.allowed

pub returns-clause-elsewhere : goal.returns-clause-elsewhere
returns-clause-elsewhere c =
    let t = c.args.work.now in
    let same = ap₂ Put c.in_ok-copy.ensures c.in_ok-from_slice.ensures.items in
    let P : Edit → Type 0 = λ e. edit_refusal t e ≡ None in
    both_ok c.make.result
    (λ made allowed. (put_placed t c.args.path.now c.args.bytes.now c.make.new.work
    c.entries.ensures.tree.part.parents (subst P same allowed) (made ∙ ap (after_edit t) same)).1)
    c.make.ensures.done c.make.ensures.allowed

pub returns-clause-edits : goal.returns-clause-edits
returns-clause-edits c =
    let t = c.args.work.now in
    let same = ap₂ Put c.in_ok-copy.ensures c.in_ok-from_slice.ensures.items in
    let put = Put c.in_ok-copy.field-0 c.in_ok-from_slice.field-0.items in
    on_ok_weaker c.make.result
    (λ on. goes_as (PutsBytes t c.args.path.now c.args.bytes.now) t c.args.edits.now.items
    c.make.new.work c.make.new.edits.items put
    (same, λ there. true≢false (sym (c.has_bytes.ensures.1 there) ∙ c.if-has_bytes.false)) on)
    c.make.ensures.edits

pub returns-clause-refused : goal.returns-clause-refused
returns-clause-refused c =
    let t = c.args.work.now in
    let same = ap₂ Put c.in_ok-copy.ensures c.in_ok-from_slice.ensures.items in
    let put = Put c.in_ok-copy.field-0 c.in_ok-from_slice.field-0.items in
    refused_as (PutsBytes t c.args.path.now c.args.bytes.now) t c.make.result put
    (same, λ there. true≢false (sym (c.has_bytes.ensures.1 there) ∙ c.if-has_bytes.false))
    c.make.ensures.cause
