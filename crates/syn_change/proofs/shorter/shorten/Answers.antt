use Rattle.std.proofs.Common.{◌≡◌, ◌≢◌, ◌∙◌, OnOk, IfErr, true, sym, ap, ap₂, subst}
use Rattle.std.proofs.lemmas.Result.{IfErr-weaker, on_ok_weaker}
use Rattle.std.specs.FinMap.{get}
use Rattle.syn_model.specs.Contents.{contents_with}
use Rattle.syn_model.specs.Tree.{File}
use Rattle.syn_tree.specs.Contents.{found_content}
use Rattle.syn_tree.specs.Modes.{mode_of}
use Rattle.syn_tree.specs.Refusals.{refusal_of}
use Rattle.syn_tree.specs.declared.error.TreeError.TheVariants.{Memory}
use Rattle.syn_change.specs.Changes.{GoesOn, IsRefusedAmong, PutsBytes}
use Rattle.syn_change.specs.inner.Shorter.{ShortensTo, is_longer}
use Rattle.syn_change.proofs.GoingLemmas.{goes_nowhere, goes_weaker, refused_weaker}
use Rattle.syn_change.proofs.shorter.shorten.Goals as goal

pub returns-in-Dir-clause-edits : goal.returns-in-Dir-clause-edits
returns-in-Dir-clause-edits c =
    goes_nowhere (ShortensTo c.args.work.now c.args.pair.now) c.args.work.now c.args.edits.now.items

pub returns-then-not-is_longer-clause-edits : goal.returns-then-not-is_longer-clause-edits
returns-then-not-is_longer-clause-edits c =
    goes_nowhere (ShortensTo c.args.work.now c.args.pair.now) c.args.work.now c.args.edits.now.items

pub returns-clause-edits : goal.returns-clause-edits
returns-clause-edits c =
    let t = c.args.work.now in
    let path = c.in_ok-path.path in
    let bytes = c.in-File.bytes.now in
    let file = File (contents_with (mode_of c.in-File.field-0) bytes) in
    let same : (path, file) ≡ c.args.pair.now = ap₂ (λ p d. (p, d)) c.in_ok-path.ensures
    (ap found_content (sym c.in-File.is) ∙ c.found.ensures) in
    let longer : is_longer (get t path) bytes ≡ true =
    sym c.is_longer.ensures ∙ c.if-not-is_longer.false in
    subst (λ pair. OnOk c.put_bytes.result (GoesOn (ShortensTo t pair) t c.args.edits.now.items
    c.put_bytes.new.work c.put_bytes.new.edits.items)) same (on_ok_weaker c.put_bytes.result
    (λ on. goes_weaker (PutsBytes t path bytes) (ShortensTo t (path, file)) t c.put_bytes.new.work
    c.args.edits.now.items c.put_bytes.new.edits.items (λ e is. (is.0, longer)) on)
    c.put_bytes.ensures.edits)

pub returns-clause-refused : goal.returns-clause-refused
returns-clause-refused c =
    let t = c.args.work.now in
    let path = c.in_ok-path.path in
    let bytes = c.in-File.bytes.now in
    let file = File (contents_with (mode_of c.in-File.field-0) bytes) in
    let same : (path, file) ≡ c.args.pair.now = ap₂ (λ p d. (p, d)) c.in_ok-path.ensures
    (ap found_content (sym c.in-File.is) ∙ c.found.ensures) in
    let longer : is_longer (get t path) bytes ≡ true =
    sym c.is_longer.ensures ∙ c.if-not-is_longer.false in
    subst (λ pair. IfErr c.put_bytes.result (λ e. e ≢ Memory
    → IsRefusedAmong (ShortensTo t pair) t (refusal_of e))) same
    (IfErr-weaker c.put_bytes.result _ _
    (λ e refused other. refused_weaker (PutsBytes t path bytes) (ShortensTo t (path, file)) t
    (refusal_of e) (λ made is. (is.0, longer)) (refused other)) c.put_bytes.ensures.refused)
