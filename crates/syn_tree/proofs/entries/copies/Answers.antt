use Rattle.std.proofs.Common.{◌≡◌, ◌++◌, ◌∷◌, [], take, length, sym, ap, ap₂, ◌∙◌, arith}
use Rattle.std.proofs.Math.Seq.{take-length}
use Rattle.std.proofs.lemmas.List.{take_more}
use Rattle.syn_tree.proofs.entries.copies.Goals as goal

pub loop-entry-init : goal.loop-entry-init
loop-entry-init c = c.in_ok-copies.ensures.items

pub loop-entry-preserved : goal.loop-entry-preserved
loop-entry-preserved c =
    let i = c.loop-entry.entry-index in
    let list = c.args.list.now in
    c.in_ok-push.ensures.items
    ∙ (ap₂ (λ xs x. xs ++ x ∷ []) c.loop-entry.invariant (c.in_ok-new.ensures
    ∙ ap₂ (λ p x. (p, x)) c.key.ensures (c.in_ok-content.ensures ∙ c.content.ensures))
    ∙ sym (take_more list i c.entry-item.result c.loop-entry-test.true
    ∙ ap (λ x. take i list ++ x ∷ []) (sym c.entry-item.is)))

pub returns : goal.returns
returns c =
    let list = c.args.list.now in
    let ended : c.loop-entry.entry-index ≡ length list =
    omega (arith, c.loop-entry-test.false, c.loop-entry.auto.entry-index-end) in
    c.loop-entry.invariant ∙ (ap (λ n. take n list) ended ∙ take-length list)
