use Rattle.std.proofs.Common.{◌≡◌, ◌++◌, ◌∷◌, [], take, length, sym, ap, ap₂, ◌∙◌, append-nil}
use Rattle.std.proofs.Common.{append_assoc, arith}
use Rattle.std.proofs.Math.Seq.{take-length}
use Rattle.std.proofs.lemmas.List.{take_more}
use Rattle.syn_mark.proofs.copies.push_names.Goals as goal

pub loop-name-init : goal.loop-name-init
loop-name-init c = sym (append-nil c.args.names.now.items)

pub loop-name-preserved : goal.loop-name-preserved
loop-name-preserved c =
    let old = c.args.names.now.items in
    let read =
    take_more c.args.source.now c.loop-name.name-index c.name-item.result c.loop-name-test.true in
    c.in_ok-push.ensures.items
    ∙ (ap₂ (λ xs x. xs ++ x ∷ []) c.loop-name.invariant (c.in_ok-copy.ensures ∙ c.name-item.is)
    ∙ (append_assoc old (take c.loop-name.name-index c.args.source.now) _
    ∙ ap (λ xs. old ++ xs) (sym read)))

pub returns : goal.returns
returns c =
    let ended : c.loop-name.name-index ≡ length c.args.source.now =
    omega (arith, c.loop-name-test.false, c.loop-name.auto.name-index-end) in
    c.loop-name.invariant ∙ ap (λ xs. c.args.names.now.items ++ xs)
    (ap (λ n. take n c.args.source.now) ended ∙ take-length c.args.source.now)
