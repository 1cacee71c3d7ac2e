use Rattle.std.proofs.Common.{◌≡◌, ◌∙◌, ◌++◌, ◌∷◌, [], ap, arith, length, subst, sym, take}
use Rattle.std.proofs.Math.Seq.{take-length}
use Rattle.std.proofs.lemmas.List.{take_more}
use Rattle.syn_recon.specs.Items.{item_of}
use Rattle.syn_reconcile.proofs.StrangerLemmas.{alone_more}
use Rattle.syn_reconcile.specs.Strangers.{LeavesAlone}
use Rattle.syn_reconcile.proofs.strangers.leaves_alone.Goals as goal

pub loop-stranger-init : goal.loop-stranger-init
loop-stranger-init c stranger within = absurd (omega (arith, within.1))

pub loop-stranger-preserved : goal.loop-stranger-preserved
loop-stranger-preserved c =
    let strangers = c.args.strangers.now in
    let at = c.loop-stranger.stranger-index in
    let replica = c.args.replica.now in
    let item = item_of c.args.item.now in
    let more = take_more strangers at c.stranger-item.result c.loop-stranger-test.true in
    subst (λ xs. LeavesAlone xs replica item)
    (ap (λ x. take at strangers ++ x ∷ []) c.stranger-item.is ∙ sym more)
    (alone_more (take at strangers) c.stranger-item.result replica item c.loop-stranger.invariant
    (c.in_ok-leaves_one_alone.ensures c.if-not-branch.false))

pub returns : goal.returns
returns c true =
    let strangers = c.args.strangers.now in
    let ended : c.loop-stranger.stranger-index ≡ length strangers =
    omega (arith, c.loop-stranger-test.false, c.loop-stranger.auto.stranger-index-end) in
    subst (λ xs. LeavesAlone xs c.args.replica.now (item_of c.args.item.now))
    (ap (λ n. take n strangers) ended ∙ take-length strangers) c.loop-stranger.invariant
