use Rattle.std.proofs.Common.{◌≡◌, ◌++◌, ◌∷◌, [], take, length, sym, ap, ◌∙◌, arith}
use Rattle.std.proofs.Math.Seq.{take-length}
use Rattle.syn_tree.specs.Lists.{stripped}
use Rattle.syn_tree.proofs.StripLemmas.{strip_more}
use Rattle.syn_mark.proofs.copies.below.Goals as goal

pub loop-entry-init : goal.loop-entry-init
loop-entry-init g c = c.new-copies.ensures.items

pub loop-entry-preserved : goal.loop-entry-preserved
loop-entry-preserved g c =
    let at = c.args.at.now in
    c.in_ok-push_below.ensures
    ∙ (ap (λ xs. xs ++ stripped at (c.entry-item.result ∷ [])) c.loop-entry.invariant
    ∙ sym (strip_more at c.args.list.now c.loop-entry.entry-index c.entry-item.result
    c.loop-entry-test.true c.entry-item.is))

pub returns : goal.returns
returns g c =
    let ended : c.loop-entry.entry-index ≡ length c.args.list.now =
    omega (arith, c.loop-entry-test.false, c.loop-entry.auto.entry-index-end) in
    c.loop-entry.invariant ∙ ap (stripped c.args.at.now)
    (ap (λ n. take n c.args.list.now) ended ∙ take-length c.args.list.now)
