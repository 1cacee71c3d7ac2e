use Rattle.std.proofs.Common.{◌≡◌, take, ap, ◌∙◌, arith, length}
use Rattle.std.proofs.Math.Seq.{take-length}
use Rattle.std.proofs.lemmas.List.Sums.{sum_by_more, sum_by_more_le}
use Rattle.syn_placed.specs.Pairs.{spelling_length, pair_spelling_length}
use Rattle.syn_tree.proofs.listed.spelled.Goals as goal

pub overflow_add-size : goal.overflow_add-size
overflow_add-size c =
    let within = sum_by_more_le pair_spelling_length c.args.list.now c.loop-entry.entry-index
    c.entry-item.result c.loop-entry-test.true in
    let same = ap pair_spelling_length c.entry-item.is in
    omega (
      arith,
      within,
      same,
      c.loop-entry.invariant,
      c.entry_spelled-size.ensures.length,
      c.requires,
    )

pub loop-entry-preserved : goal.loop-entry-preserved
loop-entry-preserved c =
    let more = sum_by_more pair_spelling_length c.args.list.now c.loop-entry.entry-index
    c.entry-item.result c.loop-entry-test.true in
    let same = ap pair_spelling_length c.entry-item.is in
    omega (arith, more, same, c.loop-entry.invariant, c.entry_spelled-size.ensures.length)

pub returns : goal.returns
returns c =
    let ended : c.loop-entry.entry-index ≡ length c.args.list.now =
    omega (arith, c.loop-entry-test.false, c.loop-entry.auto.entry-index-end) in
    c.loop-entry.invariant
    ∙ ap spelling_length (ap (λ n. take n c.args.list.now) ended ∙ take-length c.args.list.now)
