use Rattle.std.proofs.Common.{arith}
use Rattle.syn_journal.proofs.Batches.{one_more_size, part_of_size}
use Rattle.syn_journal.proofs.journal.batch.size_within.Goals as goal

pub returns-then-left-size-clause-long : goal.returns-then-left-size-clause-long
returns-then-left-size-clause-long c none =
    omega (
      arith,
      part_of_size c.args.payloads.now c.loop-payload.payload-index c.payload-item.result
          c.loop-payload-test.true c.payload-item.is,
      c.loop-payload.invariant,
      c.if-left-size.true,
      c.len-size.ensures,
    )

pub loop-payload-preserved : goal.loop-payload-preserved
loop-payload-preserved c =
    omega (
      arith,
      one_more_size c.args.payloads.now c.loop-payload.payload-index c.payload-item.result
          c.loop-payload-test.true c.payload-item.is,
      c.loop-payload.invariant,
      c.if-left-size.false,
      c.len-size.ensures,
    )
