use Rattle.std.proofs.Common.{ap₂, ◌++◌, ◌∙◌, sym, arith}
use Rattle.syn_journal.specs.Layout.{record_of}
use Rattle.syn_journal.proofs.Batches.{one_more_record, part_of_size}
use Rattle.syn_journal.proofs.journal.batch.records_and_gate.Goals as goal

pub push_record-requires : goal.push_record-requires
push_record-requires c =
    omega (
      arith,
      part_of_size c.args.payloads.now c.loop-payload.payload-index c.payload-item.result
          c.loop-payload-test.true c.payload-item.is,
      c.requires.size,
      c.requires.fits,
      c.deref.ensures.len,
    )

pub loop-payload-preserved : goal.loop-payload-preserved
loop-payload-preserved c =
    c.in_ok-push_record.ensures
    ∙ (ap₂ (λ xs p. xs ++ record_of p) c.loop-payload.invariant c.deref.ensures.value
    ∙ sym (one_more_record c.args.payloads.now c.loop-payload.payload-index c.payload-item.result
    c.loop-payload-test.true c.payload-item.is))
