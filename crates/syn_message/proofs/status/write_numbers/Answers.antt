use Rattle.std.specs.Int.{to_be_bytes, w64}
use Rattle.syn_message.proofs.StatusLemmas.{four_added}
use Rattle.syn_message.proofs.status.write_numbers.Goals as goal

pub returns : goal.returns
returns c =
    let status = c.args.status.now in
    four_added _ _ _ _ _ (to_be_bytes w64 status.pair) (to_be_bytes w64 status.position)
    (to_be_bytes w64 status.floor) (to_be_bytes w64 status.session)
    c.in_ok-write_u64.ensures.added c.in_ok-write_u64-2.ensures.added
    c.in_ok-write_u64-3.ensures.added c.in_ok-write_u64-4.ensures.added
