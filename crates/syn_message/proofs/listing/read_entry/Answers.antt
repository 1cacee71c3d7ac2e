use Rattle.syn_message.proofs.ListingLemmas.{no_mark}
use Rattle.syn_message.proofs.listing.read_entry.Goals as goal
use Rattle.syn_wire.proofs.Sequences.{failed}

pub returns-in_err-mark : goal.returns-in_err-mark
returns-in_err-mark c =
    failed _ _ _ _ _ c.from_residual-in_err-mark.result _ c.from_residual-in_err-mark.ensures.1
    (λ e same malformed. no_mark c.args.reader.now c.name.new.self c.in_ok-name.name
    c.in_ok-name.ensures (c.in_err-mark.ensures (rw (← same) malformed)))
