use Rattle.std.proofs.Common.{option_map}
use Rattle.syn_history.specs.Status.{identity_of, status_of}
use Rattle.syn_message.proofs.StatusLemmas.{stated_tells_itself}
use Rattle.syn_message.proofs.WholeLemmas.{failed_whole, no_end, no_value}
use Rattle.syn_message.proofs.status_reading.read_whole_stated.Goals as goal
use Rattle.syn_message.specs.Statuses.{IsStated, stated_spelling}

pub returns-in_err-stated : goal.returns-in_err-stated
returns-in_err-stated c =
    failed_whole IsStated stated_spelling _ _ c.from_residual.result _ c.from_residual.ensures.1
    (λ e same malformed.
    no_value IsStated stated_spelling c.args.reader.now
    (c.in_err-stated.ensures (rw (← same) malformed)))

pub returns-in_err-end : goal.returns-in_err-end
returns-in_err-end c =
    failed_whole IsStated stated_spelling _ _ c.from_residual-in_err-end.result _
    c.from_residual-in_err-end.ensures.1
    (λ e same malformed.
    no_end IsStated stated_spelling stated_tells_itself c.args.reader.now
    c.read_stated.new.reader
    (option_map identity_of c.in_ok-stated.stated.0, status_of c.in_ok-stated.stated.1)
    c.in_ok-stated.ensures c.in_err-end.ensures.more)
