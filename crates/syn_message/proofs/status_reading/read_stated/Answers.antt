use Rattle.std.proofs.Common.{option_map}
use Rattle.syn_history.specs.Status.{IsLawfulStatus, identity_of, status_of}
use Rattle.syn_message.proofs.StatusLemmas.{identity_tells, stated_found}
use Rattle.syn_message.proofs.status_reading.read_stated.Goals as goal
use Rattle.syn_message.specs.Statuses.{identity_spelling, status_spelling}
use Rattle.syn_message.specs.inner.Stated.{IsAnyIdentity}
use Rattle.syn_wire.proofs.Sequences.{failed, first_none, second_none}

pub returns-in_err-identity : goal.returns-in_err-identity
returns-in_err-identity c =
    failed _ _ _ _ _ c.from_residual.result _ c.from_residual.ensures.1
    (λ e same malformed.
    first_none IsAnyIdentity IsLawfulStatus identity_spelling status_spelling c.args.reader.now
    (c.in_err-identity.ensures (rw (← same) malformed)))

pub returns-in_err-status : goal.returns-in_err-status
returns-in_err-status c =
    failed _ _ _ _ _ c.from_residual-in_err-status.result _
    c.from_residual-in_err-status.ensures.1
    (λ e same malformed.
    second_none IsAnyIdentity IsLawfulStatus identity_spelling status_spelling identity_tells
    c.args.reader.now c.read_identity.new.reader (option_map identity_of c.in_ok-identity.identity)
    c.in_ok-identity.ensures (c.in_err-status.ensures (rw (← same) malformed)))

pub returns : goal.returns
returns c =
    stated_found c.args.reader.now c.read_identity.new.reader c.read_status.new.reader
    (option_map identity_of c.in_ok-identity.identity) (status_of c.in_ok-status.status)
    c.in_ok-identity.ensures c.in_ok-status.ensures
