use Rattle.syn_message.proofs.HeadLemmas.{no_head}
use Rattle.syn_message.proofs.WholeLemmas.{failed_whole}
use Rattle.syn_message.proofs.request_reading.read_request.Goals as goal
use Rattle.syn_message.specs.Requests.{IsLawfulRequestMessage, fields_spelling, kind_of}
use Rattle.syn_message.specs.inner.Heads.{IsHead}

pub returns-in_err-session : goal.returns-in_err-session
returns-in_err-session c =
    failed_whole IsLawfulRequestMessage _ _ _ c.from_residual-in_err-session.result _
    c.from_residual-in_err-session.ensures.1 (λ e same malformed asked lawful.
    no_head IsHead c.args.reader.now c.byte.new.self c.in_ok-kind.kind c.in_ok-kind.ensures.read
    (c.in_err-session.ensures (rw (← same) malformed)) (kind_of asked.request) asked.session
    asked.number
    (fields_spelling asked.request)
    (record { session = lawful.session; begun = lawful.begun; number = lawful.number }))
