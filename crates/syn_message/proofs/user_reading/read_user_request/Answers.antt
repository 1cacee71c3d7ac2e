use Rattle.std.proofs.Common.{refl}
use Rattle.syn_message.proofs.HeadLemmas.{no_head}
use Rattle.syn_message.proofs.WholeLemmas.{failed_whole}
use Rattle.syn_message.proofs.user_reading.read_user_request.Goals as goal
use Rattle.syn_message.specs.Users.{IsLawfulUserRequestMessage, user_request_fields}
use Rattle.syn_message.specs.Users.{user_request_kind}
use Rattle.syn_message.specs.inner.Heads.{IsUserHead}

pub returns-in_err-number : goal.returns-in_err-number
returns-in_err-number c =
    failed_whole IsLawfulUserRequestMessage _ _ _ c.from_residual-in_err-number.result _
    c.from_residual-in_err-number.ensures.1 (λ e same malformed asked lawful.
    no_head IsUserHead c.args.reader.now c.byte.new.self c.in_ok-kind.kind c.in_ok-kind.ensures.read
    (c.in_err-number.ensures (rw (← same) malformed))
    (user_request_kind asked.request) 0 asked.number
    (user_request_fields asked.request)
    (record { none = refl; number = lawful.number }))
