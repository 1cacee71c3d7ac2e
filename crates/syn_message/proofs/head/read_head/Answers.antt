use Rattle.syn_message.proofs.HeadLemmas.{no_number}
use Rattle.syn_message.proofs.head.read_head.Goals as goal
use Rattle.syn_wire.proofs.Sequences.{failed}

pub returns-in_err-number : goal.returns-in_err-number
returns-in_err-number c =
    failed _ _ _ _ _ c.from_residual-in_err-number.result _ c.from_residual-in_err-number.ensures.1
    (λ e same malformed head rest begins.
    no_number c.spelling_laws.ensures.u64 c.args.reader.now c.u64.new.self c.in_ok-session.session
    c.in_ok-session.ensures.read (c.in_err-number.ensures.read (rw (← same) malformed)) head rest
    begins.lawful.session begins.lawful.number begins.spelled)
