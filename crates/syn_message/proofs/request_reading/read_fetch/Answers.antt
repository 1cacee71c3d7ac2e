use Rattle.syn_model.specs.Path.{IsPath, path_spelling}
use Rattle.syn_message.proofs.KindLemmas.{fetch_none}
use Rattle.syn_message.proofs.WholeLemmas.{failed_whole, no_rest}
use Rattle.syn_message.proofs.request_reading.read_fetch.Goals as goal
use Rattle.syn_message.specs.inner.Heads.{IsLast, head_spelling}

pub returns-in_err-since : goal.returns-in_err-since
returns-in_err-since c =
    failed_whole _ _ _ _ c.from_residual-in_err-since.result _
    c.from_residual-in_err-since.ensures.1
    (λ e same malformed. fetch_none c.args.reader.now
    (no_rest IsPath IsLast path_spelling head_spelling c.spelling_laws.ensures.path
    c.args.reader.now c.path.new.self c.in_ok-path.path c.in_ok-path.ensures
    (c.in_err-since.ensures (rw (← same) malformed))))
