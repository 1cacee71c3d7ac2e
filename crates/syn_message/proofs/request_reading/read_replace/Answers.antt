use Rattle.std.proofs.Common.{◌≡◌, ◌++◌}
use Rattle.std.specs.Int.{to_be_bytes, w32}
use Rattle.syn_model.specs.Path.{IsPath, path_spelling}
use Rattle.syn_message.proofs.KindLemmas.{replace_none}
use Rattle.syn_message.proofs.WholeLemmas.{failed_whole, no_rest}
use Rattle.syn_message.proofs.request_reading.read_replace.Goals as goal
use Rattle.syn_message.specs.inner.Heads.{IsLast, head_spelling}
use Rattle.syn_wire.specs.declared.error.ReadError.TheVariants.{Malformed}
use Rattle.syn_wire.specs.Events.{Both, IsNumber32, both_spelling}

pub returns-in_err-item : goal.returns-in_err-item
returns-in_err-item c =
    failed_whole _ _ _ _ c.from_residual.result _ c.from_residual.ensures.1
    (λ e same malformed. replace_none c.args.reader.now
    (λ item path last small lawful short is. c.in_err-item.ensures.read (rw (← same) malformed) item
    (path_spelling path ++ head_spelling last) (record { lawful = small; spelled = is })))

pub returns-in_err-since : goal.returns-in_err-since
returns-in_err-since c =
    let no_path = λ (m : c.in_err-since.field-0.0 ≡ Malformed).
    no_rest IsPath IsLast path_spelling head_spelling c.spelling_laws.ensures.path
    c.u32.new.self c.path.new.self c.in_ok-path.path c.in_ok-path.ensures
    (c.in_err-since.ensures m) in
    failed_whole _ _ _ _ c.from_residual-in_err-since.result _
    c.from_residual-in_err-since.ensures.1
    (λ e same malformed. replace_none c.args.reader.now
    (λ item path last small lawful short is.
    no_rest IsNumber32 (Both IsPath IsLast) (to_be_bytes w32)
    (both_spelling path_spelling head_spelling) c.spelling_laws.ensures.u32 c.args.reader.now
    c.u32.new.self c.in_ok-item.item c.in_ok-item.ensures.read
    (λ pair both. no_path (rw (← same) malformed) pair.0 pair.1 both.0 both.1) item (path, last)
    small
    (lawful, short) is))
