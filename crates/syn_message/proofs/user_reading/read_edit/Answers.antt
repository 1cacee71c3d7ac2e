use Rattle.syn_history.specs.Events.{event_of}
use Rattle.syn_model.specs.Event.{Edited}
use Rattle.syn_model.specs.Spelling.{event_spelling}
use Rattle.syn_message.proofs.WholeLemmas.{failed_whole, no_end, no_value}
use Rattle.syn_message.proofs.UserRequestFieldsLemmas.{edit_none}
use Rattle.syn_message.proofs.user_reading.read_edit.Goals as goal
use Rattle.syn_model.specs.Version.{Two}
use Rattle.syn_wire.specs.Events.{IsSpelledEvent}

pub returns-in_err-event : goal.returns-in_err-event
returns-in_err-event c =
    failed_whole _ _ _ _ c.from_residual.result _ c.from_residual.ensures.1
    (λ e same malformed. edit_none c.args.reader.now
    (λ user edit lawful. no_value IsSpelledEvent event_spelling c.args.reader.now
    (c.in_err-event.ensures (rw (← same) malformed)) (Edited user edit) lawful))

pub returns-in_err-end : goal.returns-in_err-end
returns-in_err-end c =
    failed_whole _ _ _ _ c.from_residual-in_err-end.result _ c.from_residual-in_err-end.ensures.1
    (λ e same malformed. edit_none c.args.reader.now
    (λ user edit lawful. no_end IsSpelledEvent event_spelling (c.spelling_laws.ensures.event Two)
    c.args.reader.now c.event.new.self (event_of c.in_ok-event.event) c.in_ok-event.ensures
    c.in_err-end.ensures.more (Edited user edit) lawful))
