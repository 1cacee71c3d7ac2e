use Rattle.std.proofs.Common.{ap, ◌∙◌, sym, subst, true≢false, option_map, ◌==◌, length}
use Rattle.syn_history.specs.Events.{event_of}
use Rattle.syn_model.specs.Spelling.{event_spelling_in}
use Rattle.syn_wire.specs.Events.{IsSpelledEventIn}
use Rattle.syn_wire.specs.Reads.{IsReading}
use Rattle.syn_wire.specs.Versions.{version_of}
use Rattle.syn_replica.proofs.ReadingLemmas.{event_there, event_ends}
use Rattle.syn_replica.proofs.reading.read_event.Goals as goal

pub returns-in_default : goal.returns-in_default
returns-in_default c event spelled e =
    event_there (version_of c.args.version) c.args.payload.now event spelled e
    (subst (λ o. IsReading (IsSpelledEventIn (version_of c.args.version))
    (event_spelling_in (version_of c.args.version))
    c.args.payload.now (option_map
    (λ found. (event_of found.0, found.1.now)) o)) c.in_default.is c.in_ok-event.ensures)

pub returns-else-is_empty : goal.returns-else-is_empty
returns-else-is_empty c event spelled e =
    let read = subst (λ o. IsReading (IsSpelledEventIn (version_of c.args.version))
    (event_spelling_in (version_of c.args.version))
    c.args.payload.now (option_map
    (λ found. (event_of found.0, found.1.now)) o)) c.in-Some.is c.in_ok-event.ensures in
    let empty = event_ends (version_of c.args.version) c.args.payload.now event spelled e
    c.spelling_laws.ensures.event (event_of c.in-Some.event) c.in-Some.rest.now read in
    true≢false (sym (c.is_empty.ensures ∙ ap (λ xs. length xs == 0) empty) ∙ c.if-is_empty.false)
