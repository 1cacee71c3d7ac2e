use Rattle.std.proofs.Common.{◌+◌, ◌∷◌, ◌++◌, [], take, drop, sym, ap, ◌∙◌, subst}
use Rattle.std.proofs.lemmas.List.{map_more}
use Rattle.std.proofs.lemmas.Result.{err_from_is_err_and}
use Rattle.syn_model.specs.Standing.{IsAllowedIn}
use Rattle.syn_wire.specs.Versions.{version_of}
use Rattle.syn_replica.specs.Readings.{Replays, AddsEvent, bytes_of_each}
use Rattle.syn_replica.proofs.AlikeLemmas.{next_event, replays_nothing, replays_more}
use Rattle.syn_replica.proofs.ReadingLemmas.{row_parts}
use Rattle.syn_replica.proofs.reading.replayed.Goals as goal

pub loop-payload-init : goal.loop-payload-init
loop-payload-init c = replays_nothing (version_of c.args.version) c.args.first

pub loop-payload-preserved : goal.loop-payload-preserved
loop-payload-preserved c =
    let version = version_of c.args.version in
    let i = c.loop-payload.payload-index in
    let payloads = c.args.payloads.now in
    let read = bytes_of_each (take i payloads) in
    let new = c.add_payload.new.standing in
    let adds = subst (λ p. AddsEvent version c.loop-payload.standing p new) c.deref.ensures.value
    c.in_ok-add_payload.ensures.added in
    let more = replays_more version c.args.first c.loop-payload.standing new read
    c.payload-item.result.items c.loop-payload.invariant adds in
    subst (λ xs. Replays version c.args.first xs new)
    (sym (map_more (λ p. p.items) payloads i c.payload-item.result c.loop-payload-test.true
    ∙ ap (λ p. read ++ p.items ∷ []) (sym c.payload-item.is))) more

pub returns-in_err-add_payload-clause-damaged : goal.returns-in_err-add_payload-clause-damaged
returns-in_err-add_payload-clause-damaged c =
    let p = err_from_is_err_and c.from_residual.result c.from_residual.ensures.1 in
    let laws = c.opening_laws.ensures in
    let version = version_of c.args.version in
    let i = c.loop-payload.payload-index in
    let payloads = c.args.payloads.now in
    let payload = c.payload-item.result in
    let read = c.loop-payload.invariant in
    let parts = row_parts version payloads i payload read.events c.loop-payload-test.true
    c.payload-item.is read.spelled in
    rw (p.1, p.2) (λ is events all spelled.
    let next = next_event laws.told laws.spelled version c.args.first events read.events
    payload.items (bytes_of_each (drop (i + 1) payloads)) all read.allowed (sym spelled ∙ parts) in
    c.in_err-add_payload.ensures.damaged is next.0 (c.deref.ensures.value ∙ next.1)
    (subst (λ s. IsAllowedIn version s next.0) (sym read.gives) next.2))
