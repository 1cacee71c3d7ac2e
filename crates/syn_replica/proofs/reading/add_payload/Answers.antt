use Rattle.std.proofs.Common.{sym, ap, ◌∙◌, subst, option_map, inl, inr}
use Rattle.std.proofs.lemmas.Option.{none-some}
use Rattle.syn_history.specs.Events.{event_of}
use Rattle.syn_model.specs.Standing.{refusal_at}
use Rattle.syn_wire.specs.Versions.{version_of}
use Rattle.syn_replica.specs.Readings.{IsEventOf}
use Rattle.syn_replica.proofs.reading.add_payload.Goals as goal

pub returns-in-Err-clause-damaged : goal.returns-in-Err-clause-damaged
returns-in-Err-clause-damaged c damaged event e allowed =
    let laws = c.opening_laws.ensures in
    let old = c.args.standing.now in
    let version = version_of c.args.version in
    let read = subst (λ o. IsEventOf version c.args.payload.now (option_map event_of o))
    c.in-Some.is c.in_ok-event.ensures in
    let same = laws.told version (event_of c.in-Some.event) event read.0
    (laws.spelled version old event allowed)
    (sym read.1 ∙ e) in
    let none = ap (λ x. refusal_at old x) same ∙ allowed.not_refused in
    elim c.in-Err.ensures.refused [
      | inl memory ↦ c.damage.ensures.damaged damaged memory
      | inr cause ↦ none-some _ (sym none ∙ cause)
    ]
