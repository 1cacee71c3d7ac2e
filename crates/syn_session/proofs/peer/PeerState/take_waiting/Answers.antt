use Rattle.std.proofs.Common.{◌≡◌, ◌<◌, ◌∙◌, ℕ, true, false, Some, sym, ap, length}
use Rattle.std.proofs.Common.{get_or, map, subst}
use Rattle.std.specs.Prelude.{All, position}
use Rattle.std.proofs.lemmas.List.Quantifiers.{position-Some}
use Rattle.syn_message.specs.Requests.{request_of}
use Rattle.syn_session.specs.Stages.{outstanding_of}
use Rattle.syn_session.specs.declared.requests.UnansweredRequest.{UnansweredRequest}
use Rattle.syn_session.proofs.WaitingLemmas.{asks_at, cond_none, has_number, none_has, removed_at}
use Rattle.syn_session.proofs.WaitingLemmas.{taken_of}
use Rattle.syn_session.proofs.peer.PeerState.take_waiting.Goals as goal
use Rattle.syn_session.proofs.peer.PeerState.take_waiting.Goals.{After-remove}

-- where the request stands
place : (c : After-remove) → let d = c.remove.result in
    let waiting = c.args.self.now.waiting.items in
    (c.in-Some.at < length waiting)
    × (has_number c.args.number (get_or waiting c.in-Some.at d) ≡ true) × ((k : ℕ) →
    k < c.in-Some.at → has_number c.args.number (get_or waiting k d) ≡ false)
place c =
    position-Some (has_number c.args.number) c.args.self.now.waiting.items
    c.in-Some.at c.remove.result
    (ap (position (has_number c.args.number)) (sym c.deref.ensures.value)
    ∙ (sym c.index_of.ensures ∙ c.in-Some.is))

pub returns-in-Some-clause-request : goal.returns-in-Some-clause-request
returns-in-Some-clause-request c =
    let at = place (goal.at.returns-in-Some-clause-request c).After-remove in
    sym (asks_at c.args.self.now.waiting.items c.in-Some.at c.args.number c.remove.result at.0 at.1
    at.2 ∙ ap (λ (one : UnansweredRequest). Some (request_of one.message.value.request))
    (sym c.remove.ensures.value))

pub returns-in-Some-clause-some : goal.returns-in-Some-clause-some
returns-in-Some-clause-some c =
    let at = place (goal.at.returns-in-Some-clause-some c).After-remove in
    let was = c.args.self.now.waiting.items in record {
      waits = λ rising.
          ap (map outstanding_of) c.remove.ensures.items
          ∙ removed_at was c.in-Some.at c.args.number c.remove.result at.0 at.1 at.2 rising;
      of_session = λ session of.
          subst (All (λ (one : UnansweredRequest). one.message.value.session ≡ session))
          (sym c.remove.ensures.items) (taken_of session was c.in-Some.at at.0 of);
    }

pub returns-in-None-clause-request : goal.returns-in-None-clause-request
returns-in-None-clause-request c =
    sym (none_has c.args.self.now.waiting.items c.args.number (cond_none _ _
    (ap (position (has_number c.args.number)) (sym c.deref.ensures.value)
    ∙ (sym c.index_of.ensures ∙ c.in-None.is))))
