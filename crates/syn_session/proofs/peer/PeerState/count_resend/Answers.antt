use Rattle.std.proofs.Common.{◌≡◌, ◌∙◌, ap, map, subst, sym}
use Rattle.std.specs.Prelude.{All}
use Rattle.syn_session.specs.Stages.{outstanding_of}
use Rattle.syn_session.specs.declared.requests.UnansweredRequest.{UnansweredRequest}
use Rattle.syn_session.proofs.WaitingLemmas.{resent_of, resent_waits, worn_same}
use Rattle.syn_session.proofs.peer.PeerState.count_resend.Goals as goal

pub count_resends-requires : goal.count_resends-requires
count_resends-requires c = sym (worn_same c.args.self.now.waiting.items) ∙ c.requires

pub returns-clause-waits : goal.returns-clause-waits
returns-clause-waits c =
    ap (map outstanding_of) c.count_resends.ensures ∙ resent_waits c.args.self.now.waiting.items

pub returns-clause-of_session : goal.returns-clause-of_session
returns-clause-of_session c session of =
    subst (All (λ (one : UnansweredRequest). one.message.value.session ≡ session))
    (sym c.count_resends.ensures) (resent_of session c.args.self.now.waiting.items of)
