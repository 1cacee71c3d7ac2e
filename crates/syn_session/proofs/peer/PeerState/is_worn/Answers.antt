use Rattle.std.proofs.Common.{◌∙◌, ap, sym}
use Rattle.std.specs.List.{list_any}
use Rattle.std.specs.Prelude.{nat_le}
use Rattle.syn_machine.specs.Coordinator.{most_resends}
use Rattle.syn_session.specs.declared.requests.UnansweredRequest.{UnansweredRequest}
use Rattle.syn_session.proofs.WaitingLemmas.{worn_same}
use Rattle.syn_session.proofs.peer.PeerState.is_worn.Goals as goal

pub returns : goal.returns
returns c =
    c.is_any_worn.ensures
    ∙ (ap (list_any (λ (one : UnansweredRequest). nat_le most_resends one.resent))
    c.deref.ensures.value
    ∙ sym (worn_same c.args.self.now.waiting.items))
