use Rattle.std.proofs.Common.{◌++◌, ◌∙◌, ap}
use Rattle.syn_machine.specs.Network.{Left, Right}
use Rattle.syn_session.specs.Sendings.{messages_of, messages_waiting}
use Rattle.syn_session.proofs.SessionLemmas.{messages_resent}
use Rattle.syn_session.proofs.session.Session.waiting.Goals as goal

pub returns-clause-resends : goal.returns-clause-resends
returns-clause-resends c archive running is =
    let left = messages_waiting Left c.args.self.now.left in
    let right = messages_waiting Right c.args.self.now.right in
    c.in_ok-send-2.ensures
    ∙ (ap (λ sent. sent ++ right)
    (c.in_ok-send.ensures ∙ ap (λ items. messages_of items ++ left) c.new-sends.ensures.items)
    ∙ messages_resent archive c.args.self.now running is)
