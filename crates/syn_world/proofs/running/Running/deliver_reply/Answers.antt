use Rattle.std.proofs.Common.{◌∙◌, sym}
use Rattle.std.proofs.lemmas.Bool.{false≢true}
use Rattle.syn_machine.specs.Coordinator.{CoordinatorTakes}
use Rattle.syn_machine.specs.Network.{Answers}
use Rattle.syn_runs.specs.World.{Deliver}
use Rattle.syn_world.specs.CoordinatorSteps.{Unrefused}
use Rattle.syn_message.specs.Replies.{reply_of}
use Rattle.syn_path.specs.Sides.{which_of}
use Rattle.syn_world.proofs.ListLemmas.{sent_can}
use Rattle.syn_world.proofs.SessionLemmas.{goes_coordinator, lift_reply}
use Rattle.syn_world.proofs.running.Running.deliver_reply.Goals as goal

pub returns-then-not-can_be_sent : goal.returns-then-not-can_be_sent
returns-then-not-can_be_sent g c model message is sent =
    let one = Answers (which_of c.args.from) c.args.session c.args.number (reply_of c.args.reply) in
    absurd (false≢true (sym c.if-not-can_be_sent.true
    ∙ c.can_be_sent.ensures.1 (sent_can model.sent message one is.lists.lawful sent)))

pub returns : goal.returns
returns g c model message is sent =
    let from = which_of c.args.from in
    let reply = reply_of c.args.reply in
    goes_coordinator c.args.self model is
    (Unrefused (CoordinatorTakes model.pair model.coordinator from c.args.session c.args.number
    reply)) c.hear-call.result
    (c.hear-call.ensures model.pair model.coordinator is.machines.coordinator)
    c.told.result (Deliver message)
    (lift_reply model _ _ _ message from c.args.session c.args.number reply sent)
    c.told.ensures.disks c.told.ensures.ends
