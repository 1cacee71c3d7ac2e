use Rattle.std.proofs.Common.{refl, subst, sym}
use Rattle.syn_machine.specs.Network.{Asks, Left, Right, Which}
use Rattle.syn_link.specs.Frames.{frame_of}
use Rattle.syn_message.specs.Requests.{request_message_of, request_spelling, request_of}
use Rattle.syn_message.specs.declared.request.RequestMessage.{RequestMessage}
use Rattle.syn_path.specs.Sides.{which_of}
use Rattle.syn_sync.proofs.WriteLemmas.{sent_left, sent_right}
use Rattle.syn_sync.proofs.driver.Driver.send.Goals as goal
use Rattle.syn_sync.specs.Drivers.{outlets_of}
use Rattle.syn_sync.specs.Outlets.{Writes}
use Rattle.syn_sync.specs.Runs.{frame_to}

pub returns-in-Left-clause-written : goal.returns-in-Left-clause-written
returns-in-Left-clause-written g c =
    let message = c.args.sending.now.message.value in
    let from = outlets_of {R = g.row.R.Denot} {W = g.row.W.Denot} g.W.Write.contents
    c.args.self.now in
    let to = outlets_of {R = g.row.R.Denot} {W = g.row.W.Denot} g.W.Write.contents
    (record { left = c.send.new.self; right = c.args.self.now.right }) in
    let request = request_of message.request in
    subst (λ at. (side : Which) → Writes (from side) (to side)
    (frame_to side (Asks (which_of at) message.session message.number request)) (to side).goes)
    (sym c.in-Left.is)
    (sent_left message.session message.number request from to
    (subst (λ (m : RequestMessage). Writes (from Left) (to Left)
    (frame_of (request_spelling (request_message_of m))) (to Left).goes) c.deref.ensures
    c.send.ensures.written) refl)

pub returns-in-Right-clause-written : goal.returns-in-Right-clause-written
returns-in-Right-clause-written g c =
    let message = c.args.sending.now.message.value in
    let from = outlets_of {R = g.row.R.Denot} {W = g.row.W.Denot} g.W.Write.contents
    c.args.self.now in
    let to = outlets_of {R = g.row.R.Denot} {W = g.row.W.Denot} g.W.Write.contents
    (record { left = c.args.self.now.left; right = c.send-in-Right.new.self }) in
    let request = request_of message.request in
    subst (λ at. (side : Which) → Writes (from side) (to side)
    (frame_to side (Asks (which_of at) message.session message.number request)) (to side).goes)
    (sym c.in-Right.is)
    (sent_right message.session message.number request from to
    (subst (λ (m : RequestMessage). Writes (from Right) (to Right)
    (frame_of (request_spelling (request_message_of m))) (to Right).goes) c.deref-in-Right.ensures
    c.send-in-Right.ensures.written) refl)
