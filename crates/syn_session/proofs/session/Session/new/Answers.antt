use Rattle.std.proofs.Common.{◌≡◌, ◌++◌, ◌∙◌, [], ap, ap₂, refl, option_map}
use Rattle.syn_machine.specs.Coordinator.{messages_to}
use Rattle.syn_machine.specs.Network.{Which, Left, Right}
use Rattle.syn_session.specs.Scanning.{IsFoundIn, found_of, out_of}
use Rattle.syn_session.specs.declared.peer.PeerState.{PeerState}
use Rattle.syn_session.specs.Sessions.{begin_of}
use Rattle.syn_session.specs.Stages.{AreOfSession, waiting_of}
use Rattle.syn_session.proofs.SessionLemmas.{session_begins}
use Rattle.syn_session.proofs.WaitingLemmas.{sent_of}
use Rattle.syn_session.proofs.session.Session.new.Goals as goal
use Rattle.syn_path.specs.Sides.{which_of}

pub returns-clause-begun : goal.returns-clause-begun
returns-clause-begun c archive =
    session_begins archive _ (option_map which_of c.args.preference) c.args.number c.args.pair refl
    refl c.ranges.number.fits refl waits
    of numbered found out
  where
    peer : Which → PeerState
    peer Left = c.in_ok-left.left
    peer Right = c.in_ok-right.right

    waits : (side : Which) → waiting_of (peer side) ≡ begin_of c.args.pair
    waits Left = c.in_ok-left.ensures.waits
    waits Right = c.in_ok-right.ensures.waits

    of : (side : Which) → AreOfSession c.args.number (peer side)
    of Left = c.in_ok-left.ensures.of_session
    of Right = c.in_ok-right.ensures.of_session

    numbered : (side : Which) → (peer side).next_number ≡ 1
    numbered Left = c.in_ok-left.ensures.number
    numbered Right = c.in_ok-right.ensures.number

    found : (side : Which) → IsFoundIn (found_of (peer side).scan) side []
    found Left = c.in_ok-left.ensures.found Left
    found Right = c.in_ok-right.ensures.found Right

    out : (side : Which) → out_of (peer side).scan ≡ []
    out Left = c.in_ok-left.ensures.out
    out Right = c.in_ok-right.ensures.out

pub returns-clause-sends : goal.returns-clause-sends
returns-clause-sends c =
    let left = c.in_ok-left.ensures in
    let right = c.in_ok-right.ensures in
    let number = c.args.number in
    ap₂ (λ l r. l ++ r)
    (sent_of number Left c.in_ok-left.left.waiting.items left.of_session
    ∙ ap (messages_to number Left) left.waits)
    (sent_of number Right c.in_ok-right.right.waiting.items right.of_session
    ∙ ap (messages_to number Right) right.waits)
