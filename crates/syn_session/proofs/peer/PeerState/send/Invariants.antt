use Rattle.std.proofs.Common.{◌≡◌, ◌++◌, map, take}
use Rattle.syn_path.specs.Sides.{which_of}
use Rattle.syn_session.specs.Sendings.{message_waiting, messages_of}
use Rattle.syn_session.proofs.peer.PeerState.send.Given as goal

abbrev pub invariant-loop-one : goal.invariant-loop-one
invariant-loop-one l = messages_of l.sends.items ≡ messages_of l.fn.sends.items
    ++ map (message_waiting (which_of l.fn.to)) (take l.one-index l.fn.self.waiting.items)
