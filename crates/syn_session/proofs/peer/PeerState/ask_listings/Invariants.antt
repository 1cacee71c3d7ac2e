use Rattle.std.proofs.Common.{◌≡◌, ◌++◌, map}
use Rattle.syn_machine.specs.Coordinator.{messages_to, numbered}
use Rattle.syn_machine.specs.Side.{ListAt}
use Rattle.syn_path.specs.Sides.{which_of}
use Rattle.syn_session.specs.Answering.{IsAskedOn}
use Rattle.syn_session.specs.Sendings.{messages_of}
use Rattle.syn_session.proofs.peer.PeerState.ask_listings.Given as goal

abbrev pub invariant-loop-path : goal.invariant-loop-path
invariant-loop-path l = record {
  whole : l.fn.paths.items ≡ l.yielded ++ l.path-iterator.rest.items;
  asked : IsAskedOn l.fn.session l.fn.self l.self (map ListAt l.yielded);
  sent : messages_of l.sends.items ≡ messages_of l.fn.sends.items
      ++ messages_to l.fn.session (which_of l.fn.to)
      (numbered l.fn.self.next_number (map ListAt l.yielded));
}
