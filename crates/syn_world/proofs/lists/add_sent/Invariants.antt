use Rattle.std.proofs.Common.{◌≡◌, ◌++◌, map}
use Rattle.syn_session.specs.Sendings.{messages_of}
use Rattle.syn_world.specs.Worlds.{message_of}
use Rattle.syn_world.proofs.lists.add_sent.Given as goal

abbrev pub invariant-loop-sending : goal.invariant-loop-sending
invariant-loop-sending l = record {
  whole : l.fn.sends.items ≡ l.yielded ++ l.sending-iterator.rest.items;
  pushed : map message_of l.sent.items
      ≡ map message_of l.fn.sent.items ++ messages_of l.yielded;
}
