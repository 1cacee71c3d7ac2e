-- What a coordinator sends, as the model has it.
use Rattle.std.specs.Prelude.{List, map}
use Rattle.syn_machine.specs.Network.{Message, Asks, Which}
use Rattle.syn_message.specs.Requests.{request_of}
use Rattle.syn_message.specs.declared.request.RequestMessage.{RequestMessage}
use Rattle.syn_path.specs.Sides.{which_of}
use Rattle.syn_session.specs.declared.peer.PeerState.{PeerState}
use Rattle.syn_session.specs.declared.requests.UnansweredRequest.{UnansweredRequest}
use Rattle.syn_session.specs.declared.sending.Sending.{Sending}

abbrev pub message_to : Which → RequestMessage → Message
message_to side message = Asks side message.session message.number (request_of message.request)

abbrev pub message_of : Sending → Message
message_of sending = message_to (which_of sending.to) sending.message.value

abbrev pub messages_of : List Sending → List Message
messages_of sends = map message_of sends

-- what is sent of the requests that wait on a side
abbrev pub message_waiting : Which → UnansweredRequest → Message
message_waiting side one = message_to side one.message.value

abbrev pub messages_waiting : Which → PeerState → List Message
messages_waiting side peer = map (message_waiting side) peer.waiting.items
