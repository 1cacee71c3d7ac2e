-- An event and a token as the model has them.
use Rattle.syn_model.specs.Event as model
use Rattle.syn_tree.specs.Edits.{edit_of}
use Rattle.syn_tree.specs.Nodes.{part_of}
use Rattle.syn_history.specs.declared.event.Event.{Event}
use Rattle.syn_history.specs.declared.event.Event.TheVariants as has
use Rattle.syn_history.specs.declared.token.Token.{Token}

abbrev pub token_of : Token → model.Token
token_of token = record { session = token.session; item = token.item }

abbrev pub event_of : Event → model.Event
event_of (has.Edited user edit) = model.Edited user (edit_of edit)
event_of (has.Began session) = model.Began session
event_of (has.Replaced token path since new) = model.Replaced (token_of token) path since
    (part_of new)
