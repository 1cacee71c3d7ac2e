-- The steps of a side: what they leave, and why they are refused, the first cause first.
use Rattle.std.specs.Prelude.{ℕ, Bool, false, not, ◌==◌, nat_lt, if◌then◌else◌, List, []}
use Rattle.std.specs.Prelude.{◌∷◌, ◌++◌, length, take, drop, Option}
use Rattle.std.specs.Option.{option_map_or}
use Rattle.syn_model.specs.Limits.{greatest_piece}
use Rattle.syn_model.specs.Path.{Bytes, Path}
use Rattle.syn_model.specs.Tree.{Tree, subtree, replace}
use Rattle.syn_model.specs.Refusal.{Refusal, JournalFull, OldSession, WrongPair, Cause, first_cause}
use Rattle.syn_model.specs.Event.{Token, Event, Began, Replaced, is_same_token}
use Rattle.syn_model.specs.Standing.{Standing, place_causes, full_causes, full_position}
use Rattle.syn_model.specs.History.{History, tree_of, event_causes, position_causes, is_old_token}
use Rattle.syn_model.specs.History.{last_session, last_token, standing_of}
use Rattle.syn_model.specs.Spelling.{event_spelling, spelling}
use Rattle.syn_replica.specs.Causes.{since_causes}
use Rattle.syn_replica.specs.declared.replica.session.TokenStatus.{TokenStatus}
use Rattle.syn_replica.specs.declared.replica.session.TokenStatus.TheVariants.{Done, Old, Open}

-- the journal has no room for the record of the event
abbrev pub room_causes : ℕ → Event → List Cause
room_causes room event = (nat_lt room (length (event_spelling event)), JournalFull) ∷ []

-- why the event is not added
abbrev pub add_refusal : ℕ → History → Event → Option Refusal
add_refusal room history event = first_cause (event_causes history event ++ room_causes room event)

-- the session begun last begins again without an event
abbrev pub begun : History → ℕ → History
begun history session =
    if session == last_session history then history else history ++ Began session ∷ []

-- why a session is not begun: the pair is another, or the session is below the last; a session that
-- was not begun yet needs its event
abbrev pub begin_refusal_at : ℕ → ℕ → Standing → ℕ → ℕ → Option Refusal
begin_refusal_at room own standing pair session =
    first_cause
    ((not (pair == own), WrongPair) ∷ (nat_lt session standing.session, OldSession)
    ∷ (if session == standing.session then []
    else full_position standing.position ++ room_causes room (Began session)))

abbrev pub begin_refusal : ℕ → ℕ → History → ℕ → ℕ → Option Refusal
begin_refusal room own history pair session =
    begin_refusal_at room own (standing_of history) pair session

-- the token is that of the last replacement
abbrev pub is_done_at : Standing → Token → Bool
is_done_at standing token =
    option_map_or (λ last. is_same_token last token) standing.token false

abbrev pub is_done : History → Token → Bool
is_done history token =
    option_map_or (λ last. is_same_token last token) (last_token history) false

-- the bytes of a subtree's spelling from the offset on, the first of them where there are more
abbrev pub piece : History → Path → ℕ → Bytes
piece history path offset =
    take greatest_piece (drop offset (spelling (subtree (tree_of history) path)))

-- a token that is done stays done, and nothing changes
abbrev pub replaced : History → Token → Path → ℕ → Tree → History
replaced history token path since new =
    if is_done history token then history else history ++ Replaced token path since new ∷ []

-- why a replacement under a token that is not done is not made
abbrev pub replace_refusal : ℕ → History → Token → Path → ℕ → Tree → Option Refusal
replace_refusal room history token path since new =
    first_cause ((is_old_token history token, OldSession) ∷ since_causes history path since
    ++ (place_causes (tree_of history) path ++ (full_causes (replace (tree_of history) path new)
    ++ (position_causes history ++ room_causes room (Replaced token path since new)))))

-- why it is not made, as far as that is found before memory is asked for
abbrev pub early_refusal : History → Token → Path → ℕ → Option Refusal
early_refusal history token path since =
    first_cause ((is_old_token history token, OldSession) ∷ since_causes history path since
    ++ place_causes (tree_of history) path)

-- how a token stands
abbrev pub how_stands : History → Token → TokenStatus
how_stands history token =
    if is_done history token then Done else if is_old_token history token then Old else Open
