-- What of a replica's history its image keeps, and why an event is refused there.
use Rattle.std.specs.Prelude.{ℕ, ◌+◌, ◌-◌, ◌≡◌, Bool, false, not, ◌||◌, ◌==◌, nat_le, List, [], ◌∷◌}
use Rattle.std.specs.Prelude.{◌++◌, length, take, drop, fold, Option, Some, None}
use Rattle.std.specs.Option.{option_map_or}
use Rattle.syn_model.specs.Path.{Path, is_root, parent}
use Rattle.syn_model.specs.Version.{Version, current_version}
use Rattle.syn_model.specs.Tree.{Tree, empty_directory, is_directory, is_present, replace}
use Rattle.syn_model.specs.Refusal.{Refusal, NoParent, IsDirectory, Exists, Absent, Root, Full}
use Rattle.syn_model.specs.Refusal.{OldSession, Cause, first_cause}
use Rattle.syn_model.specs.Limits.{greatest, fits_replica}
use Rattle.syn_model.specs.Event.{Token, is_below, Edit, Put, MakeDir, Remove, Chmod, Event, Edited}
use Rattle.syn_model.specs.Event.{Began, Replaced, after_edit, after_event, changed_path}
use Rattle.syn_model.specs.Event.{IsLawfulEventIn}

-- an event other than the begin of a session: its position and the path that it changed
pub record Touch : Type 0 where
  pub position : ℕ
  pub path : Path

-- the tree, the number of events, the last touches with the position from which on they are whole,
-- and the fences of sessions
pub record Standing : Type 0 where
  pub tree : Tree
  pub position : ℕ
  pub floor : ℕ
  pub touches : List Touch
  pub session : ℕ
  pub token : Option Token

abbrev pub new_standing : Standing
new_standing = record {
  tree = empty_directory;
  position = 0;
  floor = 0;
  touches = [];
  session = 0;
  token = None;
}

-- so many touches are kept
abbrev pub most_touches : ℕ
most_touches = 4096

-- how many of the touches are too many
abbrev pub surplus : ℕ → List Touch → ℕ
surplus limit touches = length touches - limit

-- one above the last of these touches, and else the floor below them
abbrev pub above_last : ℕ → List Touch → ℕ
above_last floor touches = fold (λ above touch. touch.position + 1) floor touches

abbrev pub touches_at : ℕ → Event → List Touch
touches_at position event = option_map_or (λ path. record { position = position; path = path } ∷ [])
    (changed_path event) []

abbrev pub session_after : ℕ → Event → ℕ
session_after last (Edited user edit) = last
session_after last (Began session) = session
session_after last (Replaced token path since new) = last

abbrev pub token_after : Option Token → Event → Option Token
token_after last (Edited user edit) = last
token_after last (Began session) = last
token_after last (Replaced token path since new) = Some token

-- the standing after one more event: of its touches the oldest go, and the floor with them
abbrev pub standing_after : Standing → Event → Standing
standing_after standing event =
    let touches = standing.touches ++ touches_at standing.position event in
    record {
      tree = after_event standing.tree event;
      position = standing.position + 1;
      floor = above_last standing.floor (take (surplus most_touches touches) touches);
      touches = drop (surplus most_touches touches) touches;
      session = session_after standing.session event;
      token = token_after standing.token event;
    }

-- The causes to refuse an event, in their order

abbrev pub place_causes : Tree → Path → List Cause
place_causes tree path = (is_root path, Root) ∷ (not (is_directory tree (parent path)), NoParent)
    ∷ []

abbrev pub edit_causes : Tree → Edit → List Cause
edit_causes tree (Put path bytes) = place_causes tree path ++ (is_directory tree path, IsDirectory)
    ∷ []
edit_causes tree (MakeDir path) = place_causes tree path ++ (is_present tree path, Exists) ∷ []
edit_causes tree (Remove path) = place_causes tree path ++ (not (is_present tree path), Absent) ∷ []
edit_causes tree (Chmod path mode) = place_causes tree path ++ (is_directory tree path, IsDirectory)
    ∷ (not (is_present tree path), Absent) ∷ []

abbrev pub full_causes : Tree → List Cause
full_causes new = (not (fits_replica new), Full) ∷ []

-- why a tree refuses an edit
abbrev pub edit_refusal : Tree → Edit → Option Refusal
edit_refusal tree edit = first_cause (edit_causes tree edit ++ full_causes (after_edit tree edit))

-- the token is not of the session begun last, or not above the last token
abbrev pub is_old : ℕ → Option Token → Token → Bool
is_old session last token =
    token.session == 0 || not (token.session == session)
    || option_map_or (λ last. not (is_below last token)) last false

abbrev pub full_position : ℕ → List Cause
full_position position = (nat_le greatest position, Full) ∷ []

-- why an event is refused in a standing
abbrev pub causes_at : Standing → Event → List Cause
causes_at standing (Edited user edit) =
    edit_causes standing.tree edit
    ++ (full_causes (after_edit standing.tree edit) ++ full_position standing.position)
causes_at standing (Began session) = (nat_le session standing.session, OldSession)
    ∷ full_position standing.position
causes_at standing (Replaced token path since new) =
    (is_old standing.session standing.token token, OldSession)
    ∷ place_causes standing.tree path
    ++ (full_causes (replace standing.tree path new) ++ full_position standing.position)

abbrev pub refusal_at : Standing → Event → Option Refusal
refusal_at standing event = first_cause (causes_at standing event)

pub record IsAllowedIn (version : Version) (standing : Standing) (event : Event) : Type 0 where
  pub lawful : IsLawfulEventIn version event
  pub not_refused : refusal_at standing event ≡ None

abbrev pub IsAllowedAt : Standing → Event → Type 0
IsAllowedAt standing event = IsAllowedIn current_version standing event

-- each of the events is allowed in turn
abbrev pub AllAllowedIn : Version → Standing → List Event → Type 0
AllAllowedIn version standing [] = Unit {0}
AllAllowedIn version standing (event ∷ events) = IsAllowedIn version standing event
    × AllAllowedIn version (standing_after standing event) events

abbrev pub AllAllowedAt : Standing → List Event → Type 0
AllAllowedAt standing events = AllAllowedIn current_version standing events
