-- What is kept of a history beside its tree.
use Rattle.std.specs.Prelude.{ℕ, ◌≡◌, ◌<◌, ◌≤◌, ◌+◌, Bool, true, ◌&&◌, nat_le, nat_lt, List, []}
use Rattle.std.specs.Prelude.{◌∷◌, ◌++◌, length, Option, All, refl}
use Rattle.std.specs.Option.{option_map_or}
use Rattle.std.specs.Coded.{Coded, code_by, coded×, coded_ℕ, coded_list, coded_option}
use Rattle.syn_model.specs.Path.{Path, comparable}
use Rattle.syn_model.specs.Tree.{Tree, IsTree, absent}
use Rattle.syn_model.specs.Limits.{fits_replica}
use Rattle.syn_model.specs.Event.{Token, Event, Edited, Remove, after_event}
use Rattle.syn_model.specs.Standing.{Touch, Standing, most_touches, standing_after}
use Rattle.syn_model.specs.History.{History, standing_of}
use Rattle.syn_model.specs.Image.{IsStanding}

-- a standing without its tree
pub record Past : Type 0 where
  pub position : ℕ
  pub floor : ℕ
  pub touches : List Touch
  pub session : ℕ
  pub token : Option Token

abbrev pub past_in : Standing → Past
past_in standing =
    record {
      position = standing.position;
      floor = standing.floor;
      touches = standing.touches;
      session = standing.session;
      token = standing.token;
    }

abbrev pub past_with : ℕ → ℕ → List Touch → ℕ → Option Token → Past
past_with position floor touches session token = record
    { position = position; floor = floor; touches = touches; session = session; token = token }

-- a tree with a past is a standing
abbrev pub standing_with : Tree → Past → Standing
standing_with tree past =
    record {
      tree = tree;
      position = past.position;
      floor = past.floor;
      touches = past.touches;
      session = past.session;
      token = past.token;
    }

abbrev pub past_of : History → Past
past_of history = past_in (standing_of history)

-- the past after one more event, which is the same for each tree
abbrev pub past_after : Past → Event → Past
past_after past event = past_in (standing_after (standing_with absent past) event)

-- a standing goes on as its tree and its past do
abbrev pub PastSteps : Type 0
PastSteps = (tree : Tree) (past : Past) (event : Event)
    → standing_after (standing_with tree past) event
    ≡ standing_with (after_event tree event) (past_after past event)

-- and the past of a history as the history does
abbrev pub PastGoesOn : Type 0
PastGoesOn = (history : History) (event : Event) → past_of (history ++ event ∷ [])
    ≡ past_after (past_of history) event

-- the past after an event that changed the path, as after a removal
abbrev pub past_touched : Past → Path → Past
past_touched past path = past_after past (Edited 0 (Remove path))

-- with each tree within the limits it is what an image may hold
abbrev pub IsLawful : Past → Type 0
IsLawful past = (tree : Tree) → IsTree tree → fits_replica tree ≡ true
    → IsStanding (standing_with tree past)

-- the touch comes from the position on, and its path is the one, above it or below it
abbrev pub tells : ℕ → Path → Touch → Bool
tells since path touch = nat_le since touch.position && comparable touch.path path

-- what a trail keeps by its type: room for the most touches and no more of them, all before the
-- position
pub record IsKept (position : ℕ) (touches : List Touch) (capacity : ℕ) : Type 0 where
  pub room : capacity ≡ most_touches
  pub count : length touches ≤ most_touches
  pub before : All (λ touch. touch.position < position) touches

-- the touches rise, from one position on and before another
abbrev pub are_between : ℕ → ℕ → List Touch → Bool
are_between from until [] = true
are_between from until (touch ∷ touches) = nat_le from touch.position && nat_lt touch.position until
    && are_between (touch.position + 1) until touches

-- the token is of a session from 1 to the last
abbrev pub is_of_session : Option Token → ℕ → Bool
is_of_session token last = option_map_or
    (λ token. nat_le 1 token.session && nat_le token.session last) token true

-- the test whether a past is lawful, where its numbers and paths are
abbrev pub is_lawful : Past → Bool
is_lawful past =
    nat_le past.floor past.position && nat_le (length past.touches) most_touches
    && are_between past.floor past.position past.touches
    && is_of_session past.token past.session

-- a touch, a token and a past are stored as their fields

abbrev pub coded_touch : Coded Touch
coded_touch = code_by (ℕ × Path) (coded× coded_ℕ (coded_list (coded_list coded_ℕ)))
    (λ t. (t.position, t.path)) (λ p. record { position = p.0; path = p.1 }) (λ _. refl)

abbrev pub coded_token : Coded Token
coded_token = code_by (ℕ × ℕ) (coded× coded_ℕ coded_ℕ) (λ t. (t.session, t.item))
    (λ p. record { session = p.0; item = p.1 }) (λ _. refl)

abbrev pub coded_past : Coded Past
coded_past =
    code_by ((ℕ × ℕ) × (List Touch × (ℕ × Option Token)))
    (coded× (coded× coded_ℕ coded_ℕ) (coded× (coded_list coded_touch)
    (coded× coded_ℕ (coded_option coded_token))))
    (λ t. ((t.position, t.floor), (t.touches, (t.session, t.token))))
    (λ p. record {
      position = p.0.0;
      floor = p.0.1;
      touches = p.1.0;
      session = p.1.1.0;
      token
          = p.1.1.1;
    }) (λ _. refl)
