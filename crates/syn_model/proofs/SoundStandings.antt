-- What an image may hold stays so, as events are allowed in turn; what is kept of a history is
-- that.
use Rattle.std.proofs.Common.{◌≡◌, ◌≤◌, ◌<◌, ℕ, zero, suc, true, false, ◌||◌, ◌==◌, not}
use Rattle.std.proofs.Common.{nat_le, ◌+◌, ◌-◌, List, [], ◌∷◌, ◌++◌, length, take, drop, fold}
use Rattle.std.proofs.Common.{Option, Some, None, IfSome, All, refl, sym, subst, arith, true≢false}
use Rattle.std.specs.List.{AllPairs}
use Rattle.std.specs.Option.{option_map_or}
use Rattle.std.proofs.lemmas.Bool.{leb-false, eqb-true, or_parts, not-false}
use Rattle.std.proofs.lemmas.List.{length-drop}
use Rattle.std.proofs.lemmas.List.Elements.{All-nil, All-cons}
use Rattle.std.proofs.lemmas.List.Kept.{AllPairs-cons}
use Rattle.syn_model.specs.Path.{IsPath}
use Rattle.syn_model.specs.Tree.{IsTree, replace}
use Rattle.syn_model.specs.Limits.{greatest, fits_replica}
use Rattle.syn_model.specs.Refusal.{first_cause, Full, OldSession}
use Rattle.syn_model.specs.Event.{Token, is_below, IsLawfulToken, Event, Edited, Began, Replaced}
use Rattle.syn_model.specs.Event.{after_edit, IsLawfulEvent}
use Rattle.syn_model.specs.Event as event
use Rattle.syn_model.specs.Standing.{Touch, Standing, most_touches, surplus, above_last, touches_at}
use Rattle.syn_model.specs.Standing.{session_after, token_after, standing_after, is_old}
use Rattle.syn_model.specs.Standing.{edit_causes, place_causes, full_causes, full_position}
use Rattle.syn_model.specs.Standing.{refusal_at, IsAllowedAt, AllAllowedAt, AllAllowedIn}
use Rattle.syn_model.specs.History.{History, IsHistory, standing_of}
use Rattle.syn_model.specs.Image.{IsStanding, IsStandingIn}
use Rattle.syn_model.specs.Laws.{ImageStands}
use Rattle.syn_model.specs.Version.{Version, current_version}
use Rattle.syn_model.proofs.HistoryLemmas.{first_cause-none, none-append, history-is_tree}
use Rattle.syn_model.proofs.FitsLemmas.{history_fits}
use Rattle.syn_model.proofs.StandingLemmas.{standing_allows, standing_goes_on}
use Rattle.syn_model.proofs.VersionLemmas.{all_allowed_now}

-- ---- the position

not_full : (position : ℕ) → first_cause (full_position position) ≡ None → position < greatest
not_full position e =
    leb-false greatest position (first_cause-none (nat_le greatest position, Full) [] e).0

pub before_greatest : (standing : Standing) (event : Event) → refusal_at standing event ≡ None →
    standing.position < greatest
before_greatest s (Edited user edit) none =
    let position = full_position s.position in
    let full = full_causes (after_edit s.tree edit) in
    not_full s.position
    (none-append full position (none-append (edit_causes s.tree edit) (full ++ position) none).1).1
before_greatest s (Began session) none =
    not_full s.position
    (first_cause-none (nat_le session s.session, OldSession) (full_position s.position) none).1
before_greatest s (Replaced token path since new) none =
    let position = full_position s.position in
    let full = full_causes (replace s.tree path new) in
    let rest = (first_cause-none (is_old s.session s.token token, OldSession)
    (place_causes s.tree path ++ (full ++ position)) none).1 in
    not_full s.position
    (none-append full position (none-append (place_causes s.tree path) (full ++ position) rest).1).1

-- ---- the fences of sessions

abbrev IsFence : ℕ → Option Token → Type 0
IsFence session token =
    (session ≤ greatest) × IfSome token
    (λ token. (1 ≤ token.session) × (token.session ≤ session) × IsLawfulToken token)

higher : (low high : ℕ) (token : Option Token) → low ≤ high → high ≤ greatest → IsFence low token →
    IsFence high token
higher low high None le top fence = (top, tt)
higher low high (Some token) le top fence =
    (top, (fence.1.0, omega (arith, le, fence.1.1), fence.1.2))

-- a token that is not old is of the last session, which is not 0
of_last : (session : ℕ) (last : Option Token) (token : Token) → is_old session last token ≡ false →
    (1 ≤ token.session) × (token.session ≡ session)
of_last session last token e =
    let reached = option_map_or (λ last. not (is_below last token)) last false in
    let other = not (token.session == session) in
    let parts = or_parts (token.session == 0 || other) reached e in
    let more = or_parts (token.session == 0) other parts.0 in (
      positive token.session more.0,
      eqb-true token.session session (not-false (token.session == session) more.1),
    )
  where
    positive : (n : ℕ) → (n == 0) ≡ false → 1 ≤ n
    positive zero h = absurd (true≢false h)
    positive (suc n) h = omega arith

fence_after : (standing : Standing) (event : Event) → IsFence standing.session standing.token →
    IsAllowedAt standing event →
    IsFence (session_after standing.session event) (token_after standing.token event)
fence_after s (Edited user edit) fence h = fence
fence_after s (Began session) fence h =
    let above = leb-false session s.session
    (first_cause-none (nat_le session s.session, OldSession) (full_position s.position)
    h.not_refused).0 in
    higher s.session session s.token (omega (arith, above)) (omega (arith, h.lawful)) fence
fence_after s (Replaced token path since new) fence h =
    let rest = place_causes s.tree path
    ++ (full_causes (replace s.tree path new) ++ full_position s.position) in
    let last = of_last s.session s.token token
    (first_cause-none (is_old s.session s.token token, OldSession) rest h.not_refused).0 in
    (fence.0, (last.0, omega (arith, last.1), h.lawful.0))

-- ---- the touches

abbrev Within : ℕ → ℕ → Touch → Type 0
Within from until touch = (from ≤ touch.position) × (touch.position < until) × IsPath touch.path

abbrev Rises : Touch → Touch → Type 0
Rises earlier later = earlier.position < later.position

-- they rise from one position on, below another, and their paths are lawful
abbrev RiseWithin : ℕ → ℕ → List Touch → Type 0
RiseWithin from until [] = Unit {0}
RiseWithin from until (touch ∷ touches) =
    Within from until touch × RiseWithin (touch.position + 1) until touches

in_turn : (from until : ℕ) (touches : List Touch) → All (Within from until) touches →
    AllPairs Rises touches → RiseWithin from until touches
in_turn from until [] all pairs = tt
in_turn from until (touch ∷ touches) all pairs = (
  all 0 touch (omega arith),
  in_turn (touch.position + 1) until touches
      (λ k d short. (
        omega (arith, pairs 0 (suc k) d (omega arith) (omega (arith, short))),
        (all (suc k) d (omega (arith, short))).1,
        (all (suc k) d (omega (arith, short))).2,
      ))
      (λ i j d below short. pairs (suc i) (suc j) d (omega (arith, below)) (omega (arith, short))),
)

each_within : (from until : ℕ) (touches : List Touch) → RiseWithin from until touches →
    All (Within from until) touches × AllPairs Rises touches
each_within from until [] rise =
    (All-nil (Within from until), λ i j d below short. absurd (omega (arith, short)))
each_within from until (touch ∷ touches) rise =
    let rest = each_within (touch.position + 1) until touches rise.1 in (
      All-cons (Within from until) touch touches rise.0
          (λ k d short. (
            omega (arith, rise.0.0, (rest.0 k d short).0),
            (rest.0 k d short).1,
            (rest.0 k d short).2,
          )),
      AllPairs-cons Rises touch touches (λ k d short. omega (arith, (rest.0 k d short).0)) rest.1,
    )

-- the touch of one more event
touch_within : (from position : ℕ) (event : Event) → from ≤ position → IsLawfulEvent event →
    RiseWithin from (position + 1) (touches_at position event)
touch_within from position (Edited user (event.Put path bytes)) le lawful =
    ((le, omega arith, lawful.1.0), tt)
touch_within from position (Edited user (event.MakeDir path)) le lawful =
    ((le, omega arith, lawful.1), tt)
touch_within from position (Edited user (event.Remove path)) le lawful =
    ((le, omega arith, lawful.1), tt)
touch_within from position (Edited user (event.Chmod path mode)) le lawful =
    ((le, omega arith, lawful.1.0), tt)
touch_within from position (Began session) le lawful = tt
touch_within from position (Replaced token path since new) le lawful =
    ((le, omega arith, lawful.1), tt)

more_within : (from position : ℕ) (touches : List Touch) (event : Event) → from ≤ position →
    IsLawfulEvent event → RiseWithin from position touches →
    RiseWithin from (position + 1) (touches ++ touches_at position event)
more_within from position [] event le lawful rise = touch_within from position event le lawful
more_within from position (touch ∷ touches) event le lawful rise = (
  (rise.0.0, omega (arith, rise.0.1), rise.0.2),
  more_within (touch.position + 1) position touches event (omega (arith, rise.0.1)) lawful rise.1,
)

-- without the first of them, they rise from above the last that is gone
dropped : (count from until : ℕ) (touches : List Touch) → from ≤ until →
    RiseWithin from until touches → (above_last from (take count touches) ≤ until)
    × RiseWithin (above_last from (take count touches)) until (drop count touches)
dropped zero from until touches le rise = (le, rise)
dropped (suc count) from until [] le rise = (le, tt)
dropped (suc count) from until (touch ∷ touches) le rise =
    dropped count (touch.position + 1) until touches (omega (arith, rise.0.1)) rise.1

kept : (limit count : ℕ) → count - (count - limit) ≤ limit
kept limit count = omega arith

-- ---- all but the tree

record IsSoundPast (standing : Standing) : Type 0 where
  pub position : standing.position ≤ greatest
  pub floor : standing.floor ≤ standing.position
  pub fence : IsFence standing.session standing.token
  pub count : length standing.touches ≤ most_touches
  pub touches : RiseWithin standing.floor standing.position standing.touches

past_after : (standing : Standing) (event : Event) → IsSoundPast standing →
    IsAllowedAt standing event → IsSoundPast (standing_after standing event)
past_after s event is allowed =
    let touches = s.touches ++ touches_at s.position event in
    let count = surplus most_touches touches in
    let short = before_greatest s event allowed.not_refused in
    let left = dropped count s.floor (s.position + 1) touches (omega (arith, is.floor))
    (more_within s.floor s.position s.touches event is.floor allowed.lawful is.touches) in
    record {
      position = omega (arith, short);
      floor = left.0;
      fence = fence_after s event is.fence allowed;
      count =
          subst (λ n. n ≤ most_touches) (sym (length-drop count touches))
          (kept most_touches (length touches));
      touches = left.1;
    }

past_of_all : (standing : Standing) (events : List Event) → IsSoundPast standing →
    AllAllowedAt standing events → IsSoundPast (fold standing_after standing events)
past_of_all s [] is all = is
past_of_all s (event ∷ events) is all =
    past_of_all (standing_after s event) events (past_after s event is all.0) all.1

-- the standing after events that are allowed in turn after a lawful image is what an image may hold
pub stays_sound : (version : Version) (first last : Standing) (events : List Event) →
    IsStandingIn version first → AllAllowedIn version first events →
    last ≡ fold standing_after first events → IsTree last.tree →
    fits_replica last.tree ≡ true → IsStanding last
stays_sound version first last events is all same tree fits =
    let past = subst IsSoundPast (sym same) (past_of_all first events (record {
      position = is.position;
      floor = is.floor;
      fence = (is.session, is.token);
      count = is.count;
      touches = in_turn first.floor first.position first.touches is.touches is.rising;
    }) (all_allowed_now version first events all)) in
    let within = each_within last.floor last.position last.touches past.touches in
    record {
      tree = tree;
      fits = fits;
      old = λ two. absurd (cc two);
      position = past.position;
      floor = past.floor;
      session = past.fence.0;
      token = past.fence.1;
      count = past.count;
      touches = within.0;
      rising = within.1;
    }

-- what an image keeps of a history is what an image may hold
pub history-is_standing : (history : History) → IsHistory history → IsStanding (standing_of history)
history-is_standing history lawful =
    stays_sound current_version (standing_of []) (standing_of history) history new
    ((standing_allows [] history).1 lawful) (standing_goes_on [] history)
    (history-is_tree history lawful) (history_fits history lawful)
  where
    new : IsStanding (standing_of [])
    new = record {
      tree = history-is_tree [] tt;
      fits = history_fits [] tt;
      old = λ two. absurd (cc two);
      position = omega arith;
      floor = omega arith;
      session = omega arith;
      token = tt;
      count = omega arith;
      touches = λ i d short. absurd (omega (arith, short));
      rising = λ i j d below short. absurd (omega (arith, short));
    }

-- so the image of a history stands for it
pub image_stands : ImageStands
image_stands pair history lawful = record {
  lawful = lawful;
  gives = record {
    first = standing_of history;
    events = [];
    sound = history-is_standing history lawful;
    image_is = refl;
    payloads_are = refl;
    allowed = tt;
    last = refl;
  };
}
