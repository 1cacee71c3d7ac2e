-- Events that are spelled alike are one, and an image with payloads gives one standing.
use Rattle.std.proofs.Common.{◌≡◌, Bool, true, false, List, [], ◌∷◌, ◌++◌, map, fold, refl, sym, ap}
use Rattle.std.proofs.Common.{ap₂, ◌∙◌, subst, true≢false}
use Rattle.syn_model.specs.Path.{Bytes}
use Rattle.syn_model.specs.Event.{Event}
use Rattle.syn_model.specs.Standing.{Standing, standing_after, IsAllowedIn, AllAllowedIn}
use Rattle.syn_model.specs.Version.{Version}
use Rattle.syn_model.specs.Spelling.{event_spelling_in}
use Rattle.syn_wire.specs.Laws.{NoEventBeginsAnother}
use Rattle.syn_image.specs.Images.{NoImageBeginsAnother}
use Rattle.syn_replica.specs.Readings.{AddsEvent, Replays, OneIsGiven, AllowedIsSpelled}
use Rattle.syn_replica.specs.Readings.{EventsAreTold}

first_payload : List Bytes → Bytes
first_payload [] = []
first_payload (x ∷ xs) = x

other_payloads : List Bytes → List Bytes
other_payloads [] = []
other_payloads (x ∷ xs) = xs

is_row : List Bytes → Bool
is_row [] = true
is_row (x ∷ xs) = false

pub events_told : NoEventBeginsAnother → EventsAreTold
events_told tell version event other h g e =
    (tell version event other [] [] h g (ap (λ xs. xs ++ []) e)).0

module _ (told : EventsAreTold) (spelled : AllowedIsSpelled) (version : Version) where
  same_allowed : (standing : Standing) (event other : Event) → IsAllowedIn version standing event →
      IsAllowedIn version standing other →
      event_spelling_in version event ≡ event_spelling_in version other → event ≡ other
  same_allowed standing event other h g e =
      told version event other (spelled version standing event h) (spelled version standing other g)
      e

  -- rows of events that are allowed in turn, and spelled alike, are one
  all_alike : (standing : Standing) (events others : List Event) → AllAllowedIn version standing
      events →
      AllAllowedIn version standing others →
      map (event_spelling_in version) events ≡ map (event_spelling_in version) others →
      events ≡ others
  unfolding is_row first_payload other_payloads
  all_alike standing [] [] h g e = refl
  all_alike standing [] (other ∷ others) h g e = absurd (true≢false (ap is_row e))
  all_alike standing (event ∷ events) [] h g e = absurd (true≢false (sym (ap is_row e)))
  all_alike standing (event ∷ events) (other ∷ others) h g e =
      let same = same_allowed standing event other h.0 g.0 (ap first_payload e) in
      ap₂ (λ x xs. x ∷ xs) same (all_alike (standing_after standing event) events others h.1
      (subst (λ x. AllAllowedIn version (standing_after standing x) others) (sym same) g.1)
      (ap other_payloads e))

  -- what comes next of events that are allowed in turn, after those that some payloads are
  pub next_event : (standing : Standing) (events read : List Event) (payload : Bytes)
      (rest : List Bytes) → AllAllowedIn version standing events → AllAllowedIn version standing
      read →
      map (event_spelling_in version) events
      ≡ map (event_spelling_in version) read ++ payload ∷ rest → (event : Event)
      × (payload ≡ event_spelling_in version event)
      × IsAllowedIn version (fold standing_after standing read) event
  unfolding is_row first_payload other_payloads
  next_event standing [] [] payload rest all done e = absurd (true≢false (ap is_row e))
  next_event standing [] (r ∷ read) payload rest all done e = absurd (true≢false (ap is_row e))
  next_event standing (event ∷ events) [] payload rest all done e =
      (event, sym (ap first_payload e), all.0)
  next_event standing (event ∷ events) (r ∷ read) payload rest all done e =
      let same = same_allowed standing event r all.0 done.0 (ap first_payload e) in
      next_event (standing_after standing r) events read payload rest
      (subst (λ x. AllAllowedIn version (standing_after standing x) events) same all.1) done.1
      (ap other_payloads e)

-- an image with its payloads
pub one_given : EventsAreTold → AllowedIsSpelled → NoImageBeginsAnother → OneIsGiven
one_given told spelled images version image payloads p q s t hp hq a b =
    let first = (images version (p, a.first) (q, b.first) []
    [] (hp, a.sound) (hq, b.sound) (ap (λ xs. xs ++ []) (sym a.image_is ∙ b.image_is))).0 in
    let start : a.first ≡ b.first = ap (λ x. x.1) first in
    let events = all_alike told spelled version b.first a.events b.events
    (subst (λ x. AllAllowedIn version x a.events) start a.allowed) b.allowed
    (sym a.payloads_are ∙ b.payloads_are) in (
      ap (λ x. x.0) first,
      a.last
          ∙ (ap₂ (λ x es. fold standing_after x es) start events ∙ sym b.last),
    )

-- one more event
more_allowed : {version : Version} (standing : Standing) (events : List Event) (event : Event) →
    AllAllowedIn version standing events → IsAllowedIn version (fold standing_after standing events)
    event →
    AllAllowedIn version standing (events ++ event ∷ [])
more_allowed standing [] event all allowed = (allowed, tt)
more_allowed standing (e ∷ events) event all allowed =
    (all.0, more_allowed (standing_after standing e) events event all.1 allowed)

fold_more : (standing : Standing) (events : List Event) (event : Event) →
    fold standing_after standing (events ++ event ∷ [])
    ≡ standing_after (fold standing_after standing events) event
fold_more standing [] event = refl
fold_more standing (e ∷ events) event = fold_more (standing_after standing e) events event

module _ (version : Version) where
  map_one_more : (events : List Event) (event : Event) →
      map (event_spelling_in version) (events ++ event ∷ [])
      ≡ map (event_spelling_in version) events ++ event_spelling_in version event ∷ []
  map_one_more [] event = refl
  map_one_more (e ∷ events) event =
      ap (λ xs. event_spelling_in version e ∷ xs) (map_one_more events event)

  pub replays_nothing : (standing : Standing) → Replays version standing [] standing
  replays_nothing standing = record { events = []; spelled = refl; allowed = tt; gives = refl }

  pub replays_more : (first mid last : Standing) (payloads : List Bytes) (payload : Bytes) →
      Replays version first payloads mid → AddsEvent version mid payload last →
      Replays version first (payloads ++ payload ∷ []) last
  replays_more first mid last payloads payload r adds = record {
    events = r.events ++ adds.event ∷ [];
    spelled =
        ap₂ (λ xs x. xs ++ x ∷ []) r.spelled adds.spelled ∙ sym (map_one_more r.events adds.event);
    allowed =
        more_allowed first r.events adds.event r.allowed
        (subst (λ s. IsAllowedIn version s adds.event) r.gives adds.allowed);
    gives =
        adds.gives ∙ (ap (λ s. standing_after s adds.event) r.gives
        ∙ sym (fold_more first r.events adds.event));
  }
