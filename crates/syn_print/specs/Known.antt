-- What the disk of a replica tells of its last events.
use Rattle.std.specs.Prelude.{◌≡◌, ◌+◌, ℕ, List, [], ◌∷◌, ◌++◌, map, Ok}
use Rattle.syn_history.specs.Events.{event_of}
use Rattle.syn_journal.specs.Layout.{Value, meaning}
use Rattle.syn_print.specs.declared.log.Logged.{Logged}
use Rattle.syn_print.specs.declared.log.What.{What}
use Rattle.syn_print.specs.declared.log.What.TheVariants.{Touched, Whole}
use Rattle.syn_model.specs.Event.{Event}
use Rattle.syn_model.specs.Image.{IsStanding, image_spelling}
use Rattle.syn_model.specs.Path.{Bytes, Path}
use Rattle.syn_model.specs.Spelling.{event_spelling}
use Rattle.syn_model.specs.Standing.{Standing, Touch}

-- the path that an event changed, or all of the event
pub data Known : Type 0 where
  OfPath : (path : Path) → Known
  OfEvent : (event : Event) → Known

-- what is known, with the position that the replica had with the event
abbrev pub Entry : Type 0
Entry = ℕ × Known

abbrev pub known_of : What → Known
known_of (Touched path) = OfPath path
known_of (Whole event) = OfEvent (event_of event)

abbrev pub entry_of : Logged → Entry
entry_of logged = (logged.position, known_of logged.what)

abbrev pub entries_of : List Logged → List Entry
entries_of all = map entry_of all

-- the events that touched paths
abbrev pub touched : List Touch → List Entry
touched touches = map (λ touch. (touch.position + 1, OfPath touch.path)) touches

-- the events of a replica that had the position before the first of them
abbrev pub events_from : ℕ → List Event → List Entry
events_from position [] = []
events_from position (event ∷ more) =
    (position + 1, OfEvent event) ∷ events_from (position + 1) more

-- payloads are the spellings of events, which stand after what was there
pub record AddsEvents (first : ℕ) (payloads : List Bytes) (old new : List Logged)
    : Type 0 where
  pub events : List Event
  pub spelled : payloads ≡ map event_spelling events
  pub added : entries_of new ≡ entries_of old ++ events_from first events

-- A disk has the image of a standing, and after it the payloads of events. Of the events before
-- the image its last touches are told, and the others whole, the oldest first
pub record TellsLast (bytes : Bytes) (logged : List Logged) : Type 0 where
  pub value : Value
  pub means : meaning bytes ≡ Ok value
  pub pair : ℕ
  pub standing : Standing
  pub sound : IsStanding standing
  pub image : value.image ≡ image_spelling pair standing
  pub events : List Event
  pub payloads : value.payloads ≡ map event_spelling events
  pub told : entries_of logged ≡ touched standing.touches ++ events_from standing.position events
