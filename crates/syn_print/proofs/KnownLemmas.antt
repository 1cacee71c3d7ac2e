-- One event more after those that are told.
use Rattle.std.proofs.Common.{◌≡◌, ◌∙◌, ◌+◌, ◌++◌, ◌∷◌, [], ℕ, List, length, map, refl, sym, ap}
use Rattle.std.proofs.Common.{add-zero, add_assoc, ap₂, append_assoc, append-nil, arith}
use Rattle.std.proofs.Common.{length-append}
use Rattle.std.proofs.lemmas.List.{map-append}
use Rattle.syn_print.specs.Known.{AddsEvents, OfEvent, OfPath, entries_of, entry_of, events_from}
use Rattle.syn_print.specs.Known.{touched}
use Rattle.syn_print.specs.declared.log.Logged.{Logged}
use Rattle.syn_model.specs.Event.{Event}
use Rattle.syn_model.specs.Path.{Bytes}
use Rattle.syn_model.specs.Spelling.{event_spelling}
use Rattle.syn_model.specs.Standing.{Touch}

-- the entry of one more
pub entries_more : (all : List Logged) (one : Logged)
    → entries_of (all ++ one ∷ []) ≡ entries_of all ++ entry_of one ∷ []
entries_more all one = map-append entry_of all (one ∷ [])

-- one event more
events_more : (first last : ℕ) (events : List Event) (event : Event)
    → first + length events ≡ last → events_from first (events ++ event ∷ [])
    ≡ events_from first events ++ (last + 1, OfEvent event) ∷ []
events_more first last [] event at =
    ap (λ n. (n + 1, OfEvent event) ∷ []) (sym (add-zero first) ∙ at)
events_more first last (other ∷ more) event at =
    ap (λ es. (first + 1, OfEvent other) ∷ es)
    (events_more (first + 1) last more event (omega arith))

-- events that were added, up to this position
pub record AddsUpTo (first last : ℕ) (payloads : List Bytes) (old new : List Logged) : Type 0 where
  pub adds : AddsEvents first payloads old new
  pub at : first + length adds.events ≡ last

pub none_added : (first : ℕ) (old : List Logged) → AddsUpTo first first [] old old
none_added first old = record {
  adds = record { events = []; spelled = refl; added = sym (append-nil (entries_of old)) };
  at = add-zero first;
}

pub one_added : (first last : ℕ) (payloads : List Bytes) (payload : Bytes) (event : Event)
    (old new : List Logged) (one : Logged) → AddsUpTo first last payloads old new
    → event_spelling event ≡ payload → entry_of one ≡ (last + 1, OfEvent event)
    → AddsUpTo first (last + 1) (payloads ++ payload ∷ []) old (new ++ one ∷ [])
one_added first last payloads payload event old new one so_far spelled is = record {
  adds = record {
    events = so_far.adds.events ++ event ∷ [];
    spelled =
        ap (λ ps. ps ++ payload ∷ []) so_far.adds.spelled
        ∙ (ap (λ p. map event_spelling so_far.adds.events ++ p ∷ []) (sym spelled)
        ∙ sym (map-append event_spelling so_far.adds.events (event ∷ [])));
    added =
        entries_more new one
        ∙ (ap₂ (λ es e. es ++ e ∷ []) so_far.adds.added is
        ∙ (append_assoc (entries_of old) (events_from first so_far.adds.events)
        ((last + 1, OfEvent event) ∷ [])
        ∙ ap (λ es. entries_of old ++ es)
        (sym (events_more first last so_far.adds.events event so_far.at))));
  };
  at =
      ap (λ n. first + n) (length-append so_far.adds.events (event ∷ []))
      ∙ (sym (add_assoc first (length so_far.adds.events) 1) ∙ ap (λ n. n + 1) so_far.at);
}

-- the touches in two parts, and the events after them
pub told_in_all : (none one two all : List Logged) (older newer touches : List Touch)
    (first position : ℕ) (events : List Event) → none ≡ []
    → entries_of one ≡ entries_of none ++ touched older
    → entries_of two ≡ entries_of one ++ touched newer → older ++ newer ≡ touches
    → first ≡ position → entries_of all ≡ entries_of two ++ events_from first events
    → entries_of all ≡ touched touches ++ events_from position events
told_in_all none one two all older newer touches first position events nothing had_older had_newer
    are at told =
    let had : entries_of two ≡ touched touches =
    had_newer ∙ (ap (λ es. es ++ touched newer) (had_older
    ∙ ap (λ ls. entries_of ls ++ touched older) nothing)
    ∙ (sym (map-append (λ (touch : Touch). (touch.position + 1, OfPath touch.path)) older newer)
    ∙ ap touched are)) in
    told ∙ ap₂ (λ es n. es ++ events_from n events) had at
