-- The rules allow each change of a run, as its machines stand.
use Rattle.std.proofs.Common.{◌≡◌, ◌∙◌, List, [], ◌∷◌, ◌++◌, map, filter_map, Option}
use Rattle.std.proofs.Common.{refl, sym, ap, subst}
use Rattle.std.proofs.lemmas.List.Elements.{filter_map-append}
use Rattle.syn_model.specs.Event.{Event}
use Rattle.syn_model.specs.History.{History, IsHistory, IsAllowed}
use Rattle.syn_model.specs.Archive.{Kept}
use Rattle.syn_machine.specs.Network.{Which, Left, Right}
use Rattle.syn_runs.specs.Acknowledged.{Ack, Happened, Kept_by, Stores, kept_in, history_of}
use Rattle.syn_runs.specs.Acknowledged.{stores_after, event_at}
use Rattle.syn_runs.specs.Picture.{Picture, SessionPicture, AllCanKeep, CoordinatorGoes}
use Rattle.syn_machine.specs.Planning.{Log}
use Rattle.syn_runs.specs.Headline.{StandsFor}
use Rattle.syn_runs.proofs.CourseLemmas.{Course, beside, starts, ticks, takes}
use Rattle.syn_runs.proofs.KeptLemmas.{can-append, can-parts}
use Rattle.syn_runs.proofs.TokenLemmas.{after_front}
use Rattle.syn_runs.proofs.WorldLemmas.{kept_kept}
use Rattle.syn_promise.specs.Laws.{IsAllowedBy}
use Rattle.syn_promise.proofs.SessionLemmas.{history_more}

-- An event

allowed_in : (history earlier later : History) (event : Event) → IsHistory history →
    history ≡ earlier ++ event ∷ later → IsAllowed earlier event
allowed_in history earlier later event h e =
    (after_front [] earlier (event ∷ later) (subst IsHistory e h)).0

-- a side's own event is the first of its events
own_first : (side : Which) (event : Event) (later : List Ack) →
    filter_map (event_at side) (Happened side event ∷ later)
    ≡ event ∷ filter_map (event_at side) later
own_first Left event later = refl
own_first Right event later = refl

-- What the archive keeps

-- it could keep in turn all that the run recorded
abbrev pub CouldKeep : Stores → List Ack → Type 0
CouldKeep before acks = AllCanKeep before.archive (filter_map kept_in acks)

module _ (before : Stores) (old new : Picture) (stands : StandsFor before old)
    (could : CouldKeep before old.acknowledged) where
  more_could : (acks : List Ack) → new.acknowledged ≡ old.acknowledged ++ acks →
      AllCanKeep old.coordinator.archive (filter_map kept_in acks) →
      CouldKeep before new.acknowledged
  more_could acks added can = subst (AllCanKeep before.archive)
      (sym (ap (filter_map kept_in) added
      ∙ filter_map-append kept_in old.acknowledged acks))
      (can-append before.archive (filter_map kept_in old.acknowledged) (filter_map kept_in acks)
      could (subst (λ archive. AllCanKeep archive (filter_map kept_in acks)) stands.archive can))

  goes_could : (logged : Log) (D : Kept → Type 0) (R : Option SessionPicture → Type 0) →
      CoordinatorGoes old logged D R new → CouldKeep before new.acknowledged
  goes_could logged D R g = more_could (map Kept_by g.kept) (ap (λ w. w.acknowledged) g.result)
      (subst (AllCanKeep old.coordinator.archive) (sym (kept_kept g.kept)) g.keeps.can)

  pub course_could : Course old new → CouldKeep before new.acknowledged
  course_could (beside acks added can runs reports logs) = more_could acks added can
  course_could (starts preference g reports) = goes_could _ _ _ g
  course_could (ticks g reports) = goes_could _ _ _ g
  course_could (takes from session number reply plan logged heard expected made g reports) =
      goes_could _ _ _ g

-- Each change of the run

module _ (before : Stores) (acks : List Ack)
    (histories : (side : Which) → IsHistory (history_of (stores_after before acks) side))
    (could : CouldKeep before acks) where
  pub allowed_by : (earlier later : List Ack) (ack : Ack) → acks ≡ earlier ++ ack ∷ later →
      IsAllowedBy (stores_after before earlier) ack
  allowed_by earlier later (Happened side event) e =
      allowed_in (history_of (stores_after before acks) side)
      (history_of (stores_after before earlier) side) (filter_map (event_at side) later) event
      (histories side) (ap (λ all. history_of (stores_after before all) side) e
      ∙ (history_more before earlier (Happened side event ∷ later) side
      ∙ ap (λ events. history_of (stores_after before earlier) side ++ events)
      (own_first side event later)))
  allowed_by earlier later (Kept_by kept) e =
      (can-parts before.archive (filter_map kept_in earlier) (kept ∷ filter_map kept_in later)
      (subst (AllCanKeep before.archive) (ap (filter_map kept_in) e
      ∙ filter_map-append kept_in earlier (Kept_by kept ∷ later)) could)).1.0
