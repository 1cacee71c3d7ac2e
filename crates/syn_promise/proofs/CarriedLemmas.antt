-- What a replacement puts has the marks that its session saw at its source.
use Rattle.std.proofs.Common.{◌≡◌, ◌⊎◌, ◌∙◌, ℕ, zero, suc, List, [], ◌∷◌, ◌++◌}
use Rattle.std.proofs.Common.{refl, sym, ap, subst, inl, inr, arith, append-nil, filter_map}
use Rattle.std.proofs.Common.{slice_get}
use Rattle.std.specs.Prelude.{All, Contains}
use Rattle.std.proofs.lemmas.List.{append_cancel_left}
use Rattle.std.proofs.lemmas.List.Elements.{All-nil, All-append, All-cons, All-weaker}
use Rattle.std.proofs.lemmas.List.Elements.{Contains-append_left, Contains-append_right}
use Rattle.syn_model.specs.Path.{Path}
use Rattle.syn_model.specs.Tree.{Tree}
use Rattle.syn_model.specs.Event.{Token, Event, Edited, Began, Replaced}
use Rattle.syn_model.specs.History.{History, IsAllowed}
use Rattle.syn_model.specs.Refusal.{Refusal}
use Rattle.syn_machine.specs.Network.{Which, Left, Right}
use Rattle.syn_runs.specs.World.{Step}
use Rattle.syn_runs.specs.Acknowledged.{Ack, Happened, Kept_by, Stores, history_of, event_at}
use Rattle.syn_runs.specs.Acknowledged.{stores_after}
use Rattle.syn_machine.specs.Planning.{Log}
use Rattle.syn_runs.specs.Picture.{Picture, Follows}
use Rattle.syn_runs.specs.Headline.{StandsFor}
use Rattle.syn_runs.proofs.Invariant.{Plans, IsKept, IsSoundReplacement, histories_of}
use Rattle.syn_runs.proofs.Invariant.{IsSoundEvent}
use Rattle.syn_runs.proofs.StagedLemmas.{Moves}
use Rattle.syn_runs.proofs.AdvanceLemmas.{step_advances}
use Rattle.syn_promise.proofs.LeaveLemmas.{history_in}
use Rattle.syn_promise.proofs.RecordLemmas.{entry_in}
use Rattle.syn_promise.proofs.SessionLemmas.{history_more, stands_as, HasMarks}

-- each replacement that was acknowledged has the marks of its source
abbrev pub IsCarried : Log → Ack → Type 0
IsCarried log (Happened side (Edited user edit)) = Unit {0}
IsCarried log (Happened side (Began session)) = Unit {0}
IsCarried log (Happened side (Replaced token path since new)) = HasMarks log side token new
IsCarried log (Kept_by kept) = Unit {0}

carried_more : (log more : Log) (ack : Ack) → IsCarried log ack → IsCarried (log ++ more) ack
carried_more log more (Happened side (Edited user edit)) is = tt
carried_more log more (Happened side (Began session)) is = tt
carried_more log more (Happened side (Replaced token path since new)) is = record {
  made = is.made;
  of_session = (Contains-append_left log more is.made is.of_session.0, is.of_session.1);
  planned = is.planned;
  item = is.item;
  marks = is.marks;
}
carried_more log more (Kept_by kept) is = tt

-- a sound replacement has them
pub sound_marks : (plans : Plans) (histories : Which → History) (side : Which) (token : Token)
    (path : Path) (since : ℕ) (new : Tree) →
    IsSoundReplacement plans histories side token path since new → HasMarks plans side token new
sound_marks plans histories side token path since new sound =
    let entry = entry_in plans token.session token.item sound.planned sound.item in
    record {
      made = entry.0;
      of_session = entry.1;
      planned = sound.planned;
      item = ap (λ plan. slice_get plan token.item) entry.2 ∙ sound.item;
      marks = sym sound.carries;
    }

-- an event that was acknowledged is one of its side
event_among : (side : Which) (event : Event) (acks : List Ack) →
    Contains acks (Happened side event) → Contains (filter_map (event_at side) acks) event
event_among side event [] c = absurd (omega (arith, c.1))
event_among Left event (Happened Left one ∷ acks) (zero, within, e) =
    let same : one ≡ event = cc in (zero, omega arith, same)
event_among Right event (Happened Right one ∷ acks) (zero, within, e) =
    let same : one ≡ event = cc in (zero, omega arith, same)
event_among Left event (Happened Right one ∷ acks) (zero, within, e) =
    let x : Happened Right one ≡ Happened Left event = e in cc
event_among Right event (Happened Left one ∷ acks) (zero, within, e) =
    let x : Happened Left one ≡ Happened Right event = e in cc
event_among Left event (Kept_by kept ∷ acks) (zero, within, e) =
    let x : Kept_by kept ≡ Happened Left event = e in cc
event_among Right event (Kept_by kept ∷ acks) (zero, within, e) =
    let x : Kept_by kept ≡ Happened Right event = e in cc
event_among Left event (Happened Left one ∷ acks) (suc i, within, e) =
    Contains-append_right (one ∷ []) (filter_map (event_at Left) acks) event
    (event_among Left event acks (i, omega (arith, within), e))
event_among Right event (Happened Right one ∷ acks) (suc i, within, e) =
    Contains-append_right (one ∷ []) (filter_map (event_at Right) acks) event
    (event_among Right event acks (i, omega (arith, within), e))
event_among Left event (Happened Right one ∷ acks) (suc i, within, e) =
    event_among Left event acks (i, omega (arith, within), e)
event_among Right event (Happened Left one ∷ acks) (suc i, within, e) =
    event_among Right event acks (i, omega (arith, within), e)
event_among Left event (Kept_by kept ∷ acks) (suc i, within, e) =
    event_among Left event acks (i, omega (arith, within), e)
event_among Right event (Kept_by kept ∷ acks) (suc i, within, e) =
    event_among Right event acks (i, omega (arith, within), e)

-- each of a list has what each that it contains has
all_of : (P : Ack → Type 0) (acks : List Ack) → ((ack : Ack) → Contains acks ack → P ack) →
    All P acks
all_of P [] have = All-nil P
all_of P (ack ∷ acks) have = All-cons P ack acks (have ack (zero, omega arith, refl))
    (all_of P acks (λ one c. have one (Contains-append_right (ack ∷ []) acks one c)))

not_in_none : (event : Event) → Contains [] event → ⊥
not_in_none event c = omega (arith, c.1)

module _ (before : Stores) (plans : Plans) (old new : Picture) (k : IsKept plans old)
    (was : StandsFor before old) (now : StandsFor before new) (more : List Ack)
    (added : new.acknowledged ≡ old.acknowledged ++ more) where
  -- what a side acknowledges is what its history has more
  events_are : (side : Which) →
      histories_of new side ≡ histories_of old side ++ filter_map (event_at side) more
  events_are side = sym (history_in new side)
      ∙ (ap (λ s. history_of s side) (stands_as before new now)
      ∙ (ap (λ acks. history_of (stores_after before acks) side) added
      ∙ (history_more before old.acknowledged more side
      ∙ ap (λ h. h ++ filter_map (event_at side) more)
      (sym (ap (λ s. history_of s side) (stands_as before old was)) ∙ history_in old side))))

  none_there : (side : Which) → histories_of new side ≡ histories_of old side →
      filter_map (event_at side) more ≡ []
  none_there side same = sym (append_cancel_left (histories_of old side) []
      (filter_map (event_at side) more)
      (append-nil (histories_of old side) ∙ (sym same ∙ events_are side)))

  carried_at : (side : Which) (event : Event) → Contains (filter_map (event_at side) more) event →
      (histories_of new side ≡ histories_of old side) ⊎ ((event : Event)
      × IsAllowed (histories_of old side) event
      × IsSoundEvent plans (histories_of old) old.coordinator.archive side event
      × (histories_of new side ≡ histories_of old side ++ event ∷ [])) →
      IsSoundEvent plans (histories_of old) old.coordinator.archive side event
  carried_at side event c (inl same) = absurd (not_in_none event
      (subst (λ events. Contains events event) (none_there side same) c))
  carried_at side event c (inr (one, allowed, sound, longer)) =
      subst (IsSoundEvent plans (histories_of old) old.coordinator.archive side)
      (only one event (subst (λ events. Contains events event)
      (append_cancel_left (histories_of old side) (filter_map (event_at side) more) (one ∷ [])
      (sym (events_are side) ∙ longer)) c)) sound
    where
      only : (one event : Event) → Contains (one ∷ []) event → one ≡ event
      only one event (zero, within, e) = e
      only one event (suc i, within, e) = absurd (omega (arith, within))

  carried_in : (which : Which) →
      Moves plans old.coordinator.archive (histories_of old) (histories_of new) which →
      (side : Which) (event : Event) → Contains (filter_map (event_at side) more) event →
      IsSoundEvent plans (histories_of old) old.coordinator.archive side event
  carried_in Left moves Left event c = carried_at Left event c moves.here
  carried_in Right moves Right event c = carried_at Right event c moves.here
  carried_in Left moves Right event c = carried_at Right event c (inl moves.there)
  carried_in Right moves Left event c = carried_at Left event c (inl moves.there)

  carried_of : (which : Which) →
      Moves plans old.coordinator.archive (histories_of old) (histories_of new) which →
      (ack : Ack) → Contains more ack → IsCarried plans ack
  carried_of which moves (Happened side (Edited user edit)) c = tt
  carried_of which moves (Happened side (Began session)) c = tt
  carried_of which moves (Happened side (Replaced token path since part)) c =
      sound_marks plans (histories_of old) side token path since part
      (carried_in which moves side (Replaced token path since part)
      (event_among side (Replaced token path since part) more c))
  carried_of which moves (Kept_by kept) c = tt

  pub step_carried : {step : Step} {told : List Refusal} → Follows old new step told →
      All (IsCarried old.log) old.acknowledged → All (IsCarried new.log) new.acknowledged
  step_carried g carried =
      let a = step_advances plans old k new g in
      let now = all_of (IsCarried plans) more (carried_of a.which a.moves) in
      let both = All-append (IsCarried old.log) old.acknowledged more carried
      (subst (λ log. All (IsCarried log) more) (sym k.logged) now) in
      subst (λ log. All (IsCarried log) new.acknowledged) (sym a.logs)
      (All-weaker (IsCarried old.log) (IsCarried (old.log ++ a.logged))
      (carried_more old.log a.logged) new.acknowledged
      (subst (All (IsCarried old.log)) (sym added) both))
