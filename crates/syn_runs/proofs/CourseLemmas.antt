-- What a step does to the coordinator's session, its archive and its reports.
use Rattle.std.proofs.Common.{◌≡◌, ◌≢◌, ℕ, List, [], ◌∷◌, ◌++◌, map, filter_map, refl, sym, ap, ◌∙◌}
use Rattle.std.proofs.Common.{subst, Option, Some, None, append-nil, inl, inr, ◌⊎◌}
use Rattle.std.specs.Prelude.{Contains, IfSome}
use Rattle.syn_model.specs.Event.{Event}
use Rattle.syn_model.specs.Archive.{Archive, Kept, CanKeep}
use Rattle.syn_runs.specs.Picture.{session_after}
use Rattle.syn_runs.specs.World.{Step}
use Rattle.syn_model.specs.Refusal.{Refusal}
use Rattle.syn_machine.specs.Side.{Request, Reply}
use Rattle.syn_machine.specs.Network.{Which, Left, Right, Sent, Answers}
use Rattle.syn_machine.specs.Planning.{Planned, Log}
use Rattle.syn_runs.specs.Acknowledged.{Ack, Happened, Kept_by, kept_in}
use Rattle.syn_runs.specs.Picture.{Picture, SessionPicture, SidePicture, CoordinatorPicture}
use Rattle.syn_runs.specs.Picture.{set_side, TakesRequest, answered, request_failed}
use Rattle.syn_runs.specs.Picture.{request_cut, IsDueAfter, IsExpected, HasPlan, GoesOnFrom}
use Rattle.syn_runs.specs.Picture.{plan_of, StartsFrom, IsNext, IsNothing, AllCanKeep}
use Rattle.syn_runs.specs.Picture.{CoordinatorGoes, Reports, Ends, EndsUnanswered, Follows}
use Rattle.syn_runs.specs.Picture.{same, edits, opens, changes, serves, starts_session}
use Rattle.syn_runs.specs.Picture.{ticks_once, takes_answer, archive_changes, archive_opens}
use Rattle.syn_runs.specs.Picture.{archive_recovers}
use Rattle.syn_machine.specs.Machine.{Up}
use Rattle.syn_machine.proofs.Heard.{sent_at}
use Rattle.syn_runs.proofs.SettledLemmas.{running_or_none}
use Rattle.syn_runs.proofs.Invariant.{Plans, histories_of, IsHarmless, IsKept}
use Rattle.syn_runs.proofs.WorldLemmas.{kept_events, kept_kept}
use Rattle.syn_runs.proofs.CoordinatorRuns.{no_acks}

-- the session stays or is forgotten as something is kept or not; or it starts, waits or takes an
-- answer
pub data Course (old new : Picture) : Type 0 where
  beside : (acks : List Ack) → new.acknowledged ≡ old.acknowledged ++ acks →
      AllCanKeep old.coordinator.archive (filter_map kept_in acks) →
      (new.coordinator.running ≡ None)
      ⊎ ((new.coordinator.running ≡ old.coordinator.running) × (filter_map kept_in acks ≡ [])) →
      new.reports ≡ old.reports → new.log ≡ old.log → Course old new
  starts : (preference : Option Which) → CoordinatorGoes old [] (IsNext old.coordinator.archive)
      (StartsFrom preference old.coordinator.archive) new → new.reports ≡ old.reports →
      Course old new
  ticks : CoordinatorGoes old
      [] IsNothing (GoesOnFrom old.coordinator.running (plan_of old.coordinator.running)) new →
      Reports old new (plan_of old.coordinator.running) EndsUnanswered → Course old new
  takes : (from : Which) (session number : ℕ) (reply : Reply) (plan : List Planned) (logged : Log) →
      Contains old.sent (Answers from session number reply) →
      IsExpected old.coordinator.running from session number →
      HasPlan old.sent old.coordinator.archive old.log old.coordinator.running plan logged →
      CoordinatorGoes old logged (IsDueAfter old.coordinator.running plan from number reply)
      (GoesOnFrom old.coordinator.running plan) new → Reports old new plan (Ends new plan) →
      Course old new

-- the first of these, which is no matter of what was refused
pub record IsAside (old new : Picture) : Type 0 where
  pub acks : List Ack
  pub added : new.acknowledged ≡ old.acknowledged ++ acks
  pub can : AllCanKeep old.coordinator.archive (filter_map kept_in acks)
  pub runs : (new.coordinator.running ≡ None)
      ⊎ ((new.coordinator.running ≡ old.coordinator.running) × (filter_map kept_in acks ≡ []))
  pub reports : new.reports ≡ old.reports
  pub log : new.log ≡ old.log

aside : (old new : Picture) → IsAside old new → Course old new
aside old new a = beside a.acks a.added a.can a.runs a.reports a.log

-- nothing is kept
nothing_kept : (a : Archive) (kept : List Kept) → kept ≡ [] → AllCanKeep a kept
nothing_kept a kept e = subst (AllCanKeep a) (sym e) tt

stays : (old new : Picture) → new ≡ old → Course old new
stays old new e =
    beside [] (ap (λ w. w.acknowledged) e ∙ sym (append-nil old.acknowledged)) tt
    (inr (ap (λ w. w.coordinator.running) e, refl)) (ap (λ w. w.reports) e) (ap (λ w. w.log) e)

-- a side's machine is set, and nothing else
pub record IsBeside (old new : Picture) : Type 0 where
  pub coordinator : new.coordinator ≡ old.coordinator
  pub acknowledged : new.acknowledged ≡ old.acknowledged
  pub reports : new.reports ≡ old.reports
  pub log : new.log ≡ old.log

set_beside : (old : Picture) (which : Which) (machine : SidePicture) →
    IsBeside old (set_side old which machine)
set_beside old Left machine =
    record { coordinator = refl; acknowledged = refl; reports = refl; log = refl }
set_beside old Right machine =
    record { coordinator = refl; acknowledged = refl; reports = refl; log = refl }

side_goes : (old new : Picture) (which : Which) (machine : SidePicture) (sent : Sent)
    (events : List Event) → new ≡ record (set_side old which machine)
    { sent = sent; acknowledged = old.acknowledged ++ map (λ event. Happened which event) events } →
    IsAside old new
side_goes old new which machine sent events e =
    let b = set_beside old which machine in
    let none = kept_events which events in
    record {
      acks = map (λ event. Happened which event) events;
      added = ap (λ w. w.acknowledged) e;
      can = nothing_kept old.coordinator.archive _ none;
      runs = inr (ap (λ w. w.coordinator.running) e ∙ ap (λ c. c.running) b.coordinator, none);
      reports = ap (λ w. w.reports) e ∙ b.reports;
      log = ap (λ w. w.log) e ∙ b.log;
    }

side_says : (old new : Picture) (which : Which) (machine : SidePicture) (sent : Sent) →
    new ≡ record (set_side old which machine) { sent = sent } → Course old new
side_says old new which machine sent e =
    let b = set_beside old which machine in
    beside [] (ap (λ w. w.acknowledged) e ∙ (b.acknowledged ∙ sym (append-nil old.acknowledged))) tt
    (inr (ap (λ w. w.coordinator.running) e ∙ ap (λ c. c.running) b.coordinator, refl))
    (ap (λ w. w.reports) e ∙ b.reports) (ap (λ w. w.log) e ∙ b.log)

besides : (old world new : Picture) → new ≡ world → IsBeside old world → IsAside old new
besides old world new e b = record {
  acks = [];
  added = ap (λ w. w.acknowledged) e ∙ (b.acknowledged ∙ sym (append-nil old.acknowledged));
  can = tt;
  runs = inr (ap (λ w. w.coordinator.running) e ∙ ap (λ c. c.running) b.coordinator, refl);
  reports = ap (λ w. w.reports) e ∙ b.reports;
  log = ap (λ w. w.log) e ∙ b.log;
}

side_set : (old new : Picture) (which : Which) (machine : SidePicture) →
    new ≡ set_side old which machine → IsAside old new
side_set old new which machine e =
    besides old (set_side old which machine) new e (set_beside old which machine)

takes_request : (old new : Picture) (which : Which) (session number : ℕ) (request : Request) →
    TakesRequest old which session number request new → Course old new
takes_request old new which session number request (answered a) =
    aside old new (side_goes old new which _ _ a.events a.result)
takes_request old new which session number request (request_failed event would e) =
    side_says old new which _ _ e
takes_request old new which session number request (request_cut event would e) =
    aside old new (side_set old new which _ e)

-- the coordinator's machine alone changes, and keeps this
alone : (old new : Picture) (machine : CoordinatorPicture) (kept : List Kept) →
    AllCanKeep old.coordinator.archive kept →
    (machine.running ≡ None) ⊎ ((machine.running ≡ old.coordinator.running) × (kept ≡ [])) → new
    ≡ record old { coordinator = machine; acknowledged = old.acknowledged ++ map Kept_by kept } →
    IsAside old new
alone old new machine kept can runs e =
    let is = kept_kept kept in
    record {
      acks = map Kept_by kept;
      added = ap (λ w. w.acknowledged) e;
      can = subst (AllCanKeep old.coordinator.archive) (sym is) can;
      runs =
          elim runs as (λ _. (new.coordinator.running ≡ None) ⊎ ((new.coordinator.running
          ≡ old.coordinator.running) × (filter_map kept_in (map Kept_by kept) ≡ []))) [
            | inl none ↦ inl (ap (λ w. w.coordinator.running) e ∙ none)
            | inr on ↦ inr (ap (λ w. w.coordinator.running) e ∙ on.0, is ∙ on.1)
          ];
      reports = ap (λ w. w.reports) e;
      log = ap (λ w. w.log) e;
    }

module _ (plans : Plans) (old : Picture) (k : IsKept plans old) (new : Picture) where
  none_runs : (kept : Kept) → old.coordinator.writing ≡ Some kept → old.coordinator.running ≡ None
  none_runs kept w =
      (subst (λ o. IfSome o (λ kept. (old.coordinator.status ≢ Up) × (old.coordinator.running
      ≡ None) × CanKeep old.coordinator.archive kept × IsHarmless plans (histories_of old) kept))
      w k.coordinator.writing).1

  still : (running : Option SessionPicture) (kept : List Kept) → kept ≡ [] →
      (running ≡ old.coordinator.running) ⊎ (running ≡ None) →
      (running ≡ None) ⊎ ((running ≡ old.coordinator.running) × (kept ≡ []))
  still running kept nothing (inl is) = inr (is, nothing)
  still running kept nothing (inr none) = inl none

  pub course : {step : Step} {told : List Refusal} → Follows old new step told → Course old new
  course (same step told idle e) = stays old new e
  course (edits which user edit machine events allowed up g e) =
      aside old new (side_goes old new which machine _ events e)
  course (opens which step machine events by g e) =
      aside old new (side_goes old new which machine _ events e)
  course (changes which step status told settles e) =
      aside old new (side_set old new which _ e)
  course (serves message which session number request at g) =
      takes_request old new which session number request g
  course (starts_session preference up none g some reports) = starts preference g reports
  course (ticks_once running is g reports status again) = ticks g reports
  course
      (takes_answer message from session number reply plan logged at expected made g reports
      heard) =
      takes from session number reply plan logged (sent_at old.sent message _ at) expected made g
      reports
  course (archive_changes step status told settles e) =
      aside old new
      (alone old new _ [] tt (still (session_after status old.coordinator.running) [] refl
      (running_or_none status old.coordinator.running)) (no_acks plans old k new _ e))
  course (archive_opens step by e) =
      aside old new (alone old new _ [] tt (inr (refl, refl)) (no_acks plans old k new _ e))
  course (archive_recovers step kept by w can e) =
      aside old new (alone old new _ (kept ∷ []) (can, tt) (inl (none_runs kept w)) e)
