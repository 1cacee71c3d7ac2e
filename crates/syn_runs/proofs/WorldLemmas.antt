-- What is acknowledged is what the machines stand for.
use Rattle.std.proofs.Common.{◌≡◌, ℕ, List, [], ◌∷◌, ◌++◌, map, filter_map, refl, sym, ap, ap₂, ◌∙◌}
use Rattle.std.proofs.Common.{subst, Option, None, append-nil, append_assoc}
use Rattle.std.proofs.lemmas.List.Elements.{filter_map-append}
use Rattle.syn_model.specs.Event.{Event, Edited}
use Rattle.syn_model.specs.History.{History}
use Rattle.syn_model.specs.Archive.{Archive, Kept, after_kept, archive_of}
use Rattle.syn_model.specs.Refusal.{Refusal}
use Rattle.syn_runs.specs.Picture.{FollowsAll}
use Rattle.syn_runs.specs.World.{Step}
use Rattle.syn_machine.specs.Network.{Which, Left, Right, Message, Answers}
use Rattle.syn_runs.specs.Acknowledged.{Ack, Happened, Kept_by, event_at, kept_in, Stores}
use Rattle.syn_machine.specs.Report.{Report}
use Rattle.syn_machine.specs.Side.{Request, Refused}
use Rattle.syn_model.specs.Refusal.{Device}
use Rattle.syn_machine.specs.Planning.{Log}
use Rattle.syn_runs.specs.Picture.{SessionPicture, Picture, SidePicture, CoordinatorPicture}
use Rattle.syn_runs.specs.Picture.{side_of, set_side, Writes, written, failed, cut, Opens}
use Rattle.syn_runs.specs.Picture.{opened, recovered, TakesRequest, answered, request_failed}
use Rattle.syn_runs.specs.Picture.{request_cut, CoordinatorGoes, Follows, same, edits, opens}
use Rattle.syn_runs.specs.Picture.{changes, serves, starts_session, ticks_once, takes_answer}
use Rattle.syn_runs.specs.Picture.{archive_changes, archive_opens, archive_recovers}
use Rattle.syn_runs.specs.Picture.{nothing_more, one_more}
use Rattle.syn_machine.specs.Machine.{Up}
use Rattle.syn_runs.specs.Headline.{StandsFor}

left_left : (es : List Event) → filter_map (event_at Left) (map (λ e. Happened Left e) es) ≡ es
left_left [] = refl
left_left (e ∷ es) = ap (λ w. e ∷ w) (left_left es)

right_right : (es : List Event) → filter_map (event_at Right) (map (λ e. Happened Right e) es) ≡ es
right_right [] = refl
right_right (e ∷ es) = ap (λ w. e ∷ w) (right_right es)

left_right : (es : List Event) → filter_map (event_at Left) (map (λ e. Happened Right e) es) ≡ []
left_right [] = refl
left_right (e ∷ es) = left_right es

right_left : (es : List Event) → filter_map (event_at Right) (map (λ e. Happened Left e) es) ≡ []
right_left [] = refl
right_left (e ∷ es) = right_left es

pub kept_events : (which : Which) (es : List Event) →
    filter_map kept_in (map (λ e. Happened which e) es) ≡ []
kept_events which [] = refl
kept_events which (e ∷ es) = kept_events which es

pub kept_kept : (ks : List Kept) → filter_map kept_in (map (λ k. Kept_by k) ks) ≡ ks
kept_kept [] = refl
kept_kept (k ∷ ks) = ap (λ w. k ∷ w) (kept_kept ks)

event_kept : (which : Which) (ks : List Kept) →
    filter_map (event_at which) (map (λ k. Kept_by k) ks) ≡ []
event_kept Left [] = refl
event_kept Right [] = refl
event_kept Left (k ∷ ks) = event_kept Left ks
event_kept Right (k ∷ ks) = event_kept Right ks

pub archive-append : (a : Archive) (xs ys : List Kept) →
    archive_of a (xs ++ ys) ≡ archive_of (archive_of a xs) ys
archive-append a [] ys = refl
archive-append a (x ∷ xs) ys = archive-append (after_kept a x) xs ys

-- a history that goes on as its acknowledged events do
goes_on : (before : History) (which : Which) (acks more : List Ack) (old new : History)
    (es : List Event) → old ≡ before ++ filter_map (event_at which) acks →
    filter_map (event_at which) more ≡ es → new ≡ old ++ es →
    new ≡ before ++ filter_map (event_at which) (acks ++ more)
goes_on before which acks more old new es o m n =
    n ∙ (ap₂ (λ a b. a ++ b) o (sym m)
    ∙ (append_assoc before (filter_map (event_at which) acks) (filter_map (event_at which) more)
    ∙ ap (λ w. before ++ w) (sym (filter_map-append (event_at which) acks more))))

stays : (before : History) (which : Which) (acks more : List Ack) (old : History) →
    old ≡ before ++ filter_map (event_at which) acks → filter_map (event_at which) more ≡ [] →
    old ≡ before ++ filter_map (event_at which) (acks ++ more)
stays before which acks more old o m =
    goes_on before which acks more old old [] o m (sym (append-nil old))

archive_goes : (before : Archive) (acks more : List Ack) (old new : Archive) (ks : List Kept) →
    old ≡ archive_of before (filter_map kept_in acks) → filter_map kept_in more ≡ ks →
    new ≡ archive_of old ks → new ≡ archive_of before (filter_map kept_in (acks ++ more))
archive_goes before acks more old new ks o m n =
    n ∙ (ap₂ archive_of o (sym m)
    ∙ (sym (archive-append before (filter_map kept_in acks) (filter_map kept_in more))
    ∙ ap (archive_of before) (sym (filter_map-append kept_in acks more))))

-- a side that goes on by the events that are acknowledged
pub side_goes : (before : Stores) (old : Picture) (which : Which) (machine : SidePicture)
    (es : List Event) (messages : List Message) (new : Picture) → StandsFor before old →
    machine.side.history ≡ (side_of old which).side.history ++ es →
    new ≡ record (set_side old which machine) {
      sent = old.sent ++ messages;
      acknowledged =
          old.acknowledged ++ map (λ event. Happened which event) es;
    } → StandsFor before new
side_goes before old Left machine es messages new s h e = subst (StandsFor before) (sym e) (record {
  left =
      goes_on before.left Left old.acknowledged (map (λ event. Happened Left event) es)
      old.left.side.history machine.side.history es s.left (left_left es) h;
  right =
      stays before.right Right old.acknowledged
      (map (λ event. Happened Left event) es) old.right.side.history s.right (right_left es);
  archive =
      archive_goes before.archive old.acknowledged (map (λ event. Happened Left event) es)
      old.coordinator.archive old.coordinator.archive [] s.archive (kept_events Left es) refl;
})
side_goes before old Right machine es messages new s h e =
    subst (StandsFor before) (sym e) (record {
      left =
          stays before.left Left old.acknowledged
          (map (λ event. Happened Right event) es) old.left.side.history s.left (left_right es);
      right =
          goes_on before.right Right old.acknowledged (map (λ event. Happened Right event) es)
          old.right.side.history machine.side.history es s.right (right_right es) h;
      archive =
          archive_goes before.archive old.acknowledged (map (λ event. Happened Right event) es)
          old.coordinator.archive old.coordinator.archive [] s.archive (kept_events Right es) refl;
    })

-- a side whose history stays
side_stays : (before : Stores) (old : Picture) (which : Which) (machine : SidePicture)
    (sent : List Message) (new : Picture) → StandsFor before old →
    machine.side.history ≡ (side_of old which).side.history →
    new ≡ record (set_side old which machine) { sent = sent } → StandsFor before new
side_stays before old Left machine sent new s h e =
    subst (StandsFor before) (sym e)
    (record { left = h ∙ s.left; right = s.right; archive = s.archive })
side_stays before old Right machine sent new s h e =
    subst (StandsFor before) (sym e)
    (record { left = s.left; right = h ∙ s.right; archive = s.archive })

writes_history : (m : SidePicture) (event : Event) (new : SidePicture) (es : List Event) →
    Writes m event new es → new.side.history ≡ m.side.history ++ es
writes_history m event _ _ written = refl
writes_history m event _ _ failed = sym (append-nil m.side.history)
writes_history m event _ _ cut = sym (append-nil m.side.history)

opens_history : (m : SidePicture) (new : SidePicture) (es : List Event) → Opens m new es →
    new.side.history ≡ m.side.history ++ es
opens_history m _ _ opened = sym (append-nil m.side.history)
opens_history m _ _ (recovered event is allowed) = refl

-- the coordinator goes on by what it keeps
pub coordinator_goes : (before : Stores) (old : Picture) (machine : CoordinatorPicture)
    (ks : List Kept) (sent : List Message) (reports : List (Report × ℕ)) (log : Log)
    (new : Picture) →
    StandsFor before old → machine.archive ≡ archive_of old.coordinator.archive ks →
    new ≡ record old {
      coordinator = machine;
      sent = sent;
      acknowledged =
          old.acknowledged ++ map Kept_by ks;
      reports = reports;
      log = log;
    } → StandsFor before new
coordinator_goes before old machine ks sent reports log new s h e =
    subst (StandsFor before) (sym e) (record {
      left =
          stays before.left Left old.acknowledged (map Kept_by ks) old.left.side.history s.left
          (event_kept Left ks);
      right =
          stays before.right Right old.acknowledged (map Kept_by ks) old.right.side.history s.right
          (event_kept Right ks);
      archive =
          archive_goes before.archive old.acknowledged
          (map Kept_by ks) old.coordinator.archive machine.archive ks s.archive (kept_kept ks) h;
    })

coordinator_steps : (before : Stores) (old : Picture) (logged : Log) (IsDue_now : Kept → Type 0)
    (RunsOn : Option SessionPicture → Type 0) (new : Picture) → StandsFor before old →
    CoordinatorGoes old logged IsDue_now RunsOn new → StandsFor before new
coordinator_steps before old logged IsDue_now RunsOn new s g =
    coordinator_goes before old g.machine g.kept (old.sent ++ g.messages) (old.reports ++ g.reports)
    (old.log ++ logged) new s g.keeps.archive g.result

same_world : (before : Stores) (old new : Picture) → StandsFor before old → new ≡ old →
    StandsFor before new
same_world before old new s e = subst (StandsFor before) (sym e) s

-- a world whose machine is set has the messages that it had
sent_stays : (old : Picture) (which : Which) (machine : SidePicture) →
    set_side old which machine ≡ record (set_side old which machine) { sent = old.sent }
sent_stays old Left machine = refl
sent_stays old Right machine = refl

takes_request : (before : Stores) (old : Picture) (which : Which) (session number : ℕ)
    (request : Request) (new : Picture) → StandsFor before old →
    TakesRequest old which session number request new → StandsFor before new
takes_request before old which session number request new s (answered a) =
    side_goes before old which (record (side_of old which) { side = a.served.side }) a.events
    (Answers which session number a.served.reply ∷ []) new s a.added a.result
takes_request before old which session number request new s (request_failed event would e) =
    side_stays before old which _
    (old.sent ++ Answers which session number (Refused Device) ∷ []) new s refl e
takes_request before old which session number request new s (request_cut event would e) =
    side_stays before old which _ old.sent new s refl (e ∙ sent_stays old which _)

pub step_stands : (before : Stores) (old new : Picture) {step : Step} {told : List Refusal} →
    StandsFor before old → Follows old new step told → StandsFor before new
step_stands before old new s (same step told idle e) = same_world before old new s e
step_stands before old new s (edits which user edit machine events allowed up g e) =
    side_goes before old which machine events
    [] new s (writes_history (side_of old which) (Edited user edit) machine events g) e
step_stands before old new s (opens which step machine events by g e) =
    side_goes before old which machine events
    [] new s (opens_history (side_of old which) machine events g) e
step_stands before old new s (changes which step status told settles e) =
    side_stays before old which _ old.sent new s refl (e ∙ sent_stays old which _)
step_stands before old new s (serves message which session number request at g) =
    takes_request before old which session number request new s g
step_stands before old new s (starts_session preference up none g some reports) =
    coordinator_steps before old [] _ _ new s g
step_stands before old new s (ticks_once running is g reports status again) =
    coordinator_steps before old [] _ _ new s g
step_stands before old new s
    (takes_answer message from session number reply plan logged at expected made g reports heard) =
    coordinator_steps before old logged _ _ new s g
step_stands before old new s (archive_changes step status told settles e) =
    subst (StandsFor before) (sym e)
    (record { left = s.left; right = s.right; archive = s.archive })
step_stands before old new s (archive_opens step by e) =
    subst (StandsFor before) (sym e)
    (record { left = s.left; right = s.right; archive = s.archive })
step_stands before old new s (archive_recovers step kept by is can e) =
    coordinator_goes before old (record old.coordinator
    { status = Up; archive = after_kept old.coordinator.archive kept; writing = None })
    (kept ∷ []) old.sent old.reports old.log new s refl e

-- a whole run
pub run_stands : (before : Stores) (old new : Picture) {steps : List Step} {told : List Refusal} →
    FollowsAll old steps told new → StandsFor before old → StandsFor before new
run_stands before old _ (nothing_more _) s = s
run_stands before old _ (one_more _ between new _ _ _ _ g more) s =
    run_stands before between new more (step_stands before old between s g)
