-- A run of the picture does what its steps ask for, and nothing else.
use Rattle.std.proofs.Common.{◌≡◌, ◌≢◌, ◌⊎◌, ◌∙◌, ℕ, List, [], ◌∷◌, ◌++◌, map, Option, Some, None}
use Rattle.std.proofs.Common.{refl, sym, ap, ap₂, subst, inl, inr, append-nil, append_assoc, ◌+◌}
use Rattle.std.specs.Prelude.{All, Contains, IfSome, IsSomeAnd}
use Rattle.std.proofs.lemmas.List.{append_cancel_left}
use Rattle.std.proofs.lemmas.List.Elements.{All-nil, All-cons, All-append, All-head, All-tail}
use Rattle.std.proofs.lemmas.List.Elements.{All-weaker}
use Rattle.std.proofs.lemmas.List.Elements.{Contains-append_left, Contains-push}
use Rattle.std.proofs.lemmas.Option.{same_Some}
use Rattle.syn_model.specs.Refusal.{Refusal}
use Rattle.syn_model.specs.Event.{Edit, Event, Edited, Began, Replaced}
use Rattle.syn_model.specs.History.{History}
use Rattle.syn_model.specs.Archive.{Kept}
use Rattle.syn_machine.specs.Machine.{Status, Up, Halted}
use Rattle.syn_machine.specs.Side.{Side, Served, Request, IsLawfulRequest}
use Rattle.syn_machine.specs.Network.{Which, Left, Right, Message, Asks, Answers}
use Rattle.syn_machine.specs.Planning.{Planned, SessionPlan, Log}
use Rattle.syn_runs.specs.Acknowledged.{Ack, Happened, Kept_by}
use Rattle.syn_runs.specs.World.{Machine, At, Coordinator, Step, Edits, Start, Deliver}
use Rattle.syn_runs.specs.World.{Tick}
use Rattle.syn_runs.specs.Picture.{Picture, SidePicture, SessionPicture, side_of, set_side}
use Rattle.syn_runs.specs.Picture.{Follows, FollowsAll, nothing_more, one_more, CoordinatorGoes}
use Rattle.syn_runs.specs.Picture.{TakesRequest, answered, request_failed, request_cut}
use Rattle.syn_runs.specs.Picture.{GoesOnFrom, ended, goes_on, HasPlan, IsExpected, StartsFrom}
use Rattle.syn_runs.specs.Picture as picture
use Rattle.syn_runs.specs.Headline.{IsStart}
use Rattle.syn_runs.proofs.OutcomeLemmas.{Outcome, refuses, begins_again, begins, lists}
use Rattle.syn_runs.proofs.OutcomeLemmas.{lists_none, fetches, stages_first, stages_more}
use Rattle.syn_runs.proofs.OutcomeLemmas.{stages_again, done_again, replaces, outcome}
use Rattle.syn_runs.proofs.OutcomeLemmas.{any_outcome}
use Rattle.syn_runs.proofs.Invariant.{Plans, IsKept}
use Rattle.syn_machine.proofs.Heard.{sent_at}
use Rattle.syn_runs.proofs.SideSteps.{if_some}
use Rattle.syn_runs.proofs.View.{halted_not_up, down_not_up}
use Rattle.syn_runs.proofs.SettledLemmas.{running_or_none}
use Rattle.syn_runs.proofs.AdvanceLemmas.{step_advances}
use Rattle.syn_runs.proofs.WholeRuns.{no_plans, start_kept}
use Rattle.syn_promise.specs.Asked.{IsAskedEvent, IsAsked, EditsAreAsked, PreferencesAreAsked}
use Rattle.syn_promise.specs.Asked.{EditsAreMade, StartsAreMade}

-- all that a world acknowledged, was making and prefers was asked for by these steps
record AskedFor (steps : List Step) (world : Picture) : Type 0 where
  acks : All (IsAsked steps) world.acknowledged
  writing : (side : Which) → IfSome (side_of world side).writing (IsAskedEvent steps side)
  plans : All (λ made. Contains steps (Start made.preference)) world.log
  running : IfSome world.coordinator.running (λ r. Contains steps (Start r.preference))

-- so also by more steps

event_more : (steps more : List Step) (side : Which) (event : Event) →
    IsAskedEvent steps side event → IsAskedEvent (steps ++ more) side event
event_more steps more side (Edited user edit) asked = Contains-append_left steps more _ asked
event_more steps more side (Began session) asked = tt
event_more steps more side (Replaced token path since new) asked = tt

ack_more : (steps more : List Step) (ack : Ack) → IsAsked steps ack → IsAsked (steps ++ more) ack
ack_more steps more (Happened side event) asked = event_more steps more side event asked
ack_more steps more (Kept_by kept) asked = tt

asked_more : (steps more : List Step) (world : Picture) → AskedFor steps world →
    AskedFor (steps ++ more) world
asked_more steps more world h = record {
  acks = All-weaker (IsAsked steps) (IsAsked (steps ++ more)) (ack_more steps more)
      world.acknowledged h.acks;
  writing = λ side. if_some (side_of world side).writing (IsAskedEvent steps side)
      (IsAskedEvent (steps ++ more) side) (h.writing side)
      (λ event _ asked. event_more steps more side event asked);
  plans = All-weaker (λ made. Contains steps (Start made.preference))
      (λ made. Contains (steps ++ more) (Start made.preference))
      (λ made asked. Contains-append_left steps more _ asked) world.log h.plans;
  running = if_some world.coordinator.running (λ r. Contains steps (Start r.preference))
      (λ r. Contains (steps ++ more) (Start r.preference)) h.running
      (λ r _ asked. Contains-append_left steps more _ asked);
}

-- what a side adds for a request is no edit

nothing_added : (steps : List Step) (which : Which) (history events : History) →
    history ≡ history ++ events → All (IsAskedEvent steps which) events
nothing_added steps which history events e =
    subst (All (IsAskedEvent steps which))
    (append_cancel_left history [] events (append-nil history ∙ e))
    (All-nil (IsAskedEvent steps which))

one_added : (steps : List Step) (which : Which) (history events : History) (event : Event) →
    IsAskedEvent steps which event → history ++ event ∷ [] ≡ history ++ events →
    All (IsAskedEvent steps which) events
one_added steps which history events event asked e =
    subst (All (IsAskedEvent steps which)) (append_cancel_left history (event ∷ []) events e)
    (All-cons (IsAskedEvent steps which) event [] asked (All-nil (IsAskedEvent steps which)))

served_asked : (steps : List Step) (which : Which) (side : Side) (session : ℕ) (request : Request)
    (served : Served) (events : History) → Outcome side session request served →
    served.side.history ≡ side.history ++ events → All (IsAskedEvent steps which) events
served_asked steps which side session request _ events (refuses _ reason _) e =
    nothing_added steps which side.history events e
served_asked steps which side session request _ events (begins_again pair last) e =
    nothing_added steps which side.history events e
served_asked steps which side session request _ events (begins pair allowed) e =
    one_added steps which side.history events (Began session) tt e
served_asked steps which side session request _ events (lists path there) e =
    nothing_added steps which side.history events e
served_asked steps which side session request _ events (lists_none path none) e =
    nothing_added steps which side.history events e
served_asked steps which side session request _ events (fetches path since offset within quiet) e =
    nothing_added steps which side.history events e
served_asked steps which side session request _ events (stages_first item offset bytes zero) e =
    nothing_added steps which side.history events e
served_asked steps which side session request _ events
    (stages_more item offset bytes staging is same at) e =
    nothing_added steps which side.history events e
served_asked steps which side session request _ events (stages_again item offset bytes) e =
    nothing_added steps which side.history events e
served_asked steps which side session request _ events (done_again item path since size is) e =
    nothing_added steps which side.history events e
served_asked steps which side session request _ events
    (replaces item path since size new reads staged long within quiet allowed) e =
    one_added steps which side.history events _ tt e

-- what becomes of the sides

happened_asked : (steps : List Step) (which : Which) (events : List Event) →
    All (IsAskedEvent steps which) events →
    All (IsAsked steps) (map (λ event. Happened which event) events)
happened_asked steps which [] all = All-nil (IsAsked steps)
happened_asked steps which (event ∷ events) all =
    All-cons (IsAsked steps) (Happened which event) (map (λ event. Happened which event) events)
    (All-head (IsAskedEvent steps which) event events all)
    (happened_asked steps which events (All-tail (IsAskedEvent steps which) event events all))

kept_asked : (steps : List Step) (kept : List Kept) →
    All (IsAsked steps) (map (λ one. Kept_by one) kept)
kept_asked steps [] = All-nil (IsAsked steps)
kept_asked steps (one ∷ kept) = All-cons (IsAsked steps) (Kept_by one)
    (map (λ one. Kept_by one) kept) tt (kept_asked steps kept)

module _ (steps : List Step) (old : Picture) (h : AskedFor steps old) where
  -- a side's machine is this then
  with_side : (which : Which) (machine : SidePicture) →
      IfSome machine.writing (IsAskedEvent steps which) →
      AskedFor steps (set_side old which machine)
  with_side Left machine writing = record {
    acks = h.acks;
    writing = λ side. elim side as
        (λ side. IfSome (side_of (set_side old Left machine) side).writing
        (IsAskedEvent steps side)) [ Left ↦ writing | Right ↦ h.writing Right ];
    plans = h.plans;
    running = h.running;
  }
  with_side Right machine writing = record {
    acks = h.acks;
    writing = λ side. elim side as
        (λ side. IfSome (side_of (set_side old Right machine) side).writing
        (IsAskedEvent steps side)) [ Left ↦ h.writing Left | Right ↦ writing ];
    plans = h.plans;
    running = h.running;
  }

-- messages play no part
with_sent : (steps : List Step) (old : Picture) (sent : List Message) → AskedFor steps old →
    AskedFor steps (record old { sent = sent })
with_sent steps old sent h = record {
  acks = h.acks;
  writing = λ side. elim side as (λ side. IfSome (side_of (record old { sent = sent }) side).writing
      (IsAskedEvent steps side)) [ Left ↦ h.writing Left | Right ↦ h.writing Right ];
  plans = h.plans;
  running = h.running;
}

with_acks : (steps : List Step) (old : Picture) (acks : List Ack) → All (IsAsked steps) acks →
    AskedFor steps old → AskedFor steps (record old { acknowledged = acks })
with_acks steps old acks all h = record {
  acks = all;
  writing = λ side. elim side as
      (λ side. IfSome (side_of (record old { acknowledged = acks }) side).writing
      (IsAskedEvent steps side)) [ Left ↦ h.writing Left | Right ↦ h.writing Right ];
  plans = h.plans;
  running = h.running;
}

-- what becomes of the coordinator
module _ (steps : List Step) (old : Picture) (h : AskedFor steps old) where
  with_machine : (machine : picture.CoordinatorPicture) →
      IfSome machine.running (λ r. Contains steps (Start r.preference)) →
      AskedFor steps (record old { coordinator = machine })
  with_machine machine running = record {
    acks = h.acks;
    writing = λ side. elim side as
        (λ side. IfSome (side_of (record old { coordinator = machine }) side).writing
        (IsAskedEvent steps side)) [ Left ↦ h.writing Left | Right ↦ h.writing Right ];
    plans = h.plans;
    running = running;
  }

  coordinator_asked : (logged : Log) (D : Kept → Type 0)
      (R : Option SessionPicture → Type 0) (new : Picture) →
      (g : CoordinatorGoes old logged D R new) →
      All (λ made. Contains steps (Start made.preference)) logged →
      IfSome g.machine.running (λ r. Contains steps (Start r.preference)) → AskedFor steps new
  coordinator_asked logged D R new g plans running = subst (AskedFor steps) (sym g.result) (record {
    acks = All-append (IsAsked steps) old.acknowledged (map (λ one. Kept_by one) g.kept) h.acks
        (kept_asked steps g.kept);
    writing = λ side. elim side as (λ side. IfSome (side_of (record old {
      coordinator = g.machine;
      sent = old.sent ++ g.messages;
      acknowledged = old.acknowledged ++ map (λ one. Kept_by one) g.kept;
      reports = old.reports ++ g.reports;
      log = old.log ++ logged;
    }) side).writing (IsAskedEvent steps side)) [ Left ↦ h.writing Left | Right ↦ h.writing Right ];
    plans = All-append (λ made. Contains steps (Start made.preference)) old.log logged h.plans
        plans;
    running = running;
  })

  none_planned : All (λ (made : SessionPlan). Contains steps (Start made.preference)) []
  none_planned = All-nil (λ made. Contains steps (Start made.preference))

  -- a session prefers still what it preferred
  goes_asked : (o : Option SessionPicture) → IfSome o (λ r. Contains steps (Start r.preference)) →
      (plan : List Planned) (now : Option SessionPicture) → GoesOnFrom o plan now →
      IfSome now (λ r. Contains steps (Start r.preference))
  goes_asked None asked plan now none =
      subst (λ o. IfSome o (λ r. Contains steps (Start r.preference))) (sym none) tt
  goes_asked (Some r) asked plan _ ended = tt
  goes_asked (Some r) asked plan _ (goes_on next session_is prefers plan_is) =
      subst (λ p. Contains steps (Start p)) (sym prefers) asked

  plans_asked : (o : Option SessionPicture) → IfSome o (λ r. Contains steps (Start r.preference)) →
      (from : Which) (session number : ℕ) → IsExpected o from session number →
      (plan : List Planned) (logged : Log) →
      HasPlan old.sent old.coordinator.archive old.log o plan logged →
      All (λ made. Contains steps (Start made.preference)) logged
  plans_asked None asked from session number expected plan logged has = absurd expected
  plans_asked (Some r) asked from session number expected plan logged (inl (same, none)) =
      subst (All (λ made. Contains steps (Start made.preference))) (sym none) none_planned
  plans_asked (Some r) asked from session number expected plan logged
      (inr (made, makes, is, one)) =
      subst (All (λ made. Contains steps (Start made.preference))) (sym one)
      (All-cons (λ made. Contains steps (Start made.preference)) made []
      (subst (λ p. Contains steps (Start p)) (sym makes.prefers) asked) none_planned)

-- One step
module _ (plans : Plans) (old : Picture) (k : IsKept plans old) (done : List Step)
    (was : AskedFor done old) where
  module _ (step : Step) where
    abbrev all : List Step
    all = done ++ step ∷ []

    h : AskedFor all old
    h = asked_more done (step ∷ []) old was

    last : Contains all step
    last = Contains-push done step

    stays_asked : (new : Picture) → new ≡ old → AskedFor all new
    stays_asked new e = subst (AskedFor all) (sym e) h

    -- a side's machine goes on so, and acknowledges these
    side_asked : (which : Which) (machine : SidePicture) (messages : List Message)
        (events : List Event) (new : Picture) → IfSome machine.writing (IsAskedEvent all which) →
        All (IsAskedEvent all which) events → new ≡ record (set_side old which machine) {
          sent = old.sent ++ messages;
          acknowledged = old.acknowledged ++ map (λ event. Happened which event) events;
        } → AskedFor all new
    side_asked which machine messages events new writing asked e =
        let set = set_side old which machine in
        let more = map (λ event. Happened which event) events in
        let acks = All-append (IsAsked all) old.acknowledged more h.acks
        (happened_asked all which events asked) in
        subst (AskedFor all) (sym e) (with_acks all
        (record set { sent = old.sent ++ messages }) (old.acknowledged ++ more) acks
        (with_sent all set (old.sent ++ messages) (with_side all old h which machine writing)))

    lawful : (which : Which) (session number : ℕ) (request : Request) →
        Contains old.sent (Asks which session number request) → IsLawfulRequest session request
    lawful which session number request asked =
        (k.sound.asked which session number request asked).lawful

    would_asked : (which : Which) (session number : ℕ) (request : Request) (event : Event) →
        Contains old.sent (Asks which session number request) →
        picture.WouldAdd old.pair (side_of old which) session request event →
        IsAskedEvent all which event
    would_asked which session number request event asked would =
        All-head (IsAskedEvent all which) event []
        (served_asked all which (side_of old which).side session request would.served (event ∷ [])
        (outcome old.pair would.has_room (side_of old which).side session request would.served
        (lawful which session number request asked) would.serves) would.adds)

    request_asked : (which : Which) (session number : ℕ) (request : Request) (new : Picture) →
        Contains old.sent (Asks which session number request) →
        TakesRequest old which session number request new → AskedFor all new
    request_asked which session number request new asked (answered a) =
        side_asked which (record (side_of old which) { side = a.served.side })
        (Answers which session number a.served.reply ∷ []) a.events new (h.writing which)
        (served_asked all which (side_of old which).side session request a.served a.events
        (any_outcome (side_of old which).status old.pair a.has_room (side_of old which).side session
        request a.served (lawful which session number request asked) a.serves) a.added) a.result
    request_asked which session number request new asked (request_failed event would e) =
        let machine : SidePicture = record (side_of old which)
        { status = Halted; writing = Some event } in
        subst (AskedFor all) (sym e) (with_sent all (set_side old which machine) _
        (with_side all old h which machine (would_asked which session number request event asked
        would)))
    request_asked which session number request new asked (request_cut event would e) =
        subst (AskedFor all) (sym e) (with_side all old h which
        (picture.stopped (side_of old which) (Some event))
        (would_asked which session number request event asked would))

  step_asked : (new : Picture) {step : Step} {told : List Refusal} → Follows old new step told →
      AskedFor (done ++ step ∷ []) new
  step_asked new (picture.same step told idle e) = stays_asked step new e
  step_asked new (picture.edits which user edit machine events allowed up w e) =
      let step = Edits which user edit in
      let asks = written_asks step which user edit machine events (last step) (h step) w in
      side_asked step which machine [] events new asks.0 asks.1 e
    where
      written_asks : (step : Step) (which : Which) (user : ℕ) (edit : Edit)
          (machine : SidePicture) (events : List Event) →
          Contains (all step) (Edits which user edit) → AskedFor (all step) old →
          picture.Writes (side_of old which) (Edited user edit) machine events →
          IfSome machine.writing (IsAskedEvent (all step) which)
          × All (IsAskedEvent (all step) which) events
      written_asks step which user edit _ _ asked h picture.written = (
        h.writing which,
        All-cons (IsAskedEvent (all step) which) (Edited user edit) [] asked
            (All-nil (IsAskedEvent (all step) which)),
      )
      written_asks step which user edit _ _ asked h picture.failed =
          (asked, All-nil (IsAskedEvent (all step) which))
      written_asks step which user edit _ _ asked h picture.cut =
          (asked, All-nil (IsAskedEvent (all step) which))
  step_asked new (picture.opens which step machine events by opens e) =
      let asks = opened_asks step which machine events (h step) opens in
      side_asked step which machine [] events new asks.0 asks.1 e
    where
      opened_asks : (step : Step) (which : Which) (machine : SidePicture) (events : List Event) →
          AskedFor (all step) old → picture.Opens (side_of old which) machine events →
          IfSome machine.writing (IsAskedEvent (all step) which)
          × All (IsAskedEvent (all step) which) events
      opened_asks step which _ _ h picture.opened = (tt, All-nil (IsAskedEvent (all step) which))
      opened_asks step which _ _ h (picture.recovered event writing allowed) = (
        tt,
        All-cons (IsAskedEvent (all step) which) event []
            (subst (λ o. IfSome o (IsAskedEvent (all step) which)) writing (h.writing which))
            (All-nil (IsAskedEvent (all step) which)),
      )
  step_asked new (picture.changes which step status told settles e) =
      subst (AskedFor (all step)) (sym e)
      (with_side (all step) old (h step) which _ ((h step).writing which))
  step_asked new (picture.serves message which session number request at takes) =
      request_asked (Deliver message) which session number request new
      (sent_at old.sent message (Asks which session number request) at) takes
  step_asked new (picture.starts_session preference up none g some reports) =
      let step = Start preference in
      coordinator_asked (all step) old (h step) [] _ _ new g
      (none_planned (all step) old (h step))
      (if_some g.machine.running (λ r. (r.session ≡ old.coordinator.archive.last_session + 1)
      × (r.plan ≡ []) × (r.preference ≡ preference)) (λ r. Contains (all step) (Start r.preference))
      g.runs_on (λ r _ is. subst (λ p. Contains (all step) (Start p)) (sym is.2) (last step)))
  step_asked new (picture.ticks_once running is g reports status again) =
      let step = Tick in
      coordinator_asked (all step) old (h step) [] _ _ new g
      (none_planned (all step) old (h step))
      (goes_asked (all step) old (h step) old.coordinator.running (h step).running _
      g.machine.running g.runs_on)
  step_asked new
      (picture.takes_answer message from session number reply plan logged at expected made g reports
      heard) =
      let step = Deliver message in
      coordinator_asked (all step) old (h step) logged _ _ new g
      (plans_asked (all step) old (h step) old.coordinator.running (h step).running from session
      number expected plan logged made)
      (goes_asked (all step) old (h step) old.coordinator.running (h step).running plan
      g.machine.running g.runs_on)
  step_asked new (picture.archive_changes step status told settles e) =
      subst (AskedFor (all step)) (sym e) (with_machine (all step) old (h step) _
      (still_asked _ (running_or_none status old.coordinator.running)))
    where
      still_asked : (now : Option SessionPicture) → (now ≡ old.coordinator.running) ⊎ (now ≡ None) →
          IfSome now (λ r. Contains (all step) (Start r.preference))
      still_asked now (inl same) =
          subst (λ o. IfSome o (λ r. Contains (all step) (Start r.preference))) (sym same)
          (h step).running
      still_asked now (inr none) =
          subst (λ o. IfSome o (λ r. Contains (all step) (Start r.preference))) (sym none) tt
  step_asked new (picture.archive_opens step by e) =
      subst (AskedFor (all step)) (sym e) (with_machine (all step) old (h step) _ (h step).running)
  step_asked new (picture.archive_recovers step kept by writing can e) =
      subst (AskedFor (all step)) (sym e) (with_acks (all step) _
      (old.acknowledged ++ map (λ one. Kept_by one) (kept ∷ []))
      (All-append (IsAsked (all step)) old.acknowledged (map (λ one. Kept_by one) (kept ∷ []))
      (h step).acks (kept_asked (all step) (kept ∷ [])))
      (with_machine (all step) old (h step) _ (h step).running))

-- A whole run

run_asked : (plans : Plans) (old new : Picture) → IsKept plans old → (done : List Step) →
    AskedFor done old → {steps : List Step} {told : List Refusal} → FollowsAll old steps told new →
    AskedFor (done ++ steps) new
run_asked plans old _ k done h (nothing_more _) =
    subst (λ steps. AskedFor steps old) (sym (append-nil done)) h
run_asked plans old _ k done h (one_more _ between new step steps _ _ g more) =
    let a = step_advances plans old k between g in
    subst (λ all. AskedFor all new) (append_assoc done (step ∷ []) steps)
    (run_asked a.later between new a.kept (done ++ step ∷ [])
    (step_asked plans old k done h between g) more)

start_asked : (old : Picture) → IsStart old → AskedFor [] old
start_asked old s = record {
  acks = subst (All (IsAsked [])) (sym s.nothing_yet.1) (All-nil (IsAsked []));
  writing = λ side. elim side as
      (λ side. IfSome (side_of old side).writing (IsAskedEvent [] side)) [
        | Left ↦ subst (λ o. IfSome o (IsAskedEvent [] Left)) (sym s.left.1) tt
        | Right ↦ subst (λ o. IfSome o (IsAskedEvent [] Right)) (sym s.right.1) tt
      ];
  plans = subst (All (λ made. Contains [] (Start made.preference))) (sym s.nothing_yet.3)
      (All-nil (λ made. Contains [] (Start made.preference)));
  running = subst (λ o. IfSome o (λ r. Contains [] (Start r.preference))) (sym s.coordinator.0) tt;
}

all_asked : (steps : List Step) (told : List Refusal) (world : Picture) (start : Picture) →
    IsStart start → FollowsAll start steps told world → AskedFor steps world
all_asked steps told world start is follows =
    run_asked no_plans start world (start_kept start is) [] (start_asked start is) follows

pub edits_are_asked : EditsAreAsked
edits_are_asked before steps told world run =
    let h = all_asked steps told world run.start run.is_start run.follows in
    (h.acks, h.writing)

pub preferences_are_asked : PreferencesAreAsked
preferences_are_asked before steps told world run =
    let h = all_asked steps told world run.start run.is_start run.follows in
    (h.plans, h.running)

-- What is refused for nothing is made

-- no idle step is an edit that is refused for nothing, at a side that is up
idle_no_edit : (old : Picture) (step : Step) (told : List Refusal) → picture.IsIdle old step told →
    (side : Which) (user : ℕ) (edit : Edit) → step ≡ Edits side user edit → told ≡ [] →
    (side_of old side).status ≢ Up
idle_no_edit old _ _ (picture.lost step machine there down) side user edit is none up =
    let there_is : Some (At side) ≡ Some machine = sym (ap picture.lost_on is) ∙ there in
    let same : At side ≡ machine = same_Some _ _ there_is in
    down_not_up (sym (ap (picture.status_of old) same ∙ down) ∙ up)
idle_no_edit old _ _ (picture.refused step reason is_refused) side user edit is none up = cc
idle_no_edit old _ _ (picture.is_open machine not_down) side user edit is none up = cc
idle_no_edit old _ _ (picture.no_memory_to_open machine down) side user edit is none up = cc
idle_no_edit old _ _ (picture.no_message message at) side user edit is none up = cc
idle_no_edit old _ _ (picture.to_no_side message which session number request at down) side user
    edit is none up =
    cc
idle_no_edit old _ _ (picture.not_expected message from session number reply at other) side user
    edit is none up =
    cc
idle_no_edit old _ _ (picture.no_session none_runs) side user edit is none up = cc

idle_no_start : (old : Picture) (step : Step) (told : List Refusal) → picture.IsIdle old step told →
    (preference : Option Which) → step ≡ Start preference → told ≡ [] →
    old.coordinator.status ≢ Up
idle_no_start old _ _ (picture.lost step machine there down) preference is none up =
    let there_is : Some Coordinator ≡ Some machine = sym (ap picture.lost_on is) ∙ there in
    let same : Coordinator ≡ machine = same_Some _ _ there_is in
    down_not_up (sym (ap (picture.status_of old) same ∙ down) ∙ up)
idle_no_start old _ _ (picture.refused step reason is_refused) preference is none up = cc
idle_no_start old _ _ (picture.is_open machine not_down) preference is none up = cc
idle_no_start old _ _ (picture.no_memory_to_open machine down) preference is none up = cc
idle_no_start old _ _ (picture.no_message message at) preference is none up = cc
idle_no_start old _ _ (picture.to_no_side message which session number request at down) preference
    is none up =
    cc
idle_no_start old _ _ (picture.not_expected message from session number reply at other) preference
    is none up =
    cc
idle_no_start old _ _ (picture.no_session none_runs) preference is none up = cc

-- what settles or opens a machine is no edit and no start
IsOther : Step → Type 0
IsOther step = ((side : Which) (user : ℕ) (edit : Edit) → step ≡ Edits side user edit → ⊥)
    × ((preference : Option Which) → step ≡ Start preference → ⊥)

settles_other : (machine : Machine) (was : Status) (step : Step) (status : Status)
    (told : List Refusal) → picture.Settles machine was step status told → IsOther step
unfolding IsOther
settles_other machine was _ _ _ (picture.compacts status up) =
    (λ side user edit e. cc, λ preference e. cc)
settles_other machine was _ _ _ (picture.arms_failure call) =
    (λ side user edit e. cc, λ preference e. cc)
settles_other machine was _ _ _ (picture.arms_stop calls) =
    (λ side user edit e. cc, λ preference e. cc)
settles_other machine was _ _ _ (picture.stops up) =
    (λ side user edit e. cc, λ preference e. cc)
settles_other machine was _ _ _ (picture.not_opened down) =
    (λ side user edit e. cc, λ preference e. cc)
settles_other machine was _ _ _ (picture.not_reopened up) =
    (λ side user edit e. cc, λ preference e. cc)
settles_other machine was _ _ _ (picture.reopening_cut up) =
    (λ side user edit e. cc, λ preference e. cc)
settles_other machine was _ _ _ (picture.no_memory_to_reopen up) =
    (λ side user edit e. cc, λ preference e. cc)

opening_other : (machine : Machine) (was : Status) (step : Step) →
    picture.IsOpening machine was step → IsOther step
unfolding IsOther
opening_other machine was _ (picture.opening down) =
    (λ side user edit e. cc, λ preference e. cc)
opening_other machine was _ (picture.reopening up) =
    (λ side user edit e. cc, λ preference e. cc)

-- the status of a side that writes, as the picture has it
set_status : (old : Picture) (which : Which) (machine : SidePicture) (sent : List Message)
    (acks : List Ack) → (side_of (record (set_side old which machine)
    { sent = sent; acknowledged = acks }) which).status ≡ machine.status
set_status old Left machine sent acks = refl
set_status old Right machine sent acks = refl

written_made : (old : Picture) (which : Which) (event : Event) (machine : SidePicture)
    (events : List Event) → picture.Writes (side_of old which) event machine events →
    machine.status ≡ Up → events ≡ event ∷ []
written_made old which event _ _ picture.written up = refl
written_made old which event _ _ picture.failed up = absurd (halted_not_up up)
written_made old which event _ _ picture.cut up = absurd (down_not_up up)

edit_made : (old new : Picture) {step : Step} {told : List Refusal} → Follows old new step told →
    (side : Which) (user : ℕ) (edit : Edit) → step ≡ Edits side user edit → told ≡ [] →
    (side_of new side).status ≡ Up →
    new.acknowledged ≡ old.acknowledged ++ Happened side (Edited user edit) ∷ []
unfolding IsOther
edit_made old new (picture.same step told idle e) side user edit is none up =
    absurd (idle_no_edit old step told idle side user edit is none
    (ap (λ w. (side_of w side).status) (sym e) ∙ up))
edit_made old new (picture.edits which by change machine events allowed was w e) side user edit is
    none up =
    let same_side : which ≡ side = cc in
    let same_event : Edited by change ≡ Edited user edit = cc in
    let now : machine.status ≡ Up = sym (ap (λ w. (side_of w which).status) e
    ∙ set_status old which machine (old.sent ++ [])
    (old.acknowledged ++ map (λ event. Happened which event) events))
    ∙ (ap (λ s. (side_of new s).status) same_side ∙ up) in
    let made = written_made old which (Edited by change) machine events w now in
    ap (λ w. w.acknowledged) e
    ∙ (ap (λ es. old.acknowledged ++ map (λ event. Happened which event) es) made
    ∙ ap₂ (λ s event. old.acknowledged ++ Happened s event ∷ []) same_side same_event)
edit_made old new (picture.opens which step machine events by opens e) side user edit is none
    up =
    absurd ((opening_other (At which) _ step by).0 side user edit is)
edit_made old new (picture.changes which step status told settles e) side user edit is none up =
    absurd ((settles_other (At which) _ step status told settles).0 side user edit is)
edit_made old new (picture.serves message which session number request at takes) side user edit is
    none up =
    cc
edit_made old new (picture.starts_session preference was none_runs g some reports) side user edit is
    none up =
    cc
edit_made old new (picture.ticks_once running runs g reports status again) side user edit is none
    up =
    cc
edit_made old new
    (picture.takes_answer message from session number reply plan logged at expected made g reports
    heard) side user edit is none up =
    cc
edit_made old new (picture.archive_changes step status told settles e) side user edit is none up =
    absurd ((settles_other Coordinator _ step status told settles).0 side user edit is)
edit_made old new (picture.archive_opens step by e) side user edit is none up =
    absurd ((opening_other Coordinator _ step by).0 side user edit is)
edit_made old new (picture.archive_recovers step kept by writing can e) side user edit is none
    up =
    absurd ((opening_other Coordinator _ step by).0 side user edit is)

pub edits_are_made : EditsAreMade
edits_are_made old new side user edit follows up =
    edit_made old new follows side user edit refl refl up

some_prefers : (preference : Option Which) (running : Option SessionPicture)
    (P : SessionPicture → Type 0) → IsSomeAnd running P →
    IfSome running (λ r. r.preference ≡ preference) →
    IsSomeAnd running (λ r. r.preference ≡ preference)
some_prefers preference None P some is = some
some_prefers preference (Some r) P some is = is

start_made : (old new : Picture) {step : Step} {told : List Refusal} → Follows old new step told →
    (preference : Option Which) → step ≡ Start preference → told ≡ [] →
    new.coordinator.status ≡ Up →
    IsSomeAnd new.coordinator.running (λ running. running.preference ≡ preference)
unfolding IsOther
start_made old new (picture.same step told idle e) preference is none up =
    absurd (idle_no_start old step told idle preference is none
    (ap (λ w. w.coordinator.status) (sym e) ∙ up))
start_made old new (picture.starts_session other was none_runs g some reports) preference is none
    up =
    let same : other ≡ preference = cc in
    let runs : IfSome new.coordinator.running (λ r. r.preference ≡ other) =
    subst (λ o. IfSome o (λ r. r.preference ≡ other))
    (sym (ap (λ w. w.coordinator.running) g.result))
    (if_some g.machine.running (λ r. (r.session ≡ old.coordinator.archive.last_session + 1)
    × (r.plan ≡ []) × (r.preference ≡ other)) (λ r. r.preference ≡ other) g.runs_on
    (λ r _ at. at.2)) in
    some_prefers preference new.coordinator.running (picture.BeginsBoth old.pair) (some up)
    (subst (λ p. IfSome new.coordinator.running (λ r. r.preference ≡ p)) same runs)
start_made old new (picture.edits which by change machine events allowed was w e) preference is none
    up =
    cc
start_made old new (picture.opens which step machine events by opens e) preference is none up =
    absurd ((opening_other (At which) _ step by).1 preference is)
start_made old new (picture.changes which step status told settles e) preference is none up =
    absurd ((settles_other (At which) _ step status told settles).1 preference is)
start_made old new (picture.serves message which session number request at takes) preference is none
    up =
    cc
start_made old new (picture.ticks_once running runs g reports status again) preference is none up =
    cc
start_made old new
    (picture.takes_answer message from session number reply plan logged at expected made g reports
    heard) preference is none up =
    cc
start_made old new (picture.archive_changes step status told settles e) preference is none up =
    absurd ((settles_other Coordinator _ step status told settles).1 preference is)
start_made old new (picture.archive_opens step by e) preference is none up =
    absurd ((opening_other Coordinator _ step by).1 preference is)
start_made old new (picture.archive_recovers step kept by writing can e) preference is none up =
    absurd ((opening_other Coordinator _ step by).1 preference is)

pub starts_are_made : StartsAreMade
starts_are_made old new preference follows up = start_made old new follows preference refl refl up
