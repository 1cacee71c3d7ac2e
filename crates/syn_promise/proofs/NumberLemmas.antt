-- Each session that runs, asks for something or plans was started by a step, with what it prefers.
use Rattle.std.proofs.Common.{◌≡◌, ◌⊎◌, ◌∙◌, ℕ, zero, suc, List, [], ◌∷◌, ◌++◌, map, Option, Some}
use Rattle.std.proofs.Common.{None, sym, ap, subst, inl, inr, arith, append-nil, filter_map}
use Rattle.std.proofs.Common.{◌+◌}
use Rattle.std.specs.Prelude.{All, Contains, IfSome}
use Rattle.std.proofs.lemmas.List.{append_cancel_left}
use Rattle.std.proofs.lemmas.List.Elements.{All-nil, All-cons, All-append}
use Rattle.std.proofs.lemmas.List.Elements.{All-weaker, Contains-append_left}
use Rattle.std.proofs.lemmas.List.Elements.{Contains-append_right, Contains-append_cases}
use Rattle.syn_model.specs.Refusal.{Refusal}
use Rattle.syn_model.specs.Archive.{Kept, Session, Recorded, RecordedDir}
use Rattle.syn_machine.specs.Side.{Request, Reply}
use Rattle.syn_machine.specs.Network.{Which, Left, Right, Asks, Answers, Sent}
use Rattle.syn_runs.specs.World.{Step, Start}
use Rattle.syn_runs.specs.Acknowledged.{Ack, Happened, Kept_by}
use Rattle.syn_machine.specs.Planning.{Planned, SessionPlan, Log}
use Rattle.syn_runs.specs.Picture.{Picture, SidePicture, SessionPicture, set_side, side_of}
use Rattle.syn_runs.specs.Picture.{Follows, CoordinatorGoes, TakesRequest, GoesOnFrom, ended}
use Rattle.syn_runs.specs.Picture.{goes_on, HasPlan, IsExpected, StartsFrom, AllOfSession}
use Rattle.syn_runs.specs.Picture.{IsOfSession, RunsOver}
use Rattle.syn_runs.specs.Picture as picture
use Rattle.syn_runs.specs.Headline.{IsStart}
use Rattle.syn_runs.proofs.SideSteps.{if_some}
use Rattle.syn_runs.proofs.SettledLemmas.{running_or_none}
use Rattle.syn_promise.specs.Steps.{Started, started_by}
use Rattle.syn_promise.proofs.StartedLemmas.{first_kept}

-- the session was started with this preference
abbrev IsKnown : List Started → SessionPicture → Type 0
IsKnown started r = Contains started (r.session, r.preference)

abbrev pub IsPlanKnown : List Started → SessionPlan → Type 0
IsPlanKnown started made = Contains started (made.session, made.preference)

pub record AllStarted (started : List Started) (world : Picture) : Type 0 where
  pub running : IfSome world.coordinator.running (IsKnown started)
  pub asked : (to : Which) (session number : ℕ) (request : Request) →
      Contains world.sent (Asks to session number request) →
      (preference : Option Which) × Contains started (session, preference)
  pub plans : All (IsPlanKnown started) world.log

-- the number that a start acknowledges is that of a session that it starts
number_started : (preference : Option Which) (session : ℕ) (acks : List Ack) →
    Contains acks (Kept_by (Session session)) →
    Contains (filter_map (started_by (Start preference)) acks) (session, preference)
number_started preference session [] c = absurd (omega (arith, c.1))
number_started preference session (Happened side event ∷ acks) (zero, within, e) =
    let x : Happened side event ≡ Kept_by (Session session) = e in cc
number_started preference session (Happened side event ∷ acks) (suc i, within, e) =
    number_started preference session acks (i, omega (arith, within), e)
number_started preference session (Kept_by (Session n) ∷ acks) (zero, within, e) =
    let same : n ≡ session = cc in (zero, omega arith, ap (λ n. (n, preference)) same)
number_started preference session (Kept_by (Session n) ∷ acks) (suc i, within, e) =
    Contains-append_right ((n, preference) ∷ [])
    (filter_map (started_by (Start preference)) acks) (session, preference)
    (number_started preference session acks (i, omega (arith, within), e))
number_started preference session (Kept_by (Recorded path marks) ∷ acks) (zero, within, e) =
    let x : Kept_by (Recorded path marks) ≡ Kept_by (Session session) = e in cc
number_started preference session (Kept_by (Recorded path marks) ∷ acks) (suc i, within, e) =
    number_started preference session acks (i, omega (arith, within), e)
number_started preference session (Kept_by (RecordedDir path) ∷ acks) (zero, within, e) =
    let x : Kept_by (RecordedDir path) ≡ Kept_by (Session session) = e in cc
number_started preference session (Kept_by (RecordedDir path) ∷ acks) (suc i, within, e) =
    number_started preference session acks (i, omega (arith, within), e)

no_message : (to : Which) (session number : ℕ) (request : Request) →
    Contains [] (Asks to session number request) → ⊥
no_message to session number request c = omega (arith, c.1)

no_answer : (from : Which) (s n : ℕ) (reply : Reply) (to : Which) (session number : ℕ)
    (request : Request) →
    Contains (Answers from s n reply ∷ []) (Asks to session number request) → ⊥
no_answer from s n reply to session number request (zero, within, e) =
    let x : Answers from s n reply ≡ Asks to session number request = e in cc
no_answer from s n reply to session number request (suc i, within, e) = omega (arith, within)

module _ (old : Picture) (started later : List Started) (h : AllStarted started old) where
  abbrev all : List Started
  all = started ++ later

  running_more : (o : Option SessionPicture) → IfSome o (IsKnown started) → IfSome o (IsKnown all)
  running_more None known = tt
  running_more (Some r) known = Contains-append_left started later (r.session, r.preference) known

  plans_more : All (IsPlanKnown all) old.log
  plans_more = All-weaker (IsPlanKnown started) (IsPlanKnown all)
      (λ made known. Contains-append_left started later (made.session, made.preference) known)
      old.log h.plans

  asked_more : (to : Which) (session number : ℕ) (request : Request) →
      Contains old.sent (Asks to session number request) →
      (preference : Option Which) × Contains all (session, preference)
  asked_more to session number request c =
      let known = h.asked to session number request c in
      (known.0, Contains-append_left started later (session, known.0) known.1)

  -- no request is sent
  beside_started : (new : Picture) (messages : Sent) → new.sent ≡ old.sent ++ messages →
      ((to : Which) (session number : ℕ) (request : Request) →
      Contains messages (Asks to session number request) → ⊥) → new.log ≡ old.log →
      (new.coordinator.running ≡ old.coordinator.running) ⊎ (new.coordinator.running ≡ None) →
      AllStarted all new
  beside_started new messages sent none log runs = record {
    running = goes runs;
    asked = λ to session number request c. by to session number request
        (Contains-append_cases old.sent messages (Asks to session number request)
        (subst (λ s. Contains s (Asks to session number request)) sent c));
    plans = subst (All (IsPlanKnown all)) (sym log) plans_more;
  }
    where
      goes : (new.coordinator.running ≡ old.coordinator.running)
          ⊎ (new.coordinator.running ≡ None) → IfSome new.coordinator.running (IsKnown all)
      goes (inl same) = subst (λ o. IfSome o (IsKnown all)) (sym same)
          (running_more old.coordinator.running h.running)
      goes (inr gone) = subst (λ o. IfSome o (IsKnown all)) (sym gone) tt

      by : (to : Which) (session number : ℕ) (request : Request) →
          Contains old.sent (Asks to session number request)
          ⊎ Contains messages (Asks to session number request) →
          (preference : Option Which) × Contains all (session, preference)
      by to session number request (inl was) = asked_more to session number request was
      by to session number request (inr is) = absurd (none to session number request is)

  -- nor anything else
  silent_started : (new : Picture) → new.sent ≡ old.sent → new.log ≡ old.log →
      (new.coordinator.running ≡ old.coordinator.running) ⊎ (new.coordinator.running ≡ None) →
      AllStarted all new
  silent_started new sent log runs =
      beside_started new [] (sent ∙ sym (append-nil old.sent)) no_message log runs

  side_started : (which : Which) (machine : SidePicture) (messages : Sent) (acks : List Ack)
      (new : Picture) → ((to : Which) (session number : ℕ) (request : Request) →
      Contains messages (Asks to session number request) → ⊥) →
      new ≡ record (set_side old which machine)
      { sent = old.sent ++ messages; acknowledged = acks } → AllStarted all new
  side_started Left machine messages acks new none e =
      beside_started new messages (ap (λ w. w.sent) e) none (ap (λ w. w.log) e)
      (inl (ap (λ w. w.coordinator.running) e))
  side_started Right machine messages acks new none e =
      beside_started new messages (ap (λ w. w.sent) e) none (ap (λ w. w.log) e)
      (inl (ap (λ w. w.coordinator.running) e))

  set_started : (which : Which) (machine : SidePicture) (new : Picture) →
      new ≡ set_side old which machine → AllStarted all new
  set_started Left machine new e = silent_started new (ap (λ w. w.sent) e) (ap (λ w. w.log) e)
      (inl (ap (λ w. w.coordinator.running) e))
  set_started Right machine new e = silent_started new (ap (λ w. w.sent) e) (ap (λ w. w.log) e)
      (inl (ap (λ w. w.coordinator.running) e))

  says_started : (which : Which) (machine : SidePicture) (messages : Sent) (new : Picture) →
      ((to : Which) (session number : ℕ) (request : Request) →
      Contains messages (Asks to session number request) → ⊥) →
      new ≡ record (set_side old which machine) { sent = old.sent ++ messages } →
      AllStarted all new
  says_started Left machine messages new none e =
      side_started Left machine messages old.acknowledged new none e
  says_started Right machine messages new none e =
      side_started Right machine messages old.acknowledged new none e

  request_started : (which : Which) (session number : ℕ) (request : Request) (new : Picture) →
      TakesRequest old which session number request new → AllStarted all new
  request_started which session number request new (picture.answered a) =
      side_started which _ (Answers which session number a.served.reply ∷ []) _ new
      (no_answer which session number a.served.reply) a.result
  request_started which session number request new (picture.request_failed event would e) =
      says_started which _ _ new (no_answer which session number _) e
  request_started which session number request new (picture.request_cut event would e) =
      set_started which _ new e

  -- what a call of the coordinator sends is of its session
  sent_known : (pair : ℕ) (sent : Sent) (running : Option SessionPicture) (messages : Sent) →
      IfSome running (IsKnown all) → AllOfSession pair sent running messages → (to : Which)
      (session number : ℕ) (request : Request) →
      Contains messages (Asks to session number request) →
      (preference : Option Which) × Contains all (session, preference)
  sent_known pair sent None messages known none to session number request c =
      absurd (no_message to session number request
      (subst (λ m. Contains m (Asks to session number request)) none c))
  sent_known pair sent (Some r) messages known of_session to session number request c =
      let is = subst (IsOfSession pair sent r) c.2 (of_session c.0 _ c.1) in
      (r.preference, subst (λ n. Contains all (n, r.preference)) (sym is.0) known)

  coordinator_started : (logged : Log) (D : Kept → Type 0) (R : Option SessionPicture → Type 0)
      (new : Picture) → (g : CoordinatorGoes old logged D R new) →
      IfSome g.machine.running (IsKnown all) → All (IsPlanKnown all) logged → AllStarted all new
  coordinator_started logged D R new g known plans = record {
    running = subst (λ o. IfSome o (IsKnown all))
        (sym (ap (λ w. w.coordinator.running) g.result)) known;
    asked = λ to session number request c. by to session number request
        (Contains-append_cases old.sent g.messages (Asks to session number request)
        (subst (λ s. Contains s (Asks to session number request)) (ap (λ w. w.sent) g.result) c));
    plans = subst (All (IsPlanKnown all)) (sym (ap (λ w. w.log) g.result))
        (All-append (IsPlanKnown all) old.log logged plans_more plans);
  }
    where
      by : (to : Which) (session number : ℕ) (request : Request) →
          Contains old.sent (Asks to session number request)
          ⊎ Contains g.messages (Asks to session number request) →
          (preference : Option Which) × Contains all (session, preference)
      by to session number request (inl was) = asked_more to session number request was
      by to session number request (inr is) = sent_known old.pair old.sent g.machine.running
          g.messages known g.of_session to session number request is

  -- a session that goes on is the same
  goes_known : (o now : Option SessionPicture) (plan : List Planned) → IfSome o (IsKnown all) →
      GoesOnFrom o plan now → IfSome now (IsKnown all)
  goes_known None now plan known none = subst (λ o. IfSome o (IsKnown all)) (sym none) tt
  goes_known (Some r) _ plan known ended = tt
  goes_known (Some r) _ plan known (goes_on next session_is prefers plan_is) =
      subst (λ n. Contains all (n, next.preference)) (sym session_is)
      (subst (λ p. Contains all (r.session, p)) (sym prefers) known)

  plan_known : (o : Option SessionPicture) → IfSome o (IsKnown all) → (from : Which)
      (session number : ℕ) → IsExpected o from session number → (plan : List Planned)
      (logged : Log) → HasPlan old.sent old.coordinator.archive old.log o plan logged →
      All (IsPlanKnown all) logged
  plan_known None known from session number expected plan logged has = absurd expected
  plan_known (Some r) known from session number expected plan logged (inl (same, none)) =
      subst (All (IsPlanKnown all)) (sym none) (All-nil (IsPlanKnown all))
  plan_known (Some r) known from session number expected plan logged
      (inr (made, makes, is, one)) =
      subst (All (IsPlanKnown all)) (sym one) (All-cons (IsPlanKnown all) made []
      (subst (λ n. Contains all (n, made.preference)) (sym makes.of_session)
      (subst (λ p. Contains all (r.session, p)) (sym makes.prefers) known))
      (All-nil (IsPlanKnown all)))

  now_running : IfSome old.coordinator.running (IsKnown all)
  now_running = running_more old.coordinator.running h.running

pub step_numbers : (old new : Picture) (started : List Started) → AllStarted started old →
    (more : List Ack) → new.acknowledged ≡ old.acknowledged ++ more → {step : Step}
    {told : List Refusal} → Follows old new step told →
    AllStarted (started ++ filter_map (started_by step) more) new
step_numbers old new started h more added (picture.same step told idle e) =
    silent_started old started _ h new (ap (λ w. w.sent) e) (ap (λ w. w.log) e)
    (inl (ap (λ w. w.coordinator.running) e))
step_numbers old new started h more added
    (picture.edits which user edit machine events allowed up w e) =
    side_started old started _ h which machine [] _ new no_message e
step_numbers old new started h more added (picture.opens which step machine events by opens e) =
    side_started old started _ h which machine [] _ new no_message e
step_numbers old new started h more added (picture.changes which step status told settles e) =
    set_started old started _ h which _ new e
step_numbers old new started h more added
    (picture.serves message which session number request at takes) =
    request_started old started _ h which session number request new takes
step_numbers old new started h more added
    (picture.starts_session preference up none g some reports) =
    let later = filter_map (started_by (Start preference)) more in
    let is : map Kept_by g.kept ≡ more = append_cancel_left old.acknowledged (map Kept_by g.kept)
    more (sym (ap (λ w. w.acknowledged) g.result) ∙ added) in
    coordinator_started old started later h [] _ _ new g
    (if_some g.machine.running (λ r. (r.session ≡ old.coordinator.archive.last_session + 1)
    × (r.plan ≡ []) × (r.preference ≡ preference)) (IsKnown (started ++ later)) g.runs_on
    (λ r at so. Contains-append_right started later (r.session, r.preference)
    (subst (λ p. Contains later (r.session, p)) (sym so.2) (number_started preference r.session more
    (subst (λ acks. Contains acks (Kept_by (Session r.session))) is
    (first_kept old.coordinator.archive g.kept g.keeps.due r.session so.0
    ((subst (RunsOver (old.sent ++ g.messages) g.machine.archive) at g.runs_over).0
    ∙ ap (λ a. a.last_session) g.keeps.archive)))))))
    (All-nil (IsPlanKnown (started ++ later)))
step_numbers old new started h more added (picture.ticks_once running is g reports status again) =
    coordinator_started old started _ h [] _ _ new g
    (goes_known old started _ h old.coordinator.running g.machine.running _
    (now_running old started _ h) g.runs_on) (All-nil (IsPlanKnown _))
step_numbers old new started h more added
    (picture.takes_answer message from session number reply plan logged at expected made g reports
    heard) =
    coordinator_started old started _ h logged _ _ new g
    (goes_known old started _ h old.coordinator.running g.machine.running plan
    (now_running old started _ h) g.runs_on)
    (plan_known old started _ h old.coordinator.running (now_running old started _ h) from session
    number expected plan logged made)
step_numbers old new started h more added (picture.archive_changes step status told settles e) =
    silent_started old started _ h new (ap (λ w. w.sent) e) (ap (λ w. w.log) e)
    (gone (running_or_none status old.coordinator.running))
  where
    gone : (picture.session_after status old.coordinator.running ≡ old.coordinator.running)
        ⊎ (picture.session_after status old.coordinator.running ≡ None) →
        (new.coordinator.running ≡ old.coordinator.running) ⊎ (new.coordinator.running ≡ None)
    gone (inl same) = inl (ap (λ w. w.coordinator.running) e ∙ same)
    gone (inr none) = inr (ap (λ w. w.coordinator.running) e ∙ none)
step_numbers old new started h more added (picture.archive_opens step by e) =
    silent_started old started _ h new (ap (λ w. w.sent) e) (ap (λ w. w.log) e)
    (inl (ap (λ w. w.coordinator.running) e))
step_numbers old new started h more added (picture.archive_recovers step kept by writing can e) =
    silent_started old started _ h new (ap (λ w. w.sent) e) (ap (λ w. w.log) e)
    (inl (ap (λ w. w.coordinator.running) e))

pub start_numbers : (old : Picture) → IsStart old → AllStarted [] old
start_numbers old s = record {
  running = subst (λ o. IfSome o (IsKnown [])) (sym s.coordinator.0) tt;
  asked = λ to session number request c. absurd (no_message to session number request
      (subst (λ m. Contains m (Asks to session number request)) s.nothing_yet.0 c));
  plans = subst (All (IsPlanKnown [])) (sym s.nothing_yet.3) (All-nil (IsPlanKnown []));
}
