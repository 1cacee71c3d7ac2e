-- The invariant is kept by each call of the coordinator, also where it makes a plan.
use Rattle.std.proofs.Common.{◌≡◌, ◌≤◌, ℕ, List, ◌∷◌, ◌++◌, refl, sym, ap, ◌∙◌, subst, Option, Some}
use Rattle.std.proofs.Common.{None, append-nil, arith, inr, ◌≢◌, ◌+◌, is_some, append_assoc, []}
use Rattle.std.specs.Prelude.{Contains, IfSome, All}
use Rattle.std.proofs.lemmas.List.Elements.{All-weaker, All-head, All-tail, All-contains}
use Rattle.std.proofs.lemmas.Option.{none-some, same_Some}
use Rattle.syn_model.specs.Event.{Token, Event, Edited, Began, Replaced}
use Rattle.syn_model.specs.History.{History, IsAllowed, last_session, last_token, AllAllowed}
use Rattle.syn_model.specs.Standing.{token_after, session_after}
use Rattle.syn_model.specs.Archive.{Archive, Kept, CanKeep, after_kept, archive_of}
use Rattle.syn_machine.specs.Side.{Request, Reply}
use Rattle.syn_machine.specs.Network.{Which, other, Sent, Message, Asks, Answers, Left}
use Rattle.syn_machine.specs.Planning.{Log, IsPlanOf}
use Rattle.syn_runs.specs.Picture.{Picture, SidePicture, SessionPicture, side_of, RunsOver}
use Rattle.syn_runs.specs.Picture.{IsOfPlan, IsOfSession, AllOfSession, AllCanKeep}
use Rattle.syn_runs.specs.Picture.{CoordinatorGoes}
use Rattle.syn_machine.specs.Machine.{Up}
use Rattle.syn_runs.proofs.Invariant.{Plans, plan_in, Histories, histories_of, IsSound, IsFresh}
use Rattle.syn_runs.proofs.Invariant.{IsSoundStaging, IsSoundEvent, IsSoundSide, IsHarmless}
use Rattle.syn_runs.proofs.Invariant.{IsKept, IsSound_request}
use Rattle.syn_runs.proofs.PlanLemmas.{fenced}
use Rattle.syn_runs.proofs.GrownLemmas.{session_grows, fold_one}
use Rattle.syn_runs.proofs.SoundLemmas.{sound-more, sound-keep, item-grow, PlansGrow}
use Rattle.syn_runs.proofs.SoundLemmas.{kept_session}
use Rattle.syn_runs.proofs.StagedLemmas.{token_one}
use Rattle.syn_machine.proofs.NetworkLemmas.{on_both}
use Rattle.syn_runs.proofs.LogLemmas.{scans_of, plan_from}
use Rattle.syn_runs.proofs.MoveLemmas.{current}
use Rattle.syn_runs.proofs.SideSteps.{if_some, grows}

-- The coordinator

token_below : (history : History) →
    ((token : Token) → last_token history ≡ Some token → token.session ≤ last_session history) →
    (event : Event) → IsAllowed history event →
    last_session history ≤ session_after (last_session history) event → (token : Token) →
    token_after (last_token history) event ≡ Some token →
    token.session ≤ session_after (last_session history) event
token_below history h (Edited user edit) a g token e = h token e
token_below history h (Began session) a g token e =
    let b : token.session ≤ last_session history = h token e in
    omega (arith, b, g)
token_below history h (Replaced used path since u) a g token e =
    let same : used.session ≡ token.session = ap (λ t. t.session) (same_Some _ _ e) in
    let now : used.session ≡ last_session history = current history used path since u a in
    omega (arith, same, now)

tokens_below : (start events : History) →
    ((token : Token) → last_token start ≡ Some token → token.session ≤ last_session start) →
    AllAllowed start events → (token : Token) → last_token (start ++ events) ≡ Some token →
    token.session ≤ last_session (start ++ events)
tokens_below start [] h all =
    subst (λ w. (token : Token) → last_token w ≡ Some token → token.session ≤ last_session w)
    (sym (append-nil start)) h
tokens_below start (event ∷ events) h all =
    let later : last_session start ≤ last_session (start ++ event ∷ []) =
    session_grows start (start ++ event ∷ []) (inr (event, all.0, refl)) in
    subst (λ w. (token : Token) → last_token w ≡ Some token → token.session ≤ last_session w)
    (append_assoc start (event ∷ []) events)
    (tokens_below (start ++ event ∷ []) events (λ token e.
    subst (λ n. token.session ≤ n) (sym (fold_one 0 start event)) (token_below start h event all.0
    (subst (λ n. last_session start ≤ n) (fold_one 0 start event) later) token
    (sym (token_one None start event) ∙ e))) all.1)

nothing_is_some : (token : Token) → last_token [] ≡ Some token → ⊥
nothing_is_some token e = none-some _ e

-- a session above all has no plan and no token yet
pub next_fresh : (plans : Plans) (histories : Histories) (archive : Archive) (sent : Sent) →
    IsSound plans histories archive sent → (session : ℕ) → session ≡ archive.last_session + 1 →
    All (λ made. made.session ≢ session) plans × IsFresh histories session
next_fresh plans histories archive sent sound session e = (
  All-weaker (IsPlanOf sent) (λ made. made.session ≢ session) (λ made is same.
      let fence : made.session ≤ last_session (histories Left) = fenced plans histories archive sent
      sound made.session made.archive (scans_of made) made.plan (plan_from sent made is) Left in
      let begun : last_session (histories Left) ≤ archive.last_session = sound.begun Left in
      absurd (omega (arith, e, fence, begun, same))) plans sound.planned,
  λ side token last same.
      let below : token.session ≤ last_session (histories side) = tokens_below
      [] (histories side) (λ t x. absurd (nothing_is_some t x)) (sound.lawful side) token last in
      let begun : last_session (histories side) ≤ archive.last_session = sound.begun side in
      omega (arith, same, e, below, begun),
)

keeps_sound : (plans : Plans) (histories : Histories) (sent : Sent) (IsDue_now : Kept → Type 0) →
    ((kept : Kept) → IsDue_now kept → IsHarmless plans histories kept) → (kept : List Kept)
    (archive : Archive) → IsSound plans histories archive sent → All IsDue_now kept →
    AllCanKeep archive kept → IsSound plans histories (archive_of archive kept) sent
    × (archive.last_session ≤ (archive_of archive kept).last_session)
keeps_sound plans histories sent D harm [] archive sound due can = (sound, omega arith)
keeps_sound plans histories sent D harm (k ∷ more) archive sound due can =
    let next = keeps_sound plans histories sent D harm more (after_kept archive k)
    (sound-keep plans histories archive sent sound k can.0 (harm k (All-head D k more due)))
    (All-tail D k more due) can.1 in
    let one : archive.last_session ≤ (after_kept archive k).last_session =
    kept_session archive k can.0 in
    let two : (after_kept archive k).last_session
    ≤ (archive_of (after_kept archive k) more).last_session = next.1 in
    (next.0, omega (arith, one, two))

nothing_in : {m : Message} → Contains [] m → ⊥
nothing_in c = omega (arith, c.1)

asks_sound : (pair : ℕ) (plans : Plans) (histories : Histories) (archive : Archive) (sent : Sent)
    (running : Option SessionPicture) (messages : List Message) →
    IfSome running (λ r. plan_in plans r.session ≡ r.plan) →
    RunsOver (sent ++ messages) archive running →
    AllOfSession pair sent running messages → (m : Message) → Contains messages m →
    IfSome running (λ r. IsOfSession pair sent r m × (r.session ≡ archive.last_session)
    × (plan_in plans r.session ≡ r.plan)) × ((running ≡ None) → ⊥)
asks_sound pair plans histories archive sent None messages has over all m c =
    absurd (nothing_in (subst (λ ms. Contains ms m) all c))
asks_sound pair plans histories archive sent (Some r) messages has over all m c = (
  (All-contains (IsOfSession pair sent r) messages m all c, over.0, has),
  λ e. none-some _ (sym e),
)

request_of : (pair : ℕ) (plans : Plans) (archive : Archive) (sent : Sent)
    (running : Option SessionPicture)
    (to : Which) (session number : ℕ) (request : Request) →
    IfSome running (λ r. IsOfSession pair sent r (Asks to session number request)
    × (r.session ≡ archive.last_session) × (plan_in plans r.session ≡ r.plan)) →
    (running ≡ None → ⊥) → IsSound_request plans archive sent to session request
request_of pair plans archive sent None to session number request h some = absurd (some refl)
request_of pair plans archive sent (Some r) to session number request h some =
    let at : session ≡ r.session = h.0.0 in
    let last : r.session ≡ archive.last_session = h.1 in
    record {
      session_kept = omega (arith, at, last);
      lawful = h.0.1;
      pair = pair;
      by_plan =
          subst (λ n. IsOfPlan pair sent n (plan_in plans n) to request) (sym at)
          (subst (λ plan. IsOfPlan pair sent r.session plan to request) (sym h.2) h.0.2);
    }

no_answer : (pair : ℕ) (sent : Sent) (archive : Archive) (plans : Plans)
    (running : Option SessionPicture)
    (from : Which) (session number : ℕ) (said : Reply) →
    IfSome running (λ r. IsOfSession pair sent r (Answers from session number said)
    × (r.session ≡ archive.last_session) × (plan_in plans r.session ≡ r.plan)) →
    (running ≡ None → ⊥) → ⊥
no_answer pair sent archive plans None from session number said h some = some refl
no_answer pair sent archive plans (Some r) from session number said h some = h.0

event-later : (plans : Plans) (histories : Histories) (old new : Archive) (side : Which)
    (event : Event) → old.last_session ≤ new.last_session →
    IsSoundEvent plans histories old side event → IsSoundEvent plans histories new side event
event-later plans histories old new side (Edited user edit) later h = tt
event-later plans histories old new side (Began session) later h = omega (arith, later, h)
event-later plans histories old new side (Replaced token path since u) later h = h

pub sides-later : (plans : Plans) (histories : Histories) (old new : Archive) (side : Which)
    (machine : SidePicture) → old.last_session ≤ new.last_session →
    IsSoundSide plans histories old side machine → IsSoundSide plans histories new side machine
sides-later plans histories old new side machine later h = record {
  staged = h.staged;
  writing =
      if_some machine.writing
      (λ event. (machine.status ≢ Up) × IsSoundEvent plans histories old side event)
      (λ event. (machine.status ≢ Up) × IsSoundEvent plans histories new side event) h.writing
      (λ event _ x. (x.0, event-later plans histories old new side event later x.1));
}

-- what a side has staged and writes is by the plans that were there, also where one is made
event-plan : (old new : Plans) →
    PlansGrow old new → (histories : Histories) (archive : Archive) (side : Which) (event : Event) →
    IsSoundEvent old histories archive side event → IsSoundEvent new histories archive side event
event-plan old new grows histories archive side (Edited user edit) h = tt
event-plan old new grows histories archive side (Began session) h = h
event-plan old new grows histories archive side (Replaced token path since u) h = record {
  planned = h.planned;
  item = item-grow old new grows token.session token.item h.planned h.item;
  writes = h.writes;
  listed = h.listed;
  within = h.within;
  quiet = h.quiet;
  reached = h.reached;
  whole = h.whole;
  carries = h.carries;
}

pub sides-plan : (old new : Plans) → PlansGrow old new → (histories : Histories) (archive : Archive)
    (side : Which) (machine : SidePicture) → IsSoundSide old histories archive side machine →
    IsSoundSide new histories archive side machine
sides-plan old new grows histories archive side machine h = record {
  staged =
      if_some machine.side.staging (IsSoundStaging old histories side)
      (IsSoundStaging new histories side) h.staged (λ staging _ x.
      record {
        planned = x.planned;
        item = item-grow old new grows staging.token.session
            staging.token.item x.planned x.item;
        reached = x.reached;
        begins = x.begins;
      });
  writing =
      if_some machine.writing
      (λ event. (machine.status ≢ Up) × IsSoundEvent old histories archive side event)
      (λ event. (machine.status ≢ Up) × IsSoundEvent new histories archive side event) h.writing
      (λ event _ x. (x.0, event-plan old new grows histories archive side event x.1));
}

-- a call of the coordinator keeps the invariant, where what is due is harmless and what runs has
-- its plan
pub coordinator_keeps : (plans : Plans) (old : Picture) (logged : Log) (D : Kept → Type 0)
    (R : Option SessionPicture → Type 0) (new : Picture) → old.log ++ logged ≡ plans →
    IsSound plans (histories_of old) old.coordinator.archive old.sent → ((side : Which) →
    IsSoundSide plans (histories_of old) old.coordinator.archive side (side_of old side)) →
    ((kept : Kept) → D kept → IsHarmless plans (histories_of old) kept) →
    (g : CoordinatorGoes old logged D R new) →
    IfSome g.machine.running (λ running. (plan_in plans running.session ≡ running.plan)
    × (running.plan ≡ [] → IsFresh (histories_of old) running.session)) → IsKept plans new
coordinator_keeps plans old logged D R new logs sound sides harm g runs =
    let machine = g.machine in
    let k = keeps_sound plans (histories_of old) old.sent D harm g.kept old.coordinator.archive
    sound g.keeps.due g.keeps.can in
    let now : IsSound plans (histories_of old) machine.archive old.sent =
    subst (λ a. IsSound plans (histories_of old) a old.sent) (sym g.keeps.archive) k.0 in
    let later : old.coordinator.archive.last_session ≤ machine.archive.last_session = subst
    (λ a. old.coordinator.archive.last_session ≤ a.last_session) (sym g.keeps.archive) k.1 in
    let has : IfSome machine.running (λ r. plan_in plans r.session ≡ r.plan) =
    if_some machine.running (λ running. (plan_in plans running.session ≡ running.plan)
    × (running.plan ≡ [] → IsFresh (histories_of old) running.session))
    (λ r. plan_in plans r.session ≡ r.plan) runs (λ r _ h. h.0) in
    let sends = asks_sound old.pair plans (histories_of old) machine.archive old.sent
    machine.running g.messages has g.runs_over g.of_session in
    let sound_then = sound-more plans
    (histories_of old) machine.archive old.sent g.messages now g.numbers g.repeats
    (λ to session number request c. let x = sends (Asks to session number request) c in request_of
    old.pair plans machine.archive old.sent machine.running to session number request x.0 x.1)
    (λ from session number said c. let x = sends (Answers from session number said) c in
    absurd (no_answer old.pair old.sent machine.archive plans machine.running from session number
    said x.0 x.1)) in
    subst (IsKept plans) (sym g.result) (record {
      logged = logs;
      sound = sound_then;
      sides =
          λ side. on_both
          (λ s. IsSoundSide plans (histories_of old) machine.archive s (side_of old s)) side
          (sides-later plans (histories_of old) old.coordinator.archive machine.archive side
          (side_of old side) later (sides side))
          (sides-later plans (histories_of old) old.coordinator.archive machine.archive (other side)
          (side_of old (other side)) later (sides (other side))) side;
      coordinator = record {
        running = runs;
        runs_over = g.runs_over;
        writing =
            if_some machine.writing (λ more. D more × CanKeep machine.archive more)
            (λ kept. (machine.status ≢ Up) × (machine.running ≡ None) × CanKeep machine.archive
            kept × IsHarmless plans (histories_of old) kept) g.keeps.writing (λ kept e h.
            let down : machine.status ≢ Up = λ up. none-some _ (sym (g.unless_up up) ∙ e) in
            (down, (g.silent_when_writing (ap is_some e)).1, h.1, harm kept h.0));
      };
    })
