-- The invariant is kept by each step of a side.
use Rattle.std.proofs.Common.{◌≡◌, ◌≤◌, ℕ, true, false, ◌==◌, if◌then◌else◌, List, ◌∷◌, ◌++◌, refl}
use Rattle.std.proofs.Common.{sym, ap, ◌∙◌, subst, Option, Some, None, append-nil, arith, inl, inr}
use Rattle.std.proofs.Common.{◌⊎◌, slice_get, ◌≢◌, []}
use Rattle.std.specs.Prelude.{Contains, IfSome, All}
use Rattle.std.proofs.lemmas.List.Elements.{All-weaker, All-head, All-tail, Contains-append_left}
use Rattle.std.proofs.lemmas.Option.{none-some, same_Some}
use Rattle.std.proofs.lemmas.Bool.{eqb-true}
use Rattle.syn_model.specs.Tree.{Directory}
use Rattle.syn_model.specs.Event.{Token, Event, Edited, Began, Replaced}
use Rattle.syn_model.specs.History.{History, IsAllowed, last_session, last_token}
use Rattle.syn_model.specs.Standing.{token_after}
use Rattle.syn_model.specs.Archive.{Archive, Kept, Session, Recorded, RecordedDir, CanKeep}
use Rattle.syn_runs.specs.Laws.{AddsAllowed}
use Rattle.syn_machine.specs.Side.{Request, Reply}
use Rattle.syn_machine.specs.Network.{Which, other, Sent, Message, Asks, Answers}
use Rattle.syn_machine.specs.Planning.{seen_on}
use Rattle.syn_runs.specs.Picture.{Picture, SidePicture, SessionPicture, outstanding, side_of}
use Rattle.syn_runs.specs.Picture.{RunsOver, WasSent}
use Rattle.syn_machine.specs.Machine.{Up}
use Rattle.syn_machine.specs.Coordinator.{Outstanding, asked_in}
use Rattle.syn_runs.proofs.Invariant.{Plans, plan_in, Histories, histories_of, IsSound, IsTrue}
use Rattle.syn_runs.proofs.Invariant.{IsBorne, IsHeldRecord, IsFresh, IsSoundStaging}
use Rattle.syn_runs.proofs.Invariant.{IsSoundEvent, IsSoundSide, IsSoundCoordinator, IsHarmless}
use Rattle.syn_runs.proofs.Invariant.{IsKept}
use Rattle.syn_runs.proofs.PlanLemmas.{fenced, since_reached}
use Rattle.syn_runs.proofs.GrownLemmas.{held-grow, made, extends, quiet_was, session_grows}
use Rattle.syn_runs.proofs.SoundLemmas.{sound-answer}
use Rattle.syn_runs.proofs.StagedLemmas.{Moves, moves_grow, sound_moves, staging-grow}
use Rattle.syn_machine.proofs.NetworkLemmas.{on_both}
use Rattle.syn_runs.proofs.StagedLemmas.{replacement-grow, token_one}

module _ (plans : Plans) (archive : Archive) (sent : Sent) (old new : Histories)
    (sound : IsSound plans old archive sent) where
  held_record-grow : ((s : Which) → AddsAllowed (old s) (new s)) → (kept : Kept) →
      IsHeldRecord old kept → IsHeldRecord new kept
  held_record-grow grows (Session session) h = tt
  held_record-grow grows (Recorded path marks) h =
      λ rest content e side. held-grow (old side) (new side)
      (extends (old side) (new side) (grows side)) (path ++ rest) content (h rest content e side)
  held_record-grow grows (RecordedDir path) h =
      λ side. held-grow (old side) (new side)
      (extends (old side) (new side) (grows side)) path Directory (h side)

  pub harmless-grow : ((s : Which) → AddsAllowed (old s) (new s)) → (kept : Kept) →
      IsHarmless plans old kept → IsHarmless plans new kept
  harmless-grow grows kept h = record {
    leaves = λ session item planned side path e w last quiet.
        let is = made plans old archive sent sound session item planned e in
        let fence : session ≤ last_session (old side) =
        fenced plans old archive sent sound session is.0 is.1 (plan_in plans session) is.2 side in
        let later : last_session (old side) ≤ last_session (new side) =
        session_grows (old side) (new side) (grows side) in
        h.leaves session item planned side path e w (omega (arith, last, fence, later))
        (quiet_was (old side) (new side) (extends (old side) (new side) (grows side))
        (seen_on planned side).since path (since_reached plans old archive sent sound session is.0
        is.1 (plan_in plans session) is.2 item planned side path e w side) quiet);
    held = held_record-grow grows kept h.held;
  }

  fresh_after : (side : Which) (event : Event) →
      IsSoundEvent plans old archive side event → (session : ℕ) → plan_in plans session ≡ [] →
      (token : Token) → ((t : Token) → last_token (old side) ≡ Some t → t.session ≢ session) →
      token_after (last_token (old side)) event ≡ Some token → token.session ≢ session
  fresh_after side (Edited user edit) s session empty token h e same = h token e same
  fresh_after side (Began n) s session empty token h e same = h token e same
  fresh_after side (Replaced used path since u) s session empty token h e same =
      let at : slice_get (plan_in plans session) used.item ≡ Some s.planned =
      ap (λ n. slice_get (plan_in plans n) used.item)
      (sym (ap (λ t. t.session) (same_Some _ _ e) ∙ same)) ∙ s.item in
      none-some _ (ap (λ plan. slice_get plan used.item) (sym empty) ∙ at)

  pub fresh-moves : (side : Which) → Moves plans archive old new side → (session : ℕ) →
      plan_in plans session ≡ [] → IsFresh old session → IsFresh new session
  fresh-moves side m session empty fresh =
      on_both (λ s. (token : Token) → last_token (new s) ≡ Some token → token.session ≢ session)
      side
      (λ token e. elim m.here as (λ _. token.session ≢ session) [
        | inl same ↦ fresh side token (ap last_token (sym same) ∙ e)
        | inr a ↦ fresh_after side a.0 a.2 session empty token (fresh side)
            (sym (token_one None (old side) a.0) ∙ (ap last_token (sym a.3) ∙ e))
      ])
      (λ token e. fresh (other side) token (ap last_token (sym m.there) ∙ e))

  -- what a machine that has failed still writes stays justified as the other side goes on
  pub event-grow : (side : Which) (event : Event) → new side ≡ old side →
      AddsAllowed (old (other side)) (new (other side)) →
      IsSoundEvent plans old archive side event → IsSoundEvent plans new archive side event
  event-grow side (Edited user edit) stays grows h = tt
  event-grow side (Began session) stays grows h = h
  event-grow side (Replaced token path since u) stays grows h =
      replacement-grow plans old new side token path since u stays grows h

pub if_some : {X : Type 0} (o : Option X) (P Q : X → Type 0) →
    IfSome o P → ((x : X) → o ≡ Some x → P x → Q x) → IfSome o Q
if_some None P Q h f = tt
if_some (Some x) P Q h f = f x refl h

pub was_sent-more : (sent more : Sent) (running : SessionPicture) → WasSent sent running →
    WasSent (sent ++ more) running
was_sent-more sent more running w side =
    All-weaker (λ waiting. Contains sent (Asks side running.session waiting.number waiting.request))
    (λ waiting. Contains (sent ++ more)
    (Asks side running.session waiting.number waiting.request))
    (λ waiting c. Contains-append_left sent more _ c) (outstanding running side) (w side)

-- the request that waits under a number was sent
pub asked_was_sent : (sent : Sent) (side : Which) (session number : ℕ)
    (waiting : List Outstanding) →
    All (λ waiting. Contains sent (Asks side session waiting.number waiting.request)) waiting →
    (request : Request) → asked_in waiting number ≡ Some request →
    Contains sent (Asks side session number request)
asked_was_sent sent side session number [] all request e = absurd (none-some _ e)
asked_was_sent sent side session number (first ∷ more) all request e =
    let P = λ (waiting : Outstanding). Contains sent
    (Asks side session waiting.number waiting.request) in
    elim (first.number == number) as (λ b. (first.number == number) ≡ b →
    (if b then Some first.request else asked_in more number) ≡ Some request →
    Contains sent (Asks side session number request)) [
      | true ↦ λ same is. subst (λ n. Contains sent (Asks side session n request))
          (eqb-true first.number number same)
          (subst (λ r. Contains sent (Asks side session first.number r)) (same_Some _ _ is)
          (All-head P first more all))
      | false ↦ λ _ is. asked_was_sent sent side session number more
          (All-tail P first more all) request is
    ] refl e

pub runs_over-more : (sent more : Sent) (archive : Archive) (running : Option SessionPicture) →
    RunsOver sent archive running → RunsOver (sent ++ more) archive running
runs_over-more sent more archive None r = tt
runs_over-more sent more archive (Some running) r = (r.0, was_sent-more sent more running r.1, r.2)

-- what a side says as it goes on: nothing, or a true reply to a request that was sent
pub data Says (plans : Plans) (sent : Sent) (which : Which) (history : History) : List Message →
    Type 0 where
  nothing : Says plans sent which history []
  reply : (session number : ℕ) (request : Request) (said : Reply) →
      Contains sent (Asks which session number request) → IsTrue history session request said →
      IsBorne (plan_in plans session) history which request said →
      Says plans sent which history (Answers which session number said ∷ [])

says_sound : (plans : Plans) (histories : Histories) (archive : Archive) (sent : Sent) →
    IsSound plans histories archive sent → (which : Which) (messages : List Message) →
    Says plans sent which (histories which) messages →
    IsSound plans histories archive (sent ++ messages)
says_sound plans histories archive sent sound which _ nothing =
    subst (IsSound plans histories archive) (sym (append-nil sent)) sound
says_sound plans histories archive sent sound which _
    (reply session number request said asked t b) =
    sound-answer plans histories archive sent sound which session number request said asked t b

-- a side goes on
pub record SideStep (plans : Plans) (old new : Picture) (which : Which) (machine : SidePicture)
    (messages : List Message) : Type 0 where
  pub here : side_of new which ≡ machine
  pub there : side_of new (other which) ≡ side_of old (other which)
  pub coordinator : new.coordinator ≡ old.coordinator
  pub sent : new.sent ≡ old.sent ++ messages
  pub log : new.log ≡ old.log
  pub moves : (machine.side.history ≡ histories_of old which) ⊎ ((event : Event) × IsAllowed
      (histories_of old which) event × IsSoundEvent plans (histories_of old) old.coordinator.archive
      which event × (machine.side.history ≡ histories_of old which ++ event ∷ []))
  pub staged : IfSome machine.side.staging (IsSoundStaging plans (histories_of old) which)
  pub writing :
      IfSome machine.writing (λ event. (machine.status ≢ Up) × IsSoundEvent plans (histories_of old)
      old.coordinator.archive which event × (machine.side.history ≡ histories_of old which))
  pub says : Says plans old.sent which machine.side.history messages

module _ (plans : Plans) (old new : Picture) (k : IsKept plans old) (which : Which)
    (machine : SidePicture) (messages : List Message)
    (s : SideStep plans old new which machine messages) where
  machine_is : histories_of new which ≡ machine.side.history
  machine_is = ap (λ m. m.side.history) s.here

  pub step_moves : Moves plans old.coordinator.archive (histories_of old) (histories_of new) which
  step_moves = record {
    here =
        elim s.moves as (λ _. (histories_of new which ≡ histories_of old which)
        ⊎ ((event : Event) × IsAllowed (histories_of old which) event
        × IsSoundEvent plans (histories_of old) old.coordinator.archive which event
        × (histories_of new which ≡ histories_of old which ++ event ∷ []))) [
          | inl e ↦ inl (machine_is ∙ e)
          | inr a ↦ inr (a.0, a.1, a.2, machine_is ∙ a.3)
        ];
    there = ap (λ m. m.side.history) s.there;
  }

  pub grows : (t : Which) → AddsAllowed (histories_of old t) (histories_of new t)
  grows =
      moves_grow plans old.coordinator.archive (histories_of old)
      (histories_of new) which step_moves

  pub sound_then : IsSound plans (histories_of new) old.coordinator.archive (old.sent ++ messages)
  sound_then = says_sound plans (histories_of new) old.coordinator.archive old.sent
      (sound_moves plans old.coordinator.archive old.sent (histories_of old)
      (histories_of new) k.sound which step_moves) which messages
      (subst (λ h. Says plans old.sent which h messages) (sym machine_is) s.says)

  this_side : IsSoundSide plans (histories_of new) old.coordinator.archive which machine
  this_side = record {
    staged =
        if_some machine.side.staging (IsSoundStaging plans (histories_of old) which)
        (IsSoundStaging plans (histories_of new) which) s.staged (λ staging _ h.
        staging-grow plans (histories_of old) (histories_of new) which staging grows h);
    writing =
        if_some machine.writing (λ event. (machine.status ≢ Up)
        × IsSoundEvent plans (histories_of old) old.coordinator.archive which event
        × (machine.side.history ≡ histories_of old which))
        (λ event. (machine.status ≢ Up) × IsSoundEvent plans
        (histories_of new) old.coordinator.archive which event) s.writing (λ event _ h. (
          h.0,
          event-grow plans old.coordinator.archive old.sent (histories_of old)
              (histories_of new) k.sound which event (machine_is ∙ h.2) (grows (other which)) h.1,
        ));
  }

  that_side : IsSoundSide plans (histories_of new) old.coordinator.archive (other which)
      (side_of old (other which))
  that_side =
      let was = k.sides (other which) in
      let machine' = side_of old (other which) in
      record {
        staged =
            if_some machine'.side.staging (IsSoundStaging plans (histories_of old) (other which))
            (IsSoundStaging plans (histories_of new) (other which)) was.staged
            (λ staging _ h. staging-grow plans (histories_of old) (histories_of new)
            (other which) staging grows h);
        writing =
            if_some machine'.writing (λ event. (machine'.status ≢ Up)
            × IsSoundEvent plans (histories_of old) old.coordinator.archive (other which) event)
            (λ event. (machine'.status ≢ Up) × IsSoundEvent plans (histories_of new)
            old.coordinator.archive (other which) event) was.writing (λ event _ h. (
              h.0,
              event-grow plans old.coordinator.archive old.sent (histories_of old)
                  (histories_of new) k.sound (other which) event (ap (λ m. m.side.history) s.there)
                  (grows (other (other which))) h.1,
            ));
      }

  coordinator_then :
      IsSoundCoordinator plans (histories_of new) (old.sent ++ messages) old.coordinator
  coordinator_then =
      let was = k.coordinator in
      record {
        running =
            if_some old.coordinator.running
            (λ running. (plan_in plans running.session ≡ running.plan)
            × (running.plan ≡ [] → IsFresh (histories_of old) running.session))
            (λ running. (plan_in plans running.session ≡ running.plan)
            × (running.plan ≡ [] → IsFresh (histories_of new) running.session)) was.running
            (λ running _ h. (
              h.0,
              λ e. fresh-moves plans old.coordinator.archive old.sent (histories_of old)
                  (histories_of new) k.sound which step_moves running.session (h.0 ∙ e) (h.1 e),
            ));
        runs_over =
            runs_over-more old.sent messages old.coordinator.archive old.coordinator.running
            was.runs_over;
        writing =
            if_some old.coordinator.writing
            (λ kept. (old.coordinator.status ≢ Up) × (old.coordinator.running ≡ None)
            × CanKeep old.coordinator.archive kept × IsHarmless plans (histories_of old) kept)
            (λ kept. (old.coordinator.status ≢ Up) × (old.coordinator.running ≡ None)
            × CanKeep old.coordinator.archive kept × IsHarmless plans (histories_of new) kept)
            was.writing (λ kept _ h. (
              h.0,
              h.1,
              h.2,
              harmless-grow plans old.coordinator.archive old.sent (histories_of old)
                  (histories_of new) k.sound grows kept h.3,
            ));
      }

  -- a step of a side keeps the invariant
  pub side_keeps : IsKept plans new
  side_keeps = record {
    logged = s.log ∙ k.logged;
    sound =
        subst (λ c. IsSound plans (histories_of new) c.archive new.sent) (sym s.coordinator)
        (subst (λ w. IsSound plans (histories_of new) old.coordinator.archive w)
        (sym s.sent) sound_then);
    sides =
        on_both (λ t. IsSoundSide plans (histories_of new) new.coordinator.archive t
        (side_of new t)) which
        (subst (λ c. IsSoundSide plans (histories_of new) c.archive which (side_of new which))
        (sym s.coordinator) (subst (IsSoundSide plans
        (histories_of new) old.coordinator.archive which) (sym s.here) this_side))
        (subst (λ c. IsSoundSide plans (histories_of new) c.archive (other which)
        (side_of new (other which))) (sym s.coordinator) (subst (IsSoundSide plans
        (histories_of new) old.coordinator.archive (other which)) (sym s.there) that_side));
    coordinator =
        subst (λ c. IsSoundCoordinator plans (histories_of new) new.sent c) (sym s.coordinator)
        (subst (λ w. IsSoundCoordinator plans (histories_of new) w old.coordinator)
        (sym s.sent) coordinator_then);
  }
