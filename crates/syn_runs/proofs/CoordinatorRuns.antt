-- What a step does at the coordinator keeps the invariant, and adds no replacement.
use Rattle.std.proofs.Common.{◌≡◌, ℕ, List, ◌∷◌, ◌++◌, refl, sym, ap, ap₂, ◌∙◌, subst, Some}
use Rattle.std.proofs.Common.{append-nil, inl, inr, ◌⊎◌, ◌≢◌, map, ◌≤◌, ◌+◌, Option, None, arith}
use Rattle.std.proofs.Common.{[]}
use Rattle.std.specs.Prelude.{Contains, IfSome, All}
use Rattle.syn_model.specs.Archive.{Kept, Session, CanKeep, after_kept}
use Rattle.syn_machine.specs.Side.{Request, Reply}
use Rattle.syn_machine.specs.Network.{Which, Left, Right, other, Asks, Answers}
use Rattle.syn_machine.specs.Planning.{Log, Planned}
use Rattle.syn_runs.specs.Acknowledged.{Kept_by}
use Rattle.syn_runs.specs.Picture.{Picture, side_of, CoordinatorPicture, SessionPicture}
use Rattle.syn_runs.specs.Picture.{asked_of, outstanding, IsDueAfter, IsExpected, HasPlan}
use Rattle.syn_runs.specs.Picture.{GoesOnAs, ended, goes_on, GoesOnFrom, plan_of, StartsFrom}
use Rattle.syn_runs.specs.Picture.{RunsOver, IsNext, IsNothing, CoordinatorGoes}
use Rattle.syn_machine.specs.Machine.{Status, Up}
use Rattle.syn_runs.proofs.Invariant.{Plans, plan_in, histories_of, IsKept, Histories, IsSound}
use Rattle.syn_runs.proofs.Invariant.{IsFresh, IsHarmless, IsSoundSide, IsSoundCoordinator}
use Rattle.syn_machine.proofs.NetworkLemmas.{on_both}
use Rattle.syn_runs.proofs.SideSteps.{if_some, asked_was_sent}
use Rattle.syn_runs.proofs.LogLemmas.{no_plan}
use Rattle.syn_runs.proofs.SoundLemmas.{IsNew, push-grows, push-here, sound-plan, sound-keep}
use Rattle.syn_runs.proofs.SoundLemmas.{kept_session}
use Rattle.syn_runs.proofs.HarmlessLemmas.{due_harmless}
use Rattle.syn_runs.proofs.StepLemmas.{coordinator_keeps, next_fresh, sides-later, sides-plan}
use Rattle.syn_runs.proofs.SideRuns.{Advances, kept_legal, stay_moves, stays}

-- The coordinator

coordinator_advances : (plans later : Plans) (old : Picture) (logged : Log) (D : Kept → Type 0)
    (R : Option SessionPicture → Type 0) (new : Picture) →
    (g : CoordinatorGoes old logged D R new) →
    IsKept later new → Advances plans old new
coordinator_advances plans later old logged D R new g k = record {
  later = later;
  kept = k;
  which = Left;
  moves =
      stay_moves plans old new (ap (λ w. histories_of w Left) g.result)
      (ap (λ w. histories_of w Right) g.result);
  messages = g.messages;
  sends = ap (λ w. w.sent) g.result;
  logged = logged;
  logs = ap (λ w. w.log) g.result;
  acks = map (λ k. Kept_by k) g.kept;
  acknowledges = ap (λ w. w.acknowledged) g.result;
  legal_step = kept_legal old g.kept;
}

abbrev pub HasItsPlan : Plans → Histories → Option SessionPicture → Type 0
HasItsPlan plans histories o =
    IfSome o (λ running. (plan_in plans running.session ≡ running.plan)
    × (running.plan ≡ [] → IsFresh histories running.session))

runs_has : (plans : Plans) (histories : Histories) (r : SessionPicture) (plan : List Planned) →
    plan_in plans r.session ≡ plan → (plan ≡ [] → IsFresh histories r.session) →
    (o : Option SessionPicture) → GoesOnAs r plan o → HasItsPlan plans histories o
runs_has plans histories r plan has fresh _ ended = tt
runs_has plans histories r plan has fresh _ (goes_on new session_is prefers plan_is) = (
  ap (plan_in plans) session_is ∙ (has ∙ sym plan_is),
  λ e. subst (IsFresh histories) (sym session_is) (fresh (sym plan_is ∙ e)),
)

module _ (plans : Plans) (old : Picture) (k : IsKept plans old) (new : Picture) where
  pub running_has : (r : SessionPicture) → old.coordinator.running ≡ Some r →
      (plan_in plans r.session ≡ r.plan) × (r.plan ≡ [] → IsFresh (histories_of old) r.session)
  running_has r e = subst (HasItsPlan plans (histories_of old)) e k.coordinator.running

  pub running_over : (r : SessionPicture) → old.coordinator.running ≡ Some r →
      RunsOver old.sent old.coordinator.archive (Some r)
  running_over r e = subst (RunsOver old.sent old.coordinator.archive) e k.coordinator.runs_over

  pub waits_for : (r : SessionPicture) →
      old.coordinator.running ≡ Some r → (from : Which) (number : ℕ) (request : Request) →
      asked_of r from number ≡ Some request → Contains old.sent (Asks from r.session number request)
  waits_for r e from number request asked =
      asked_was_sent old.sent from r.session number (outstanding r from)
      ((running_over r e).1 from) request asked

  pub take_with : (from : Which) (session number : ℕ) (said : Reply)
      (plan : List Planned) (logged : Log) →
      Contains old.sent (Answers from session number said) → (running : Option SessionPicture) →
      old.coordinator.running ≡ running → IsExpected running from session number →
      HasPlan old.sent old.coordinator.archive old.log running plan logged →
      CoordinatorGoes old logged (IsDueAfter running plan from number said)
      (GoesOnFrom running plan) new → Advances plans old new
  take_with from session number said plan logged c None e expected made g = absurd expected
  take_with from session number said plan logged c (Some r) e expected (inl (same, none)) g =
      let has = running_has r e in
      let planned : plan_in plans r.session ≡ plan = has.0 ∙ sym same in
      let c' = subst (λ n. Contains old.sent (Answers from n number said)) expected.0 c in
      coordinator_advances plans plans old logged (IsDueAfter (Some r) plan from number said)
      (GoesOnFrom (Some r) plan) new g
      (coordinator_keeps plans old logged (IsDueAfter (Some r) plan from number said)
      (GoesOnFrom (Some r) plan) new
      (ap (λ more. old.log ++ more) none ∙ (append-nil old.log ∙ k.logged)) k.sound k.sides
      (λ kept due. due_harmless plans (histories_of old) old.coordinator.archive old.sent k.sound r
      (running_over r e).0 plan planned from number said kept c' (waits_for r e from number) due)
      g
      (runs_has plans (histories_of old) r plan planned
      (λ x. has.1 (sym same ∙ x)) g.machine.running g.runs_on))
  take_with from session number said plan logged c (Some r) e expected
      (inr (entry, makes, plan_is, logs)) g =
      let has = running_has r e in
      let new_one : IsNew plans entry =
      subst (λ n. All (λ earlier. earlier.session ≢ n) plans) (sym makes.of_session)
      (subst (All (λ earlier. earlier.session ≢ r.session)) k.logged makes.once) in
      let none : plan_in plans r.session ≡ [] = ap (plan_in plans) (sym makes.of_session)
      ∙ no_plan plans entry.session new_one in
      let fresh = has.1 (sym has.0 ∙ none) in
      let plans' = plans ++ entry ∷ [] in
      let planned : plan_in plans' r.session ≡ plan = ap (plan_in plans') (sym makes.of_session)
      ∙ (push-here plans entry new_one ∙ sym plan_is) in
      let sound = sound-plan plans (histories_of old) old.coordinator.archive old.sent k.sound entry
      new_one makes.archive_is makes.is
      (subst (IsFresh (histories_of old)) (sym makes.of_session) fresh) in
      let c' = subst (λ n. Contains old.sent (Answers from n number said)) expected.0 c in
      coordinator_advances plans plans' old logged (IsDueAfter (Some r) plan from number said)
      (GoesOnFrom (Some r) plan) new g
      (coordinator_keeps plans' old logged (IsDueAfter (Some r) plan from number said)
      (GoesOnFrom (Some r) plan) new (ap₂ (λ had more. had ++ more) k.logged logs) sound
      (λ side. sides-plan plans plans' (push-grows plans entry new_one)
      (histories_of old) old.coordinator.archive side (side_of old side) (k.sides side))
      (λ kept due. due_harmless plans' (histories_of old) old.coordinator.archive old.sent sound r
      (running_over r e).0 plan planned from number said kept c' (waits_for r e from number) due)
      g
      (runs_has plans' (histories_of old) r plan planned (λ _. fresh) g.machine.running g.runs_on))

  pub tick_with : (running : Option SessionPicture) → old.coordinator.running ≡ running →
      CoordinatorGoes old [] IsNothing (GoesOnFrom running (plan_of running)) new →
      Advances plans old new
  tick_with None e g = coordinator_advances plans plans old [] IsNothing (GoesOnFrom None []) new g
      (coordinator_keeps plans old
      [] IsNothing (GoesOnFrom None []) new (append-nil old.log ∙ k.logged) k.sound k.sides
      (λ kept due. absurd due) g (subst (HasItsPlan plans (histories_of old)) (sym g.runs_on) tt))
  tick_with (Some r) e g =
      let has = running_has r e in
      coordinator_advances plans plans old [] IsNothing (GoesOnFrom (Some r) r.plan) new g
      (coordinator_keeps plans old [] IsNothing (GoesOnFrom (Some r) r.plan) new
      (append-nil old.log ∙ k.logged) k.sound k.sides (λ kept due. absurd due) g
      (runs_has plans (histories_of old) r r.plan has.0 has.1 g.machine.running g.runs_on))

  session_harmless : (n : ℕ) → IsHarmless plans (histories_of old) (Session n)
  session_harmless n =
      record {
        leaves = λ session item planned side path e w last quiet archive tree can. refl;
        held = tt;
      }

  starts_has : (preference : Option Which) (o : Option SessionPicture) →
      StartsFrom preference old.coordinator.archive o → HasItsPlan plans (histories_of old) o
  starts_has preference None s = tt
  starts_has preference (Some r) s =
      let f = next_fresh plans
      (histories_of old) old.coordinator.archive old.sent k.sound r.session s.0 in
      (no_plan plans r.session f.0 ∙ sym s.1, λ _. f.1)

  pub start_advances : (preference : Option Which) →
      CoordinatorGoes old [] (IsNext old.coordinator.archive)
      (StartsFrom preference old.coordinator.archive) new → Advances plans old new
  start_advances preference g =
      coordinator_advances plans plans old
      [] (IsNext old.coordinator.archive) (StartsFrom preference old.coordinator.archive) new g
      (coordinator_keeps plans old [] (IsNext old.coordinator.archive)
      (StartsFrom preference old.coordinator.archive) new (append-nil old.log ∙ k.logged) k.sound
      k.sides
      (λ kept due. subst (IsHarmless plans (histories_of old)) (sym due) (session_harmless
      (old.coordinator.archive.last_session + 1))) g
      (starts_has preference g.machine.running g.runs_on))

  -- the coordinator's machine alone changes, and says nothing
  pub coordinator_settles : (machine : CoordinatorPicture) (ks : List Kept) →
      IsSound plans (histories_of old) machine.archive old.sent →
      old.coordinator.archive.last_session ≤ machine.archive.last_session →
      IsSoundCoordinator plans (histories_of old) old.sent machine → new ≡ record old
      { coordinator = machine; acknowledged = old.acknowledged ++ map (λ k. Kept_by k) ks } →
      Advances plans old new
  coordinator_settles machine ks sound later coordinator e = record {
    later = plans;
    which = Left;
    moves =
        stay_moves plans old new (ap (λ w. histories_of w Left) e)
        (ap (λ w. histories_of w Right) e);
    kept = subst (IsKept plans) (sym e) (record {
      logged = k.logged;
      sound = sound;
      sides =
          λ side. on_both
          (λ s. IsSoundSide plans (histories_of old) machine.archive s (side_of old s)) side
          (sides-later plans (histories_of old) old.coordinator.archive machine.archive side
          (side_of old side) later (k.sides side))
          (sides-later plans (histories_of old) old.coordinator.archive machine.archive (other side)
          (side_of old (other side)) later (k.sides (other side))) side;
      coordinator = coordinator;
    });
    messages = [];
    sends = ap (λ w. w.sent) e ∙ sym (append-nil old.sent);
    logged = [];
    logs = ap (λ w. w.log) e ∙ sym (append-nil old.log);
    acks = map (λ k. Kept_by k) ks;
    acknowledges = ap (λ w. w.acknowledged) e;
    legal_step = kept_legal old ks;
  }

  abbrev IsPending : Status → Option SessionPicture → Kept → Type 0
  IsPending status running kept =
      (status ≢ Up) × (running ≡ None) × CanKeep old.coordinator.archive kept
      × IsHarmless plans (histories_of old) kept

  pub no_acks : (machine : CoordinatorPicture) →
      new ≡ record old { coordinator = machine } → new ≡ record old
      { coordinator = machine; acknowledged = old.acknowledged ++ map (λ k. Kept_by k) [] }
  no_acks machine e =
      e ∙ ap (λ a. record old { coordinator = machine; acknowledged = a })
      (sym (append-nil old.acknowledged))

  -- with another status, unless that is up, and with the session or without it
  pub archive_changes_so : (status : Status) (running : Option SessionPicture) →
      (old.coordinator.status ≢ Up → status ≢ Up) →
      (running ≡ old.coordinator.running) ⊎ (running ≡ None) → new
      ≡ record old { coordinator = record old.coordinator { status = status; running = running } } →
      Advances plans old new
  archive_changes_so status running keeps stays e =
      coordinator_settles (record old.coordinator { status = status; running = running })
      [] k.sound (omega arith) (record {
        running = has running stays;
        runs_over = over running stays;
        writing =
            if_some old.coordinator.writing
            (IsPending old.coordinator.status old.coordinator.running)
            (IsPending status running) k.coordinator.writing
            (λ kept _ x. (keeps x.0, none running stays x.1, x.2, x.3));
      }) (no_acks (record old.coordinator { status = status; running = running }) e)
    where
      has : (running : Option SessionPicture) → (running ≡ old.coordinator.running) ⊎
          (running ≡ None) →
          HasItsPlan plans (histories_of old) running
      has running (inl still) =
          subst (HasItsPlan plans (histories_of old)) (sym still) k.coordinator.running
      has running (inr gone) = subst (HasItsPlan plans (histories_of old)) (sym gone) tt

      over : (running : Option SessionPicture) → (running ≡ old.coordinator.running) ⊎
          (running ≡ None) →
          RunsOver old.sent old.coordinator.archive running
      over running (inl still) =
          subst (RunsOver old.sent old.coordinator.archive) (sym still) k.coordinator.runs_over
      over running (inr gone) = subst (RunsOver old.sent old.coordinator.archive) (sym gone) tt

      none : (running : Option SessionPicture) → (running ≡ old.coordinator.running) ⊎
          (running ≡ None) →
          old.coordinator.running ≡ None → running ≡ None
      none running (inl still) was = still ∙ was
      none running (inr gone) was = gone

  pub archive_opens_so :
      new ≡ record old { coordinator = record old.coordinator { status = Up; writing = None } } →
      Advances plans old new
  archive_opens_so e =
      coordinator_settles (record old.coordinator { status = Up; writing = None })
      [] k.sound (omega arith)
      (record {
        running = k.coordinator.running;
        runs_over = k.coordinator.runs_over;
        writing = tt;
      }) (no_acks (record old.coordinator { status = Up; writing = None }) e)

  pub archive_recovers_so : (kept : Kept) → old.coordinator.writing ≡ Some kept →
      CanKeep old.coordinator.archive kept → new ≡ record old {
        coordinator = record old.coordinator
            { status = Up; archive = after_kept old.coordinator.archive kept; writing = None };
        acknowledged = old.acknowledged ++ map (λ k. Kept_by k) (kept ∷ []);
      } → Advances plans old new
  archive_recovers_so kept w can e =
      let pending : IsPending old.coordinator.status old.coordinator.running kept =
      subst (λ o. IfSome o (IsPending old.coordinator.status old.coordinator.running)) w
      k.coordinator.writing in
      coordinator_settles (record old.coordinator {
        status = Up;
        archive = after_kept old.coordinator.archive kept;
        writing = None;
      }) (kept ∷ [])
      (sound-keep plans (histories_of old) old.coordinator.archive old.sent k.sound kept can
      pending.3) (kept_session old.coordinator.archive kept can)
      (record {
        running = k.coordinator.running;
        runs_over = subst (RunsOver old.sent
            (after_kept old.coordinator.archive kept)) (sym pending.1) tt;
        writing = tt;
      }) e
