-- What each step keeps of the session that runs and of the reports.
use Rattle.std.proofs.Common.{◌≡◌, ◌≤◌, ◌+◌, ℕ, List, [], ◌∷◌, ◌++◌, map, filter_map, length, refl}
use Rattle.std.proofs.Common.{sym, ap, ◌∙◌, subst, Option, Some, None, append-nil, arith, inl, inr}
use Rattle.std.proofs.Common.{slice_get}
use Rattle.std.specs.Prelude.{Contains, All, IfSome}
use Rattle.std.proofs.lemmas.List.Elements.{All-head, All-tail, All-weaker, filter_map-append}
use Rattle.std.proofs.lemmas.List.Elements.{Contains-append_right}
use Rattle.std.proofs.lemmas.Option.{none-some, same_Some}
use Rattle.syn_model.specs.Path.{Path}
use Rattle.syn_model.specs.History.{is_quiet}
use Rattle.syn_model.specs.Archive.{Archive, Kept, Session, Recorded, archive_of}
use Rattle.syn_machine.specs.Side.{Request, Reply, Done, Replace}
use Rattle.syn_machine.specs.Network.{Which, other, Sent, Asks, Answers}
use Rattle.syn_machine.specs.Planning.{Planned, Log, seen_on, WritesTo}
use Rattle.syn_runs.specs.Acknowledged.{Ack, Kept_by, kept_in, Stores}
use Rattle.syn_runs.specs.Picture.{Picture, SessionPicture, asked_of, IsExpected, IsDue, done}
use Rattle.syn_runs.specs.Picture.{same, directory, IsDueAfter, HasPlan, GoesOnAs, goes_on}
use Rattle.syn_runs.specs.Picture.{ended, GoesOnFrom, plan_of, StartsFrom, RunsOver, IsNext}
use Rattle.syn_runs.specs.Picture.{IsNothing, AllCanKeep, CoordinatorGoes}
use Rattle.syn_runs.specs.Headline.{StandsFor}
use Rattle.syn_runs.proofs.Invariant.{Plans, plan_in, IsPlanFrom, Histories, histories_of}
use Rattle.syn_runs.proofs.Invariant.{IsSound, IsKept}
use Rattle.syn_runs.proofs.LogLemmas.{no_plan, scans_of, plan_from}
use Rattle.syn_runs.proofs.WorldLemmas.{kept_kept}
use Rattle.syn_runs.proofs.SideRuns.{Advances}
use Rattle.syn_runs.proofs.CoordinatorRuns.{running_has, running_over, waits_for}
use Rattle.syn_runs.proofs.CourseLemmas.{Course, beside, starts, ticks, takes}
use Rattle.syn_runs.proofs.CompleteLemmas.{IsRecordDue, carried, alike, marked}
use Rattle.syn_runs.proofs.UnderwayLemmas.{IsUnderway, underway_moves, underway_says}
use Rattle.syn_runs.proofs.UnderwayLemmas.{underway_records, underway_plans, underway_starts}
use Rattle.syn_runs.proofs.KeptLemmas.{can-append, not_again}

-- what the coordinator kept since before the run
abbrev pub all_kept : Picture → List Kept
all_kept world = filter_map kept_in world.acknowledged

-- the session that runs has done what it should
abbrev pub RunsWell : Archive → Picture → Option SessionPicture → Type 0
RunsWell before world running =
    IfSome running (λ r. IsUnderway world.log before (histories_of world) world.sent
    (all_kept world) r.session r.plan)

-- what is due was done, was alike or is a directory
module _ (plans : Plans) (histories : Histories) (archive : Archive) (sent : Sent)
    (sound : IsSound plans histories archive sent) (r : SessionPicture) (plan : List Planned)
    (from : Which)
    (number : ℕ) (reply : Reply)
    (heard : Contains sent (Answers from r.session number reply))
    (asks : (request : Request) → asked_of r from number ≡ Some request →
    Contains sent (Asks from r.session number request)) where
  -- what was asked for and done was touched since it was listed
  done_due : (item : ℕ) (path : Path) (since size : ℕ) (planned : Planned) →
      plan_in plans r.session ≡ plan → reply ≡ Done →
      Contains sent (Asks from r.session number (Replace item path since size)) →
      slice_get plan item ≡ Some planned → WritesTo planned.item from path →
      IsRecordDue plan histories (Recorded path (seen_on planned (other from)).marks)
  done_due item path since size planned has is asked at w =
      let by_plan =
      (sound.asked from r.session number (Replace item path since size) asked).by_plan in
      let same_planned : by_plan.0 ≡ planned =
      same_Some _ _ (sym by_plan.1 ∙ (ap (λ p. slice_get p item) has ∙ at)) in
      let since_is : since ≡ (seen_on planned from).since = by_plan.3
      ∙ ap (λ d. (seen_on d from).since) same_planned in
      let true_done = sound.answered from r.session number Done (Replace item path since size)
      (subst (λ said. Contains sent (Answers from r.session number said)) is heard) asked in
      carried from item planned path at w
      (subst (λ k. k ≤ length (histories from)) since_is true_done.0)
      (ap (λ k. is_quiet (histories from) k (length (histories from)) path) (sym since_is)
      ∙ true_done.1)

  done_recorded : (logged : Log) → HasPlan sent archive plans (Some r) plan logged →
      plan_in plans r.session ≡ r.plan → (item : ℕ) (path : Path) (since size : ℕ)
      (planned : Planned) → reply ≡ Done →
      Contains sent (Asks from r.session number (Replace item path since size)) →
      slice_get plan item ≡ Some planned → WritesTo planned.item from path →
      IsRecordDue plan histories (Recorded path (seen_on planned (other from)).marks)
  done_recorded logged (inl stays) has item path since size planned is asked at w =
      done_due item path since size planned (has ∙ sym stays.0) is asked at w
  done_recorded logged (inr made) has item path since size planned is asked at w =
      let by_plan =
      (sound.asked from r.session number (Replace item path since size) asked).by_plan in
      absurd (none-some _
      (ap (λ p. slice_get p item) (sym (no_plan plans r.session made.1.once)) ∙ by_plan.1))

  due_recorded : (logged : Log) → HasPlan sent archive plans (Some r) plan logged →
      plan_in plans r.session ≡ r.plan → (kept : Kept) → IsDue r plan from number reply kept →
      IsRecordDue plan histories kept
  due_recorded logged made has _ (done item path since size planned is out at w) =
      done_recorded logged made has item path since size planned is
      (asks (Replace item path since size) out) at w
  due_recorded logged made has _ (same item path planned at kind agree) =
      alike item planned path at kind
  due_recorded logged made has _ (directory item path planned at kind) =
      marked item planned path at kind

-- a running session's plan is made, and what is due is recorded
module _ (before : Archive) (plans : Plans) (histories : Histories) (archive : Archive)
    (sent : Sent) (sound : IsSound plans histories archive sent) (kept : List Kept)
    (archive_is : archive ≡ archive_of before kept)
    (r : SessionPicture) (has : plan_in plans r.session ≡ r.plan)
    (h : IsUnderway plans before histories sent kept r.session r.plan) (plan : List Planned)
    (logged : Log) where
  pub planned_then : HasPlan sent archive plans (Some r) plan logged →
      IsUnderway (plans ++ logged) before histories sent kept r.session plan
  planned_then (inl stays) =
      subst (λ log. IsUnderway log before histories sent kept r.session plan)
      (sym (append-nil plans) ∙ ap (λ more. plans ++ more) (sym stays.1))
      (subst (IsUnderway plans before histories sent kept r.session) (sym stays.0) h)
  planned_then (inr (entry, makes, plan_is, logs)) =
      let from = plan_from sent entry makes.is in
      let is = subst (IsPlanFrom sent r.session archive.marks (scans_of entry)) (sym plan_is)
      (subst (λ marks. IsPlanFrom sent r.session marks (scans_of entry) entry.plan) makes.archive_is
      (subst (λ n. IsPlanFrom sent n entry.archive (scans_of entry) entry.plan) makes.of_session
      from)) in
      underway_plans plans (plans ++ logged) before plans histories archive sent sound kept
      archive_is r.session r.plan plan (sym has ∙ no_plan plans r.session makes.once)
      (scans_of entry) is (record {
        made = entry;
        logged = subst (λ more. Contains (plans ++ more) entry) (sym logs)
            (Contains-append_right plans (entry ∷ []) entry (0, omega arith, refl));
        of_session = makes.of_session;
        prefers = refl;
      }) h

  pub all_due : (made : HasPlan sent archive plans (Some r) plan logged) (from : Which) (number : ℕ)
      (reply : Reply) → Contains sent (Answers from r.session number reply) → ((request : Request) →
      asked_of r from number ≡ Some request → Contains sent (Asks from r.session number request)) →
      (more : List Kept) → All (IsDue r plan from number reply) more →
      All (IsRecordDue plan histories) more
  all_due made from number reply heard asks more due =
      All-weaker (IsDue r plan from number reply) (IsRecordDue plan histories) (due_recorded plans
      histories archive sent sound r plan from number reply heard asks logged made has) more due

-- a session goes on
goes_on_well : (log : Log) (before : Archive) (histories : Histories) (sent more : Sent)
    (kept : List Kept) (r : SessionPicture) (plan : List Planned) →
    IsUnderway log before histories sent kept r.session plan →
    (o : Option SessionPicture) → GoesOnAs r plan o →
    IfSome o (λ next. IsUnderway log before histories (sent ++ more) kept next.session next.plan)
goes_on_well log before histories sent more kept r plan h _ ended = tt
goes_on_well log before histories sent more kept r plan h _
    (goes_on next session_is prefers plan_is) =
    subst (λ s. IsUnderway log before histories (sent ++ more) kept s next.plan) (sym session_is)
    (subst (IsUnderway log before histories (sent ++ more) kept r.session) (sym plan_is)
    (underway_says log before histories sent more kept r.session plan h))

nothing_due : (kept : List Kept) → All IsNothing kept → kept ≡ []
nothing_due [] all = refl
nothing_due (x ∷ kept) all = absurd (All-head IsNothing x kept all)

-- a start keeps its number and nothing else
one_number : (a : Archive) (kept : List Kept) (session : ℕ) → All (IsNext a) kept →
    AllCanKeep a kept → session ≡ a.last_session + 1 → session ≡ (archive_of a kept).last_session →
    kept ≡ Session session ∷ []
one_number a [] session all can next last = absurd (omega (arith, next, last))
one_number a (x ∷ []) session all can next last =
    ap (λ k. k ∷ []) (All-head (IsNext a) x [] all ∙ ap Session (sym next))
one_number a (x ∷ y ∷ kept) session all can next last =
    let first = All-head (IsNext a) x (y ∷ kept) all in
    let second = All-head (IsNext a) y kept (All-tail (IsNext a) x (y ∷ kept) all) in
    absurd (not_again a (a.last_session + 1)
    [] kept (subst (λ z. AllCanKeep a (z ∷ (Session (a.last_session + 1) ∷ kept))) first
    (subst (λ z. AllCanKeep a (x ∷ (z ∷ kept))) second can)))

module _ (before : Stores) (plans : Plans) (old new : Picture) (k : IsKept plans old)
    (stands : StandsFor before old)
    (runs : RunsWell before.archive old old.coordinator.running) where
  kept_more : (acks : List Ack) → new.acknowledged ≡ old.acknowledged ++ acks →
      all_kept new ≡ all_kept old ++ filter_map kept_in acks
  kept_more acks e = ap (filter_map kept_in) e ∙ filter_map-append kept_in old.acknowledged acks

  can_more : AllCanKeep before.archive (all_kept old) → (acks : List Ack) →
      new.acknowledged ≡ old.acknowledged ++ acks →
      AllCanKeep old.coordinator.archive (filter_map kept_in acks) →
      AllCanKeep before.archive (all_kept new)
  can_more can acks e more = subst (AllCanKeep before.archive) (sym (kept_more acks e))
      (can-append before.archive (all_kept old) (filter_map kept_in acks) can
      (subst (λ a. AllCanKeep a (filter_map kept_in acks)) stands.archive more))

  pub running_well : (r : SessionPicture) → old.coordinator.running ≡ Some r →
      IsUnderway old.log before.archive (histories_of old) old.sent (all_kept old) r.session r.plan
  running_well r e = subst (RunsWell before.archive old) e runs

  -- beside the session
  beside_well : Advances plans old new → new.log ≡ old.log → all_kept new ≡ all_kept old →
      (o : Option SessionPicture) → old.coordinator.running ≡ o → RunsWell before.archive new o
  beside_well a logs stays None e = tt
  beside_well a logs stays (Some r) e =
      subst (λ log. IsUnderway log before.archive (histories_of new) new.sent (all_kept new)
      r.session r.plan) (sym logs) (subst (λ sent. IsUnderway old.log before.archive
      (histories_of new) sent (all_kept new) r.session r.plan) (sym a.sends)
      (subst (λ kept. IsUnderway old.log before.archive (histories_of new)
      (old.sent ++ a.messages) kept r.session r.plan) (sym stays)
      (underway_moves plans old.coordinator.archive old.sent (histories_of old)
      (histories_of new) k.sound a.which a.moves r.session
      (running_over plans old k new r e).0 r.plan (running_has plans old k new r e).0
      old.log before.archive (all_kept old) a.messages (running_well r e))))

  module _ (logged : Log) (D : Kept → Type 0) (R : Option SessionPicture → Type 0)
      (g : CoordinatorGoes old logged D R new) where
    kept_then : filter_map kept_in (old.acknowledged ++ map Kept_by g.kept) ≡ all_kept old ++ g.kept
    kept_then =
        filter_map-append kept_in old.acknowledged (map Kept_by g.kept)
        ∙ ap (λ ks. all_kept old ++ ks) (kept_kept g.kept)

    pub goes_kept : all_kept new ≡ all_kept old ++ g.kept
    goes_kept = ap all_kept g.result ∙ kept_then

    goes_can : AllCanKeep before.archive (all_kept old) → AllCanKeep before.archive (all_kept new)
    goes_can can =
        can_more can (map Kept_by g.kept) (ap (λ w. w.acknowledged) g.result)
        (subst (AllCanKeep old.coordinator.archive) (sym (kept_kept g.kept)) g.keeps.can)

    -- what holds of the session that then runs
    goes_well : IfSome g.machine.running (λ r. IsUnderway (old.log ++ logged) before.archive
        (histories_of old) (old.sent ++ g.messages) (all_kept old ++ g.kept) r.session r.plan) →
        RunsWell before.archive new new.coordinator.running
    goes_well h = subst (λ w. RunsWell before.archive w w.coordinator.running) (sym g.result)
        (subst (λ kept. IfSome g.machine.running (λ r. IsUnderway (old.log ++ logged) before.archive
        (histories_of old) (old.sent ++ g.messages) kept r.session r.plan)) (sym kept_then) h)

  starts_well : (preference : Option Which) (g : CoordinatorGoes old
      [] (IsNext old.coordinator.archive) (StartsFrom preference old.coordinator.archive) new) →
      RunsWell before.archive new new.coordinator.running
  starts_well preference g =
      goes_well [] (IsNext old.coordinator.archive)
      (StartsFrom preference old.coordinator.archive) g
      (well g.machine.running g.runs_on g.runs_over)
    where
      well : (o : Option SessionPicture) → StartsFrom preference old.coordinator.archive o →
          RunsOver (old.sent ++ g.messages) g.machine.archive o →
          IfSome o (λ r. IsUnderway (old.log ++ []) before.archive (histories_of old)
          (old.sent ++ g.messages) (all_kept old ++ g.kept) r.session r.plan)
      well None s over = tt
      well (Some r) s over =
          let one = one_number old.coordinator.archive g.kept r.session g.keeps.due g.keeps.can s.0
          (over.0 ∙ ap (λ a. a.last_session) g.keeps.archive) in
          subst (λ kept. IsUnderway (old.log ++ []) before.archive (histories_of old)
          (old.sent ++ g.messages) (all_kept old ++ kept) r.session r.plan) (sym one)
          (subst (IsUnderway (old.log ++ []) before.archive (histories_of old)
          (old.sent ++ g.messages) (all_kept old ++ Session r.session ∷ []) r.session) (sym s.1)
          (underway_says (old.log ++ []) before.archive (histories_of old) old.sent g.messages
          (all_kept old ++ Session r.session ∷ []) r.session []
          (subst (λ log. IsUnderway log before.archive (histories_of old) old.sent (all_kept old
          ++ Session r.session ∷ []) r.session []) (sym k.logged ∙ sym (append-nil old.log))
          (underway_starts before.archive plans (histories_of old) old.coordinator.archive old.sent
          k.sound (all_kept old) r.session s.0))))

  ticks_well : (o : Option SessionPicture) → old.coordinator.running ≡ o →
      CoordinatorGoes old [] IsNothing (GoesOnFrom o (plan_of o)) new →
      RunsWell before.archive new new.coordinator.running
  ticks_well None e g =
      goes_well [] IsNothing (GoesOnFrom None []) g
      (subst (λ o. IfSome o (λ r. IsUnderway (old.log ++ []) before.archive (histories_of old)
      (old.sent ++ g.messages) (all_kept old ++ g.kept) r.session r.plan)) (sym g.runs_on) tt)
  ticks_well (Some r) e g =
      let none = nothing_due g.kept g.keeps.due in
      goes_well [] IsNothing (GoesOnFrom (Some r) r.plan) g
      (goes_on_well (old.log ++ []) before.archive (histories_of old) old.sent g.messages
      (all_kept old ++ g.kept) r r.plan
      (subst (λ kept. IsUnderway (old.log ++ []) before.archive (histories_of old) old.sent kept
      r.session r.plan) (sym (append-nil (all_kept old)) ∙ ap (λ ks. all_kept old ++ ks)
      (sym none)) (subst (λ log. IsUnderway log before.archive (histories_of old) old.sent
      (all_kept old) r.session r.plan) (sym (append-nil old.log)) (running_well r e)))
      g.machine.running g.runs_on)

  module _ (r : SessionPicture) (e : old.coordinator.running ≡ Some r) (from : Which)
      (session number : ℕ)
      (reply : Reply) (plan : List Planned) (logged : Log)
      (heard : Contains old.sent (Answers from session number reply))
      (expected : IsExpected (Some r) from session number)
      (made : HasPlan old.sent old.coordinator.archive old.log (Some r) plan logged) where
    -- of the log that is kept
    made_of : HasPlan old.sent old.coordinator.archive plans (Some r) plan logged
    made_of =
        subst (λ log. HasPlan old.sent old.coordinator.archive log (Some r) plan logged) k.logged
        made

    well_of : IsUnderway plans before.archive (histories_of old) old.sent
        (all_kept old) r.session r.plan
    well_of =
        subst (λ log. IsUnderway log before.archive (histories_of old) old.sent
        (all_kept old) r.session r.plan) k.logged (running_well r e)

    pub plan_then : IsUnderway (old.log ++ logged) before.archive (histories_of old) old.sent
        (all_kept old) r.session plan
    plan_then =
        subst (λ log. IsUnderway (log ++ logged) before.archive (histories_of old) old.sent
        (all_kept old) r.session plan) (sym k.logged)
        (planned_then before.archive plans (histories_of old) old.coordinator.archive old.sent
        k.sound (all_kept old) stands.archive r
        (running_has plans old k new r e).0 well_of plan logged made_of)

    pub due_then : (kept : List Kept) → All (IsDue r plan from number reply) kept →
        All (IsRecordDue plan (histories_of old)) kept
    due_then kept due =
        all_due before.archive plans (histories_of old) old.coordinator.archive old.sent k.sound
        (all_kept old) stands.archive r
        (running_has plans old k new r e).0 well_of plan logged made_of from number reply
        (subst (λ n. Contains old.sent (Answers from n number reply)) expected.0 heard)
        (waits_for plans old k new r e from number) kept due

    takes_one : (g : CoordinatorGoes old logged (IsDueAfter (Some r) plan from number reply)
        (GoesOnFrom (Some r) plan) new) → RunsWell before.archive new new.coordinator.running
    takes_one g =
        goes_well logged (IsDueAfter (Some r) plan from number reply) (GoesOnFrom (Some r) plan) g
        (goes_on_well (old.log ++ logged) before.archive (histories_of old) old.sent g.messages
        (all_kept old ++ g.kept) r plan
        (underway_records (old.log ++ logged) before.archive (histories_of old) old.sent
        (all_kept old) g.kept r.session plan (due_then g.kept g.keeps.due) plan_then)
        g.machine.running g.runs_on)

  takes_well : (o : Option SessionPicture) → old.coordinator.running ≡ o → (from : Which)
      (session number : ℕ) (reply : Reply) (plan : List Planned) (logged : Log) →
      Contains old.sent (Answers from session number reply) → IsExpected o from session number →
      HasPlan old.sent old.coordinator.archive old.log o plan logged →
      CoordinatorGoes old logged (IsDueAfter o plan from number reply) (GoesOnFrom o plan) new →
      RunsWell before.archive new new.coordinator.running
  takes_well None e from session number reply plan logged heard expected made g = absurd expected
  takes_well (Some r) e from session number reply plan logged heard expected made g =
      takes_one r e from session number reply plan logged heard expected made g

  -- the session that then runs has done what it should
  pub runs_well : Advances plans old new → Course old new →
      RunsWell before.archive new new.coordinator.running
  runs_well a (beside acks added can (inl none) reports logs) =
      subst (RunsWell before.archive new) (sym none) tt
  runs_well a (beside acks added can (inr stays) reports logs) =
      subst (RunsWell before.archive new) (sym stays.0)
      (beside_well a logs (kept_more acks added ∙ (ap (λ ks. all_kept old ++ ks) stays.1
      ∙ append-nil (all_kept old))) old.coordinator.running refl)
  runs_well a (starts preference g reports) = starts_well preference g
  runs_well a (ticks g reports) = ticks_well old.coordinator.running refl g
  runs_well a (takes from session number reply plan logged heard expected made g reports) =
      takes_well old.coordinator.running refl from session number reply plan logged heard expected
      made g

  -- and all that was kept could be
  pub all_can : AllCanKeep before.archive (all_kept old) → Course old new →
      AllCanKeep before.archive (all_kept new)
  all_can can (beside acks added more runs reports logs) = can_more can acks added more
  all_can can (starts preference g reports) = goes_can _ _ _ g can
  all_can can (ticks g reports) = goes_can _ _ _ g can
  all_can can (takes from session number reply plan logged heard expected made g reports) =
      goes_can _ _ _ g can
