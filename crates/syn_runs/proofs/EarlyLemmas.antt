-- What the plans of a run saw, each side had seen before it began a later session.
use Rattle.std.proofs.Common.{◌≡◌, ◌≢◌, ◌≤◌, ◌<◌, ◌+◌, ℕ, zero, suc, List, [], ◌∷◌, ◌++◌, length}
use Rattle.std.proofs.Common.{refl, sym, ap, ◌∙◌, subst, Option, Some, None, append-nil, arith, inl}
use Rattle.std.proofs.Common.{inr, slice_get}
use Rattle.std.specs.Prelude.{Contains, All, AllPairs, IfSome}
use Rattle.std.proofs.lemmas.List.{length-append}
use Rattle.std.proofs.lemmas.List.Elements.{All-nil, All-cons, All-append, All-contains}
use Rattle.std.proofs.lemmas.List.Elements.{Contains-push_cases}
use Rattle.syn_model.specs.Path.{Path}
use Rattle.syn_model.specs.Event.{Began}
use Rattle.syn_model.specs.History.{History, last_session}
use Rattle.syn_model.specs.Archive.{Kept}
use Rattle.syn_machine.specs.Network.{Which, Left, Right}
use Rattle.syn_runs.specs.Acknowledged.{Stores}
use Rattle.syn_machine.specs.Planning.{Planned, seen_on, SessionPlan, Log, IsPlanOf, WritesTo}
use Rattle.syn_runs.specs.Picture.{Picture, SessionPicture, IsExpected, HasPlan, ended, goes_on}
use Rattle.syn_runs.specs.Picture.{GoesOnFrom, StartsFrom, AllCanKeep, CoordinatorGoes, plan_of}
use Rattle.syn_runs.specs.Headline.{StandsFor}
use Rattle.syn_runs.proofs.Invariant.{Plans, histories_of, IsKept}
use Rattle.syn_machine.proofs.Heard.{split_at}
use Rattle.syn_runs.proofs.LogLemmas.{scans_of, plan_from}
use Rattle.syn_runs.specs.Laws.{AddsAllowed}
use Rattle.syn_runs.proofs.StagedLemmas.{moves_grow}
use Rattle.syn_runs.proofs.PlanLemmas.{since_reached}
use Rattle.syn_runs.proofs.QuietScans.{begun_within}
use Rattle.syn_runs.proofs.KeptLemmas.{sessions_grow}
use Rattle.syn_runs.proofs.SideRuns.{Advances}
use Rattle.syn_runs.proofs.CoordinatorRuns.{running_over}
use Rattle.syn_runs.proofs.CourseLemmas.{Course, beside, starts, ticks, takes}
use Rattle.syn_runs.proofs.WatchLemmas.{all_kept}

-- a side had the position that a plan saw when it began a later session
abbrev pub SeenBefore : Picture → SessionPlan → Type 0
SeenBefore world made =
    (item : ℕ) (planned : Planned) (to : Which) (path : Path) →
    slice_get made.plan item ≡ Some planned → WritesTo planned.item to path →
    (side : Which) (first rest : History) (session : ℕ) → histories_of world side ≡ first
    ++ Began session ∷ rest → made.session < session → (seen_on planned side).since ≤ length first

-- each session of the run is new, and its plan saw nothing later than that
pub record IsEarly (before : Stores) (world : Picture) : Type 0 where
  pub running : IfSome world.coordinator.running (λ r. before.archive.last_session < r.session)
  pub logged : All (λ made. before.archive.last_session < made.session) world.log
  pub seen : (made : SessionPlan) → Contains world.log made → SeenBefore world made

module _ (before : Stores) (plans : Plans) (old new : Picture) (k : IsKept plans old)
    (stands : StandsFor before old) (can : AllCanKeep before.archive (all_kept old))
    (a : Advances plans old new) (e : IsEarly before old) where
  abbrev base : ℕ
  base = before.archive.last_session

  last : base ≤ old.coordinator.archive.last_session
  last =
      subst (λ o. base ≤ o.last_session) (sym stands.archive)
      (sessions_grow before.archive (all_kept old) can)

  grows : (side : Which) → AddsAllowed (histories_of old side) (histories_of new side)
  grows =
      moves_grow plans old.coordinator.archive (histories_of old) (histories_of new) a.which a.moves

  seen_still : (made : SessionPlan) → Contains old.log made → SeenBefore new made
  seen_still made c item planned to path at writes side first rest session is later =
      by (grows side)
    where
      reached : (seen_on planned side).since ≤ length (histories_of old side)
      reached =
          since_reached plans (histories_of old) old.coordinator.archive old.sent k.sound
          made.session made.archive (scans_of made) made.plan
          (plan_from old.sent made (All-contains (IsPlanOf old.sent) plans made k.sound.planned
          (subst (λ log. Contains log made) k.logged c))) item planned to path at writes side

      by : AddsAllowed (histories_of old side) (histories_of new side) →
          (seen_on planned side).since ≤ length first
      by (inl same) =
          e.seen made c item planned to path at writes side first rest session (sym same ∙ is) later
      by (inr (event, allowed, more)) =
          elim (split_at (histories_of old side) (event ∷ []) first (Began session) rest
          (sym more ∙ is)) as (λ _. (seen_on planned side).since ≤ length first) [
            | inl within ↦ e.seen made c item planned to path at writes side first within.0 session
                within.1 later
            | inr beyond ↦ let longer : length first ≡ length (histories_of old side)
                + length beyond.0 =
                ap length beyond.1 ∙ length-append (histories_of old side) beyond.0 in
                omega (arith, reached, longer)
          ]

  same_log : new.log ≡ old.log → IfSome new.coordinator.running (λ r. base < r.session) →
      IsEarly before new
  same_log same running = record {
    running = running;
    logged = subst (All (λ made. base < made.session)) (sym same) e.logged;
    seen = λ made c. seen_still made (subst (λ log. Contains log made) same c);
  }

  on_from : (o : Option SessionPicture) (plan : List Planned) (now : Option SessionPicture) →
      IfSome o (λ r. base < r.session) → GoesOnFrom o plan now → IfSome now (λ r. base < r.session)
  on_from None plan now h none = subst (λ o. IfSome o (λ r. base < r.session)) (sym none) tt
  on_from (Some r) plan _ h ended = tt
  on_from (Some r) plan _ h (goes_on next session_is prefers plan_is) =
      subst (λ n. base < n) (sym session_is) h

  from_start : (preference : Option Which) (o : Option SessionPicture) →
      StartsFrom preference old.coordinator.archive o → IfSome o (λ r. base < r.session)
  from_start preference None h = tt
  from_start preference (Some r) h = let at = h.0 in omega (arith, last, at)

  goes_same : {D : Kept → Type 0} {R : Option SessionPicture → Type 0}
      (g : CoordinatorGoes old [] D R new) → IfSome g.machine.running (λ r. base < r.session) →
      IsEarly before new
  goes_same g running =
      same_log (ap (λ w. w.log) g.result ∙ append-nil old.log)
      (subst (λ o. IfSome o (λ r. base < r.session))
      (sym (ap (λ w. w.coordinator.running) g.result)) running)

  -- a plan that is made now
  module _ (r : SessionPicture) (runs : old.coordinator.running ≡ Some r) (made : SessionPlan)
      (of_session : made.session ≡ r.session)
      (same : (side : Which) → histories_of new side ≡ histories_of old side) where
    above : base < made.session
    above =
        subst (λ n. base < n) (sym of_session)
        (subst (λ o. IfSome o (λ r. base < r.session)) runs e.running)

    seen_now : SeenBefore new made
    seen_now item planned to path at writes side first rest session is later =
        let begun : session ≤ last_session (histories_of old side) =
        (begun_within (histories_of old side) first rest session (k.sound.lawful side)
        (sym (same side) ∙ is)).0 in
        let kept = k.sound.begun side in
        let running = (running_over plans old k new r runs).0 in
        absurd (omega (arith, begun, kept, running, of_session, later))

  takes_early : (o : Option SessionPicture) → old.coordinator.running ≡ o → (from : Which)
      (session number : ℕ) (plan : List Planned) (logged : Log) → IsExpected o from session number →
      HasPlan old.sent old.coordinator.archive old.log o plan logged → new.log ≡ old.log ++ logged →
      ((side : Which) → histories_of new side ≡ histories_of old side) →
      IfSome new.coordinator.running (λ r. base < r.session) → IsEarly before new
  takes_early None runs from session number plan logged expected has log same running =
      absurd expected
  takes_early (Some r) runs from session number plan logged expected
      (inl (stays, none)) log same running =
      same_log (log ∙ (ap (λ l. old.log ++ l) none ∙ append-nil old.log)) running
  takes_early (Some r) runs from session number plan logged expected
      (inr (made, makes, is, one)) log same running =
      let log_is : new.log ≡ old.log ++ made ∷ [] = log ∙ ap (λ l. old.log ++ l) one in
      record {
        running = running;
        logged = subst (All (λ made. base < made.session)) (sym log_is)
            (All-append (λ made. base < made.session) old.log (made ∷ []) e.logged
            (All-cons (λ made. base < made.session) made []
            (above r runs made makes.of_session same) (All-nil (λ made. base < made.session))));
        seen =
            λ other c. elim (Contains-push_cases old.log made other
            (subst (λ log. Contains log other) log_is c)) as (λ _. SeenBefore new other) [
              | inl was ↦ seen_still other was
              | inr now ↦ subst (SeenBefore new) now (seen_now r runs made makes.of_session same)
            ];
      }

  same_histories : {logged : Log} {D : Kept → Type 0} {R : Option SessionPicture → Type 0}
      (g : CoordinatorGoes old logged D R new) → (side : Which) →
      histories_of new side ≡ histories_of old side
  same_histories g Left = ap (λ w. w.left.side.history) g.result
  same_histories g Right = ap (λ w. w.right.side.history) g.result

  pub early_then : Course old new → IsEarly before new
  early_then (beside acks added more (inl none) reports logs) =
      same_log logs (subst (λ o. IfSome o (λ r. base < r.session)) (sym none) tt)
  early_then (beside acks added more (inr stays) reports logs) =
      same_log logs (subst (λ o. IfSome o (λ r. base < r.session)) (sym stays.0) e.running)
  early_then (starts preference g reports) =
      goes_same g (from_start preference g.machine.running g.runs_on)
  early_then (ticks g reports) =
      goes_same g (on_from old.coordinator.running
      (plan_of old.coordinator.running) g.machine.running e.running g.runs_on)
  early_then (takes from session number reply plan logged heard expected has g reports) =
      takes_early old.coordinator.running refl from session number plan logged expected has
      (ap (λ w. w.log) g.result) (same_histories g)
      (subst (λ o. IfSome o (λ r. base < r.session))
      (sym (ap (λ w. w.coordinator.running) g.result))
      (on_from old.coordinator.running plan g.machine.running e.running g.runs_on))

-- a session's plan is that of its entry
pub entry_is : (log : Log) (made : SessionPlan) →
    AllPairs (λ earlier later. earlier.session ≢ later.session) log → Contains log made →
    (other : SessionPlan) → Contains log other → other.session ≡ made.session → other ≡ made
entry_is [] made once c other d same = absurd (omega (arith, c.1))
entry_is (first ∷ log) made once (zero, h, c) other (zero, i, d) same = sym d ∙ c
entry_is (first ∷ log) made once (zero, h, c) other (suc j, i, d) same =
    absurd (once 0 (suc j) other (omega arith) i
    (ap (λ x. x.session) c ∙ (sym same ∙ sym (ap (λ x. x.session) d))))
entry_is (first ∷ log) made once (suc j, h, c) other (zero, i, d) same =
    absurd (once 0 (suc j) made (omega arith) h
    (ap (λ x. x.session) d ∙ (same ∙ sym (ap (λ x. x.session) c))))
entry_is (first ∷ log) made once (suc j, h, c) other (suc l, i, d) same =
    entry_is log made (λ m n x less within. once (suc m) (suc n) x (omega (arith, less))
    (omega (arith, within))) (j, omega (arith, h), c) other (l, omega (arith, i), d) same
