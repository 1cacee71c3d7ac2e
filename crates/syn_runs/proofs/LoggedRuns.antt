-- What whole runs log.
use Rattle.std.proofs.Common.{◌≡◌, ◌≢◌, ◌+◌, ℕ, List, [], ◌++◌, map, length, take, sym, ap, ◌∙◌}
use Rattle.std.proofs.Common.{subst, Option, Some, None, append-nil, arith, inl, inr}
use Rattle.std.specs.Prelude.{All, AllPairs}
use Rattle.std.proofs.lemmas.List.{length-append, take-append-le}
use Rattle.std.proofs.lemmas.List.Elements.{All-nil, All-cons, All-append, All-weaker}
use Rattle.std.proofs.Math.Seq.{take-length}
use Rattle.syn_model.specs.Tree.{Tree}
use Rattle.syn_model.specs.Archive.{Kept}
use Rattle.syn_runs.specs.World.{Step}
use Rattle.syn_model.specs.Refusal.{Refusal}
use Rattle.syn_machine.specs.Network.{Which}
use Rattle.syn_machine.specs.Planning.{Planned, Log, IsPlanOf}
use Rattle.syn_runs.specs.Acknowledged.{Ack, Kept_by, Stores, stores_after}
use Rattle.syn_runs.specs.Picture.{Picture, SessionPicture, IsExpected, HasPlan}
use Rattle.syn_runs.specs.Picture.{CoordinatorGoes, FollowsAll, nothing_more, one_more}
use Rattle.syn_runs.specs.Picture.{stores_of}
use Rattle.syn_runs.specs.Headline.{HadArchive, LogsPlans, StandsFor}
use Rattle.syn_runs.proofs.PictureRuns.{OfEachRun}
use Rattle.syn_runs.proofs.Invariant.{Plans, IsKept}
use Rattle.syn_runs.proofs.WorldLemmas.{step_stands}
use Rattle.syn_runs.proofs.AdvanceLemmas.{step_advances}
use Rattle.syn_runs.proofs.WholeRuns.{no_plans, start_kept, start_stands, run_kept}
use Rattle.syn_runs.proofs.CourseLemmas.{Course, beside, starts, ticks, takes, course}

-- each plan that was logged is of an archive of the run
abbrev pub AllFound : Stores → Picture → Log → Type 0
AllFound before world log = All (λ made. HadArchive before world made.archive) log

module _ (before : Stores) (old new : Picture) (stands : StandsFor before old) where
  had_still : (acks : List Ack) → new.acknowledged ≡ old.acknowledged ++ acks → (marks : Tree) →
      HadArchive before old marks → HadArchive before new marks
  had_still acks e marks (k, within, had) =
      let longer : length new.acknowledged ≡ length old.acknowledged + length acks = ap length e
      ∙ length-append old.acknowledged acks in (
        k,
        omega (arith, within, longer),
        had
            ∙ ap (λ front. (stores_after before front).archive.marks)
            (sym (ap (take k) e ∙ take-append-le k old.acknowledged acks within)),
      )

  had_now : HadArchive before old old.coordinator.archive.marks
  had_now = (
    length old.acknowledged,
    omega arith,
    ap (λ a. a.marks) stands.archive ∙ ap
        (λ front. (stores_after before front).archive.marks) (sym (take-length old.acknowledged)),
  )

  more_found : (acks : List Ack) → new.acknowledged ≡ old.acknowledged ++ acks → (logged : Log) →
      AllFound before old logged → new.log ≡ old.log ++ logged → AllFound before old old.log →
      AllFound before new new.log
  more_found acks e logged now logs found =
      All-weaker (λ made. HadArchive before old made.archive)
      (λ made. HadArchive before new made.archive)
      (λ made h. had_still acks e made.archive h) new.log
      (subst (AllFound before old) (sym logs)
      (All-append (λ made. HadArchive before old made.archive) old.log logged found now))

  none_found : AllFound before old []
  none_found = All-nil (λ made. HadArchive before old made.archive)

  plan_found : (running : Option SessionPicture) (from : Which) (session number : ℕ)
      (plan : List Planned)
      (logged : Log) → IsExpected running from session number →
      HasPlan old.sent old.coordinator.archive old.log running plan logged →
      AllFound before old logged
  plan_found None from session number plan logged expected has = absurd expected
  plan_found (Some r) from session number plan logged expected (inl (same, none)) =
      subst (AllFound before old) (sym none) none_found
  plan_found (Some r) from session number plan logged expected (inr (made, makes, is, one)) =
      subst (AllFound before old) (sym one) (All-cons (λ made. HadArchive before old made.archive)
      made [] (subst (HadArchive before old) (sym makes.archive_is) had_now) none_found)

  goes_found : (logged : Log) (D : Kept → Type 0) (R : Option SessionPicture → Type 0) →
      CoordinatorGoes old logged D R new → AllFound before old logged →
      AllFound before old old.log → AllFound before new new.log
  goes_found logged D R g now found =
      more_found (map Kept_by g.kept) (ap (λ w. w.acknowledged) g.result) logged now
      (ap (λ w. w.log) g.result) found

  course_found : Course old new → AllFound before old old.log → AllFound before new new.log
  course_found (beside acks added can runs reports logs) found =
      more_found acks added [] none_found (logs ∙ sym (append-nil old.log)) found
  course_found (starts preference g reports) found = goes_found [] _ _ g none_found found
  course_found (ticks g reports) found = goes_found [] _ _ g none_found found
  course_found (takes from session number reply plan logged heard expected made g reports) found =
      goes_found logged _ _ g
      (plan_found old.coordinator.running from session number plan logged expected made) found

run_found : (before : Stores) (plans : Plans) (old new : Picture) → IsKept plans old →
    StandsFor before old → AllFound before old old.log → {steps : List Step}
    {told : List Refusal} → FollowsAll old steps told new → AllFound before new new.log
run_found before plans old _ k stands found (nothing_more _) = found
run_found before plans old _ k stands found (one_more _ between new _ _ _ _ g more) =
    let a = step_advances plans old k between g in
    run_found before a.later between new a.kept (step_stands before old between stands g)
    (course_found before old between stands (course plans old k between g) found) more

-- each session is logged once, with a plan that is of its scans and an archive of the run
pub runs_log : OfEachRun LogsPlans
runs_log old new steps refusals s g =
    let k = (run_kept no_plans old new (start_kept old s) g).1 in
    let found = run_found (stores_of old) no_plans old new (start_kept old s)
    (start_stands old s.nothing_yet.1) (subst (AllFound (stores_of old) old) (sym s.nothing_yet.3)
    (All-nil (λ made. HadArchive (stores_of old) old made.archive))) g in (
      subst (λ log. AllPairs (λ earlier later. earlier.session ≢ later.session) log)
          (sym k.logged) k.sound.once,
      λ i made within. (
        subst (All (IsPlanOf new.sent))
            (sym k.logged) k.sound.planned i made within,
        found i made within,
      ),
    )
