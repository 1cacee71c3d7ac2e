-- What a step reports.
use Rattle.std.proofs.Common.{◌≡◌, ◌⊎◌, List, [], ◌∷◌, ◌++◌, length, take, ap, ◌∙◌, Option}
use Rattle.std.proofs.Common.{Some, append-nil, inr, refl}
use Rattle.std.specs.Prelude.{IfSome}
use Rattle.std.proofs.lemmas.List.Elements.{Contains-append_left}
use Rattle.std.proofs.Math.Seq.{take-length}
use Rattle.syn_model.specs.Refusal.{Refusal}
use Rattle.syn_machine.specs.Planning.{Planned, Log}
use Rattle.syn_machine.specs.Coordinator.{Running, CoordinatorMachine, no_call, report_of}
use Rattle.syn_runs.specs.World.{World, coordinator_goes}
use Rattle.syn_runs.specs.Acknowledged.{kept_in_session}
use Rattle.syn_runs.specs.Reported.{EndsSo, IsPlanned, IsReportOf}
use Rattle.syn_runs.proofs.Sessions.{IsHeard, StandsOn}
use Rattle.syn_runs.proofs.SideSteps.{if_some}

-- nothing, or the report of one session
abbrev pub Tells : World → World → Type 0
Tells old new = (new.reports ≡ old.reports)
    ⊎ ((running : Running) × (ended : Option Refusal)
    × (new.reports ≡ old.reports ++ (report_of running ended, length new.acknowledged) ∷ [])
    × IsReportOf new.sent new.log
    (kept_in_session (take (length new.acknowledged) new.acknowledged)) running ended)

-- a log that goes on has what was in it
pub more_logged : (log more : Log) (running : Running) (plan : Option (List Planned)) →
    IfSome plan (IsPlanned log running) → IfSome plan (IsPlanned (log ++ more) running)
more_logged log more running plan h =
    if_some plan (IsPlanned log running) (IsPlanned (log ++ more) running) h
    (λ one _ had. record {
      made = had.made;
      logged = Contains-append_left log more had.made had.logged;
      of_session = had.of_session;
      plan_is = had.plan_is;
      unstable = had.unstable;
      refused = had.refused;
    })

-- a session that ends where it stood
pub ends_still : (old : World) (running : Running) (why : Refusal) (machine : CoordinatorMachine) →
    IsHeard old running → EndsSo (old.sent ++ []) running (Some why) →
    Tells old (coordinator_goes old machine
    (record no_call { reports = report_of running (Some why) ∷ [] }))
ends_still old running why machine h ends = inr (
  running,
  Some why,
  refl,
  record {
    taken = λ exchange c. let was = h.remembers.taken exchange c in (
      Contains-append_left old.sent [] _ was.0,
      Contains-append_left old.sent [] _ was.1,
    );
    planned = more_logged old.log [] running running.plan
        (if_some running.plan (StandsOn old.log old.coordinator.journal.value running)
        (IsPlanned old.log running) h.logged (λ plan _ had. had.is));
    unplanned = λ none. (h.unplanned none).3;
    kept_is = ap kept_in_session (take-length (old.acknowledged ++ []))
        ∙ (ap kept_in_session (append-nil old.acknowledged) ∙ h.kept);
    settled = h.settled;
    ends = ends;
  },
)
