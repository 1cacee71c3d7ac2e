-- Each step of a run keeps the invariant, and its replacements are legal.
use Rattle.std.proofs.Common.{◌≡◌, refl, sym, subst, List, Option, None, inl, inr, ◌⊎◌, ◌∙◌}
use Rattle.std.specs.Prelude.{IfSome}
use Rattle.syn_model.specs.Event.{Edited}
use Rattle.syn_model.specs.Refusal.{Refusal}
use Rattle.syn_machine.specs.Side.{Staging}
use Rattle.syn_machine.specs.SideMachine.{staging_after}
use Rattle.syn_runs.specs.Picture.{session_after}
use Rattle.syn_runs.specs.World.{At, Coordinator, Step}
use Rattle.syn_machine.specs.Network.{Which}
use Rattle.syn_runs.specs.Picture.{Picture, side_of, Follows, same, edits, opens, changes}
use Rattle.syn_runs.specs.Picture.{serves, starts_session, ticks_once, takes_answer}
use Rattle.syn_runs.specs.Picture.{archive_changes, archive_opens, archive_recovers}
use Rattle.syn_machine.proofs.Heard.{sent_at}
use Rattle.syn_runs.proofs.View.{staged_or_none}
use Rattle.syn_runs.proofs.SettledLemmas.{settles_not_up, running_or_none}
use Rattle.syn_runs.proofs.Invariant.{Plans, histories_of, IsSoundStaging, IsKept}
use Rattle.syn_runs.proofs.SideRuns.{Advances, next_same, stays, side_settles, was_written}
use Rattle.syn_runs.proofs.SideRuns.{writes_advances, opens_advances, request_advances}
use Rattle.syn_runs.proofs.CoordinatorRuns.{start_advances, tick_with, take_with}
use Rattle.syn_runs.proofs.CoordinatorRuns.{archive_changes_so, archive_opens_so}
use Rattle.syn_runs.proofs.CoordinatorRuns.{archive_recovers_so}

-- what is staged stays so, or nothing is
staged_still : (plans : Plans) (old : Picture) → IsKept plans old → (which : Which)
    (staging : Option Staging) → (staging ≡ (side_of old which).side.staging) ⊎ (staging ≡ None) →
    IfSome staging (IsSoundStaging plans (histories_of old) which)
staged_still plans old k which staging (inl still) =
    subst (λ o. IfSome o (IsSoundStaging plans (histories_of old) which)) (sym still)
    (k.sides which).staged
staged_still plans old k which staging (inr none) =
    subst (λ o. IfSome o (IsSoundStaging plans (histories_of old) which)) (sym none) tt

-- each step keeps the invariant, and its replacements are legal
pub step_advances : (plans : Plans) (old : Picture) (k : IsKept plans old) (new : Picture)
    {step : Step} {told : List Refusal} → Follows old new step told → Advances plans old new
step_advances plans old k new (same step told idle e) = stays plans old new k e
step_advances plans old k new (edits which user edit machine events allowed up g e) =
    writes_advances plans old k which (Edited user edit) allowed tt machine events new up g e
step_advances plans old k new (opens which step machine events by g e) =
    opens_advances plans old k which machine events new g e
step_advances plans old k new (changes which step status told settles e) =
    let was = side_of old which in
    let staging = staging_after status was.side.staging in
    side_settles plans old k which (record (side_of old which) {
      status = status;
      side = record { history = (side_of old which).side.history; staging = staging };
    }) new refl
    (staged_still plans old k which staging (staged_or_none status was.side.staging))
    (was_written plans old k which status
    (settles_not_up (At which) was.status status settles)
    (record { history = (side_of old which).side.history; staging = staging }) refl)
    (e ∙ next_same old which _)
step_advances plans old k new (serves message which session number request at g) =
    request_advances plans old k which session number request (sent_at old.sent message _ at) new g
step_advances plans old k new (starts_session preference up none g some reports) =
    start_advances plans old k new preference g
step_advances plans old k new (ticks_once running is g reports status again) =
    tick_with plans old k new old.coordinator.running refl g
step_advances plans old k new
    (takes_answer message from session number reply plan logged at expected made g reports heard) =
    take_with plans old k new from session number reply plan logged
    (sent_at old.sent message _ at) old.coordinator.running refl expected made g
step_advances plans old k new (archive_changes step status told settles e) =
    archive_changes_so plans old k new status (session_after status old.coordinator.running)
    (settles_not_up Coordinator old.coordinator.status status settles)
    (running_or_none status old.coordinator.running) e
step_advances plans old k new (archive_opens step by e) = archive_opens_so plans old k new e
step_advances plans old k new (archive_recovers step kept by is can e) =
    archive_recovers_so plans old k new kept is can e
