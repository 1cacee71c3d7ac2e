-- What is proved of whole runs, of the world itself.
use Rattle.std.proofs.Common.{List, refl, sym, ap, subst, Option, Some, option_map, ◌≡◌, ◌≢◌}
use Rattle.std.proofs.Common.{◌∙◌, ◌++◌, ◌∷◌, [], zero, suc, arith}
use Rattle.std.specs.Prelude.{IfSome, All}
use Rattle.syn_machine.specs.Network.{Which}
use Rattle.syn_runs.specs.World.{World, Step, Runs}
use Rattle.syn_runs.specs.Runs.{IsStart, OfEachRun, RunsArePictured, picture_of}
use Rattle.syn_runs.specs.Runs.{session_picture}
use Rattle.syn_runs.specs.Headline.{EachReplacementIsLegal, EachTokenOnce}
use Rattle.syn_runs.specs.Headline.{RecoveredIsLegal, EachEntryWasHeld, LeavesPair, LogsPlans}
use Rattle.syn_runs.specs.Headline.{Owes, PlansWith, CompleteSessionsSynchronize}
use Rattle.syn_runs.specs.Headline.{CompleteSessionsReconcile, ReportsItsConflicts}
use Rattle.syn_runs.specs.Headline.{CountsItsItems, CarriedIsMarked, HeldIsMarked}
use Rattle.syn_runs.specs.Headline.{PreferenceLeavesOne, trees_of}
use Rattle.syn_runs.proofs.RecoveredLemmas.{runs_recover_legally}
use Rattle.syn_runs.specs.Picture as picture
use Rattle.syn_runs.specs.Headline as promised
use Rattle.syn_runs.proofs.Sessions.{IsHeard}
use Rattle.syn_runs.proofs.Simulation.{RunFollows, runs_follow}
use Rattle.syn_runs.proofs.WholeRuns.{no_plans, run_kept, start_kept, runs_replace_legally}
use Rattle.syn_runs.proofs.WholeRuns.{runs_use_tokens_once, runs_owe}
use Rattle.syn_runs.proofs.LoggedRuns.{runs_log}
use Rattle.syn_runs.proofs.ArchiveLemmas.{runs_hold_archive, runs_leave_pair}
use Rattle.syn_runs.proofs.SessionRuns.{runs_synchronize, runs_reconcile, runs_report_conflicts}
use Rattle.syn_runs.proofs.SessionRuns.{runs_count_items}
use Rattle.syn_runs.proofs.FetchedLemmas.{runs_mark_carried}
use Rattle.syn_runs.proofs.CarriedLemmas.{runs_mark_held}
use Rattle.syn_runs.specs.Reported.{AnswersBelong, EachReportTells, EndsSo, IsReportOf}
use Rattle.syn_runs.specs.Reported.{at_record}
use Rattle.syn_runs.specs.Reported.{out_of_memory, through, unanswered, with_answer}
use Rattle.syn_runs.proofs.ReportedRuns.{IsTold}
use Rattle.syn_runs.proofs.FaultLemmas.{all_belong}
use Rattle.syn_runs.proofs.Invariant.{IsKept, Plans, belongs, histories_of}
use Rattle.syn_runs.specs.Acknowledged.{kept_in_session}
use Rattle.syn_machine.specs.Coordinator.{Running, report_of}
use Rattle.syn_machine.specs.Report.{Report}
use Rattle.syn_machine.specs.Planning.{Log}
use Rattle.syn_runs.specs.Picture.{Picture}
use Rattle.syn_model.specs.Archive.{Kept}
use Rattle.syn_model.specs.Refusal.{BadMessage, Device, Halted, JournalFull, Memory, NoAnswer}
use Rattle.syn_model.specs.Refusal.{Refusal}
use Rattle.std.proofs.lemmas.Option.{none-some, same_Some}
use Rattle.std.proofs.Common.{ℕ, take, true, true≢false}
use Rattle.std.specs.Prelude.{Contains}
use Rattle.std.proofs.lemmas.List.Elements.{All-nil, All-weaker}
use Rattle.syn_runs.proofs.EarlyLemmas.{entry_is}
use Rattle.syn_model.proofs.EqualLemmas.{preference_settles}
use Rattle.syn_model.specs.Plan.{IsSynchronized, IsReconciled}

pub start_view : (old : World) → IsStart old → promised.IsStart (picture_of old)
start_view old s = record {
  pair = s.pair;
  left = (s.left.1, s.left.0.1, s.left.0.0);
  right = (s.right.1, s.right.0.1, s.right.0.0);
  coordinator = (
    ap (option_map session_picture) s.coordinator.1,
    s.coordinator.0.1,
    s.coordinator.0.0,
  );
  nothing_yet = (s.nothing_yet.0, s.nothing_yet.1, s.nothing_yet.2, s.nothing_yet.3);
}

module _ (old new : World) (steps : List Step) (s : IsStart old) (g : Runs old steps new) where
  pub follows : RunFollows old steps new
  follows =
      runs_follow steps no_plans old new (start_kept (picture_of old) (start_view old s))
      (subst (λ o. IfSome o (IsHeard old)) (sym s.coordinator.1) tt) g

-- each step of the world is one of the picture
pub is_pictured : RunsArePictured
is_pictured old new steps s g = record {
  start = picture_of old;
  is_start = start_view old s;
  stands = refl;
  follows = let run = follows old new steps s g in
      subst (λ told. picture.FollowsAll (picture_of old) steps told (picture_of new))
      (ap (λ before. before ++ run.told) (sym s.nothing_yet.4) ∙ sym run.refusals) run.follows;
}

pub replace_legally : OfEachRun EachReplacementIsLegal
replace_legally old new steps s g =
    runs_replace_legally (picture_of old) (picture_of new) steps _ (start_view old s)
    (follows old new steps s g).follows

pub use_tokens_once : OfEachRun EachTokenOnce
use_tokens_once old new steps s g =
    runs_use_tokens_once (picture_of old) (picture_of new) steps _ (start_view old s)
    (follows old new steps s g).follows

pub hold_archive : OfEachRun EachEntryWasHeld
hold_archive old new steps s g =
    runs_hold_archive (picture_of old) (picture_of new) steps _ (start_view old s)
    (follows old new steps s g).follows

pub leave_pair : OfEachRun LeavesPair
leave_pair old new steps s g =
    runs_leave_pair (picture_of old) (picture_of new) steps _ (start_view old s)
    (follows old new steps s g).follows

pub log_plans : OfEachRun LogsPlans
log_plans old new steps s g =
    runs_log (picture_of old) (picture_of new) steps _ (start_view old s)
    (follows old new steps s g).follows

pub owe : OfEachRun Owes
owe old new steps s g =
    runs_owe (picture_of old) (picture_of new) steps _ (start_view old s)
    (follows old new steps s g).follows

pub synchronize : OfEachRun CompleteSessionsSynchronize
synchronize old new steps s g =
    runs_synchronize (picture_of old) (picture_of new) steps _ (start_view old s)
    (follows old new steps s g).follows

pub reconcile : OfEachRun CompleteSessionsReconcile
reconcile old new steps s g =
    runs_reconcile (picture_of old) (picture_of new) steps _ (start_view old s)
    (follows old new steps s g).follows

-- a session has one plan, so the preference of that is the one by which the sides are synchronized
pub leave_one : OfEachRun PreferenceLeavesOne
leave_one old new steps s g report found left side quiet with apart =
    let once = (log_plans old new steps s g).0 in
    let synced = synchronize old new steps s g report found left quiet apart in
    let recorded = reconcile old new steps s g report found left quiet in
    let same : (preference : Option Which) → PlansWith new.log report.session preference →
    preference ≡ Some side = λ preference other.
    sym other.prefers ∙ (ap (λ made. made.preference)
    (entry_is new.log with.made once with.logged other.made other.logged
    (other.of_session ∙ sym with.of_session)) ∙ with.prefers) in
    preference_settles side (trees_of found) (trees_of left)
    (subst (λ p. IsSynchronized p (trees_of found) (trees_of left)) (same synced.0 synced.1)
    synced.2)
    (subst (λ p. IsReconciled p (trees_of found) (trees_of left)) (same recorded.0 recorded.1)
    recorded.2)

pub report_conflicts : OfEachRun ReportsItsConflicts
report_conflicts old new steps s g =
    runs_report_conflicts (picture_of old) (picture_of new) steps _ (start_view old s)
    (follows old new steps s g).follows

pub count_items : OfEachRun CountsItsItems
count_items old new steps s g =
    runs_count_items (picture_of old) (picture_of new) steps _ (start_view old s)
    (follows old new steps s g).follows

pub mark_carried : OfEachRun CarriedIsMarked
mark_carried old new steps s g =
    runs_mark_carried (picture_of old) (picture_of new) steps _ (start_view old s)
    (follows old new steps s g).follows

pub tell_reports : OfEachRun EachReportTells
tell_reports old new steps s g =
    All-weaker (IsTold new) _ (λ told is. is.1) new.reports
    ((follows old new steps s g).tells (subst (All (IsTold old)) (sym s.nothing_yet.2)
    (All-nil (IsTold old))))

known_at_record : (why : Refusal) → Contains (Device ∷ Halted ∷ JournalFull ∷ []) why →
    belongs why ≡ true
known_at_record why (zero, within, is) = ap belongs (sym is)
known_at_record why (suc zero, within, is) = ap belongs (sym is)
known_at_record why (suc (suc zero), within, is) = ap belongs (sym is)
known_at_record why (suc (suc (suc i)), within, is) = absurd (omega (arith, within))

-- a session's end has another cause than an answer that does not belong
belongs_so : (plans : Plans) (world : Picture) → IsKept plans world → (log : Log)
    (kept : List Kept) (running : Running) (ended : Option Refusal) →
    IsReportOf world.sent log kept running ended → ended ≢ Some BadMessage
belongs_so plans world k log kept running ended is = by ended is.ends
  where
    by : (why : Option Refusal) → EndsSo world.sent running why → why ≢ Some BadMessage
    by _ (through some settled) bad = none-some _ bad
    by _ (with_answer exchange why was fault) bad =
        all_belong plans (histories_of world) world.coordinator.archive world.sent k.sound
        running.session running.taken is.taken exchange.side exchange.number exchange.request
        exchange.reply was.0 was.1 (fault ∙ bad)
    by _ (at_record planned exchange what why at was due among) bad =
        true≢false (sym (known_at_record why among) ∙ ap belongs (same_Some _ _ bad))
    by _ (unanswered resent) bad = let x : Some NoAnswer ≡ Some BadMessage = bad in cc
    by _ out_of_memory bad = let x : Some Memory ≡ Some BadMessage = bad in cc

pub belong : OfEachRun AnswersBelong
belong old new steps s g =
    let kept = run_kept no_plans (picture_of old) (picture_of new)
    (start_kept (picture_of old) (start_view old s)) (follows old new steps s g).follows in
    All-weaker (λ told. (running : Running) × (ended : Option Refusal)
    × (told.0 ≡ report_of running ended)
    × IsReportOf new.sent new.log (kept_in_session (take told.1 new.acknowledged)) running ended)
    (λ (told : Report × ℕ). told.0.ended ≢ Some BadMessage)
    (λ told is bad. belongs_so kept.0 (picture_of new) kept.1 new.log _ is.0 is.1 is.3
    (sym (ap (λ (report : Report). report.ended) is.2) ∙ bad)) new.reports
    (tell_reports old new steps s g)

pub mark_held : OfEachRun HeldIsMarked
mark_held old new steps s g =
    runs_mark_held (picture_of old) (picture_of new) steps _ (start_view old s)
    (follows old new steps s g).follows

pub recover_legally : OfEachRun RecoveredIsLegal
recover_legally old new steps s g =
    runs_recover_legally (picture_of old) (picture_of new) steps _ (start_view old s)
    (follows old new steps s g).follows
