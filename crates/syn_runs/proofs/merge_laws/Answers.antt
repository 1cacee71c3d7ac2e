use Rattle.syn_runs.specs.Headline.{CompleteSessionsReconcile, CompleteSessionsSynchronize}
use Rattle.syn_runs.specs.Headline.{EachEntryWasHeld, EachReplacementIsLegal, LeavesPair, StandsFor}
use Rattle.syn_runs.specs.Reported.{EachReportTells}
use Rattle.syn_runs.specs.Runs.{stores_of}
use Rattle.syn_runs.proofs.FineRuns.{hold_archive, leave_pair, reconcile, replace_legally}
use Rattle.syn_runs.proofs.FineRuns.{synchronize, tell_reports}
use Rattle.syn_runs.proofs.MergedRuns.{merges_run, of_each_merge}
use Rattle.syn_runs.proofs.StandLemmas.{at_start, runs_stand}
use Rattle.syn_runs.proofs.merge_laws.Goals as goal

pub returns-clause-merged : goal.returns-clause-merged
returns-clause-merged c = merges_run

pub returns-clause-stands : goal.returns-clause-stands
returns-clause-stands c = of_each_merge StandsFor (λ old new steps start runs.
    runs_stand (stores_of old) old new steps runs (at_start old start.nothing_yet.1))

pub returns-clause-legal : goal.returns-clause-legal
returns-clause-legal c = of_each_merge EachReplacementIsLegal replace_legally

pub returns-clause-archive : goal.returns-clause-archive
returns-clause-archive c = of_each_merge EachEntryWasHeld hold_archive

pub returns-clause-pair : goal.returns-clause-pair
returns-clause-pair c = of_each_merge LeavesPair leave_pair

pub returns-clause-reports : goal.returns-clause-reports
returns-clause-reports c = of_each_merge EachReportTells tell_reports

pub returns-clause-synchronized : goal.returns-clause-synchronized
returns-clause-synchronized c = of_each_merge CompleteSessionsSynchronize synchronize

pub returns-clause-reconciled : goal.returns-clause-reconciled
returns-clause-reconciled c = of_each_merge CompleteSessionsReconcile reconcile
