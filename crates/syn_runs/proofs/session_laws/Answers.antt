use Rattle.syn_runs.proofs.FineRuns.{synchronize, reconcile, report_conflicts, count_items}
use Rattle.syn_runs.proofs.FineRuns.{leave_one, mark_carried, mark_held}
use Rattle.syn_runs.proofs.session_laws.Goals as goal

pub returns-clause-synchronized : goal.returns-clause-synchronized
returns-clause-synchronized c = synchronize

pub returns-clause-reconciled : goal.returns-clause-reconciled
returns-clause-reconciled c = reconcile

pub returns-clause-preferred : goal.returns-clause-preferred
returns-clause-preferred c = leave_one

pub returns-clause-conflicts : goal.returns-clause-conflicts
returns-clause-conflicts c = report_conflicts

pub returns-clause-counts : goal.returns-clause-counts
returns-clause-counts c = count_items

pub returns-clause-marked : goal.returns-clause-marked
returns-clause-marked c = mark_carried

pub returns-clause-held : goal.returns-clause-held
returns-clause-held c = mark_held
