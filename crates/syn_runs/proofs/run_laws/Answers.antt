use Rattle.syn_runs.proofs.StandLemmas.{runs_stand}
use Rattle.syn_runs.proofs.FormattedLemmas.{formatted_is_pair, unmarked_is_pair}
use Rattle.syn_runs.proofs.FineRuns.{replace_legally, use_tokens_once, hold_archive, leave_pair}
use Rattle.syn_runs.proofs.FineRuns.{belong, is_pictured, log_plans}
use Rattle.syn_runs.proofs.FineRuns.{owe, recover_legally, tell_reports}
use Rattle.syn_runs.proofs.TakenAnswers.{take_expected}
use Rattle.syn_runs.proofs.RepeatRuns.{answer_repeats}
use Rattle.syn_runs.proofs.run_laws.Goals as goal

pub returns-clause-pictured : goal.returns-clause-pictured
returns-clause-pictured c = is_pictured

pub returns-clause-stands : goal.returns-clause-stands
returns-clause-stands c = runs_stand

pub returns-clause-formatted : goal.returns-clause-formatted
returns-clause-formatted c = formatted_is_pair

pub returns-clause-unmarked : goal.returns-clause-unmarked
returns-clause-unmarked c = unmarked_is_pair

pub returns-clause-legal : goal.returns-clause-legal
returns-clause-legal c = replace_legally

pub returns-clause-recovered : goal.returns-clause-recovered
returns-clause-recovered c = recover_legally

pub returns-clause-tokens : goal.returns-clause-tokens
returns-clause-tokens c = use_tokens_once

pub returns-clause-archive : goal.returns-clause-archive
returns-clause-archive c = hold_archive

pub returns-clause-pair : goal.returns-clause-pair
returns-clause-pair c = leave_pair

pub returns-clause-logged : goal.returns-clause-logged
returns-clause-logged c = log_plans

pub returns-clause-owe : goal.returns-clause-owe
returns-clause-owe c = owe

pub returns-clause-reports : goal.returns-clause-reports
returns-clause-reports c = tell_reports

pub returns-clause-belong : goal.returns-clause-belong
returns-clause-belong c = belong

pub returns-clause-taken : goal.returns-clause-taken
returns-clause-taken c = take_expected

pub returns-clause-repeats : goal.returns-clause-repeats
returns-clause-repeats c = answer_repeats
