-- What a run of the program tells the shell.
use Rattle.std.specs.Prelude.{ℕ, List, [], ◌∷◌, Result, Ok, Err}
use Rattle.syn_command.specs.declared.failure.Failure.{Failure}
use Rattle.syn_command.specs.declared.failure.Failure.TheVariants as failure
use Rattle.syn_command.specs.declared.outcome.Outcome.{Outcome}
use Rattle.syn_command.specs.declared.outcome.Outcome.TheVariants as outcome
use Rattle.syn_command.specs.declared.status.Status.{Status}
use Rattle.syn_command.specs.declared.status.Status.TheVariants.{Done, Refused, Usage, Incomplete}
use Rattle.syn_command.specs.declared.status.Status.TheVariants.{Conflicts, Stopped, Work}
use Rattle.syn_session.specs.declared.report.End.{End}
use Rattle.syn_session.specs.declared.report.End.TheVariants as end

-- the number that a process ends with
abbrev pub code_of : Status → ℕ
code_of Done = 0
code_of Refused = 1
code_of Usage = 2
code_of Incomplete = 3
code_of Conflicts = 4
code_of Work = 5
code_of Stopped = 5

-- what a session came to, by its end and its conflicts
abbrev pub outcome_by : {X : Type 0} → End → List X → Outcome
outcome_by end.Incomplete conflicts = outcome.Incomplete
outcome_by end.Complete [] = outcome.Done
outcome_by end.Complete (path ∷ paths) = outcome.Conflicts

abbrev pub status_in : Outcome → Status
status_in outcome.Done = Done
status_in outcome.Incomplete = Incomplete
status_in outcome.Conflicts = Conflicts
status_in outcome.Work = Work

-- a command that was not done
abbrev pub status_after : Failure → Status
status_after (failure.Refused error) = Refused
status_after (failure.Stopped error) = Stopped
status_after (failure.Line number) = Refused

-- a command that was done, and one that was not
abbrev pub status_of : Result Outcome Failure → Status
status_of (Ok came) = status_in came
status_of (Err failure) = status_after failure
