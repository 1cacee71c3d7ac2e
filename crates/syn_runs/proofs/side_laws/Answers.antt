use Rattle.syn_runs.proofs.SideLemmas.{serves_allowed, serves_by_reading}
use Rattle.syn_runs.proofs.RepeatLemmas.{repeats_are_done, later_are_old, dead_are_old}
use Rattle.syn_runs.proofs.OutcomeLemmas.{pieces_are_untouched}
use Rattle.syn_runs.proofs.side_laws.Goals as goal

pub returns-clause-serves : goal.returns-clause-serves
returns-clause-serves c = serves_allowed

pub returns-clause-reading : goal.returns-clause-reading
returns-clause-reading c = serves_by_reading

pub returns-clause-repeats : goal.returns-clause-repeats
returns-clause-repeats c = repeats_are_done

pub returns-clause-later : goal.returns-clause-later
returns-clause-later c = later_are_old

pub returns-clause-dead : goal.returns-clause-dead
returns-clause-dead c = dead_are_old

pub returns-clause-pieces : goal.returns-clause-pieces
returns-clause-pieces c = pieces_are_untouched
