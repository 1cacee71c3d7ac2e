use Rattle.syn_folder.proofs.StopLemmas.{is_over, keeps, mended, taken_up}
use Rattle.syn_folder.proofs.system.laws.stop_laws.Goals as goal

pub returns-clause-kept : goal.returns-clause-kept
returns-clause-kept c = keeps

pub returns-clause-taken_up : goal.returns-clause-taken_up
returns-clause-taken_up c = taken_up

pub returns-clause-over : goal.returns-clause-over
returns-clause-over c = is_over

pub returns-clause-mended : goal.returns-clause-mended
returns-clause-mended c = mended
