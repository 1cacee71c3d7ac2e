use Rattle.syn_promise.proofs.AskedLemmas.{edits_are_asked, preferences_are_asked, edits_are_made}
use Rattle.syn_promise.proofs.AskedLemmas.{starts_are_made}
use Rattle.syn_promise.proofs.RecordLemmas.{records_keep_to_plan}
use Rattle.syn_promise.proofs.asked.Goals as goal

pub returns-clause-edits : goal.returns-clause-edits
returns-clause-edits c = edits_are_asked

pub returns-clause-preferences : goal.returns-clause-preferences
returns-clause-preferences c = preferences_are_asked

pub returns-clause-records : goal.returns-clause-records
returns-clause-records c = records_keep_to_plan

pub returns-clause-made : goal.returns-clause-made
returns-clause-made c = edits_are_made

pub returns-clause-started : goal.returns-clause-started
returns-clause-started c = starts_are_made
