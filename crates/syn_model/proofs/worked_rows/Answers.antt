use Rattle.syn_model.proofs.RowLemmas.{spellings, items_of_one_name, floors, refused_edits}
use Rattle.syn_model.proofs.worked_rows.Goals as goal

pub returns-clause-items : goal.returns-clause-items
returns-clause-items c = items_of_one_name

pub returns-clause-floors : goal.returns-clause-floors
returns-clause-floors c = floors

pub returns-clause-refused : goal.returns-clause-refused
returns-clause-refused c = refused_edits

pub returns-clause-spellings : goal.returns-clause-spellings
returns-clause-spellings c = spellings
