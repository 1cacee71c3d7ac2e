use Rattle.syn_witness.proofs.RowLemmas.{side_rows}
use Rattle.syn_witness.proofs.examples.Goals as goal

pub returns : goal.returns
returns c = record { sides = side_rows }
