-- The worked examples of a side hold.
use Rattle.std.proofs.Common.{refl, inr}
use Rattle.syn_witness.specs.Rows.{SideRows}

pub side_rows : SideRows
side_rows = record {
  begins = refl;
  begins_again = refl;
  wrong_pair = refl;
  earlier = refl;
  stages = refl;
  stages_again = refl;
  gap = refl;
  wrong_length = refl;
  next_from_middle = refl;
  next_stages = refl;
  older = refl;
  not_staged = refl;
  halted = refl;
  halted_stages = refl;
  halted_memory = inr refl;
}
