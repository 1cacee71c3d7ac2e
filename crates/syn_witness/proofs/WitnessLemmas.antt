-- Where the witness session starts from.
use Rattle.std.proofs.Common.{refl}
use Rattle.syn_model.specs.History.{tree_of}
use Rattle.syn_model.proofs.RowLemmas.{spellings}
use Rattle.syn_runs.proofs.FormattedLemmas.{formatted_is_pair}
use Rattle.syn_witness.specs.Witness.{NewRoomIs, OpenedIsStart}
use Rattle.syn_witness.proofs.WitnessFiles.{no_marks}

pub opened_is_start : OpenedIsStart
opened_is_start room = record {
  pair = formatted_is_pair;
  left = ((refl, refl, refl, refl, refl), refl);
  right = ((refl, refl, refl, refl, refl), refl);
  coordinator = ((refl, refl, refl, refl, refl), refl);
  nothing_yet = (refl, refl, refl, refl, refl);
}

pub new_room_is : NewRoomIs
unfolding tree_of
new_room_is = (rw (spellings.no_names) refl, rw no_marks refl)
