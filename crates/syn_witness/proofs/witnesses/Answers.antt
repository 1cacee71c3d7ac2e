use Rattle.syn_witness.proofs.WitnessLemmas.{opened_is_start, new_room_is}
use Rattle.syn_witness.proofs.CarriedLemmas.{file_is_carried, room_is_made}
use Rattle.syn_witness.proofs.witnesses.Goals as goal

pub returns-clause-start : goal.returns-clause-start
returns-clause-start c = opened_is_start

pub returns-clause-room : goal.returns-clause-room
returns-clause-room c = new_room_is

pub returns-clause-carried : goal.returns-clause-carried
returns-clause-carried c = file_is_carried

pub returns-clause-made : goal.returns-clause-made
returns-clause-made c = room_is_made
