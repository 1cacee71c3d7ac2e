use Rattle.syn_wire.proofs.EventLemmas.{event_tells, file_tells}
use Rattle.syn_wire.proofs.MarkTreeLemmas.{marks_tell}
use Rattle.syn_wire.proofs.NameLemmas.{paths_tell}
use Rattle.syn_wire.proofs.NumberLemmas.{u16_tells, u32_tells, u64_tells}
use Rattle.syn_wire.proofs.WalkLemmas.{spelling_walks, spelling_measured}
use Rattle.syn_wire.proofs.spelling_laws.Goals as goal

pub returns-clause-u16 : goal.returns-clause-u16
returns-clause-u16 c = u16_tells

pub returns-clause-u32 : goal.returns-clause-u32
returns-clause-u32 c = u32_tells

pub returns-clause-u64 : goal.returns-clause-u64
returns-clause-u64 c = u64_tells

pub returns-clause-path : goal.returns-clause-path
returns-clause-path c = paths_tell

pub returns-clause-file : goal.returns-clause-file
returns-clause-file c = file_tells

pub returns-clause-event : goal.returns-clause-event
returns-clause-event c = event_tells c.spelling_laws.ensures.tells

pub returns-clause-tree : goal.returns-clause-tree
returns-clause-tree c version t u r s ht hu e =
    c.spelling_laws.ensures.tells version t u r s ht.part hu.part ht.fits hu.fits e

pub returns-clause-walk : goal.returns-clause-walk
returns-clause-walk c = spelling_walks

pub returns-clause-measured : goal.returns-clause-measured
returns-clause-measured c = spelling_measured

pub returns-clause-marks : goal.returns-clause-marks
returns-clause-marks c = marks_tell c.mark_laws.ensures.tells
