use Rattle.std.proofs.Common.{◌∙◌, false}
use Rattle.syn_disk.specs.declared.disk.TheConstants.{PART_SIZE}
use Rattle.syn_disk.proofs.Padding.{get-padded}
use Rattle.syn_disk.proofs.simulated.part.SimulatedPart.sync.Goals as goal

pub returns-clause-clean : goal.returns-clause-clean
returns-clause-clean c = λ i. get-padded false _ PART_SIZE i ∙ c.clear.ensures.none i
