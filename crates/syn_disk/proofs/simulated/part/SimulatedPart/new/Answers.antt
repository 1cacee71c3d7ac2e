use Rattle.std.proofs.Common.{◌∙◌, refl, false}
use Rattle.syn_disk.specs.declared.disk.TheConstants.{PART_SIZE}
use Rattle.syn_disk.proofs.Padding.{get-padded}
use Rattle.syn_disk.proofs.simulated.part.SimulatedPart.new.Goals as goal

pub returns-clause-zeros : goal.returns-clause-zeros
returns-clause-zeros c = λ i. get-padded 0 _ PART_SIZE i ∙ rw c.in_ok-content.ensures.items refl

pub returns-clause-clean : goal.returns-clause-clean
returns-clause-clean c = λ i. get-padded false _ PART_SIZE i ∙ rw c.in_ok-written.ensures refl
