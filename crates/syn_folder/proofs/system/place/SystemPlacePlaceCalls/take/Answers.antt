use Rattle.syn_folder.proofs.PicturedLemmas.{takes}
use Rattle.syn_folder.proofs.system.place.SystemPlacePlaceCalls.take.Goals as goal

pub returns-then-is_taken-clause-folder : goal.returns-then-is_taken-clause-folder
returns-then-is_taken-clause-folder g c =
    takes _ _ _ _ c.if-is_taken.true
