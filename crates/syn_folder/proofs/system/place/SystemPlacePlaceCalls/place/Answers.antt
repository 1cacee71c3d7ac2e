use Rattle.syn_folder.proofs.PicturedLemmas.{places}
use Rattle.syn_folder.proofs.system.place.SystemPlacePlaceCalls.place.Goals as goal

pub returns-then-is_placed-clause-folder : goal.returns-then-is_placed-clause-folder
returns-then-is_placed-clause-folder g c =
    places _ _ _ _ c.requires.0

pub returns-else-is_placed-clause-folder : goal.returns-else-is_placed-clause-folder
returns-else-is_placed-clause-folder g c =
    places _ _ _ _ c.requires.0
