use Rattle.syn_folder.proofs.PicturedLemmas.{compares}
use Rattle.syn_folder.proofs.system.place.SystemPlacePlaceCalls.compare.Goals as goal

pub returns-clause-folder : goal.returns-clause-folder
returns-clause-folder g c =
    compares _ _ _ _ c.requires.lies
