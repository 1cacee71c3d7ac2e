use Rattle.syn_folder.proofs.PicturedLemmas.{returns, returns_err, returns_met}
use Rattle.syn_folder.proofs.system.place.SystemPlacePlaceCalls.put_back.Goals as goal

pub returns-then-is_back-clause-folder : goal.returns-then-is_back-clause-folder
returns-then-is_back-clause-folder g c =
    returns _ _ _ _ c.if-is_back.true c.requires.lies

pub returns-else-is_back-clause-folder : goal.returns-else-is_back-clause-folder
returns-else-is_back-clause-folder g c =
    returns_met _ _ _ _ c.if-is_back.false

pub returns-in_err-is_back-clause-folder : goal.returns-in_err-is_back-clause-folder
returns-in_err-is_back-clause-folder g c =
    returns_err _ _ _ c.from_residual.result c.from_residual.ensures.0
