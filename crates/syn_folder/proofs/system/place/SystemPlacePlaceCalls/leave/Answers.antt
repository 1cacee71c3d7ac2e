use Rattle.syn_folder.proofs.PicturedLemmas.{closes, closes_err}
use Rattle.syn_folder.proofs.system.place.SystemPlacePlaceCalls.leave.Goals as goal

pub returns-in_err-told-clause-folder : goal.returns-in_err-told-clause-folder
returns-in_err-told-clause-folder g c =
    closes_err _ _ _ c.from_residual.result c.from_residual.ensures.0

pub returns-in_err-try_close-clause-folder : goal.returns-in_err-try_close-clause-folder
returns-in_err-try_close-clause-folder g c =
    closes_err _ _ _ c.from_residual-in_err-try_close.result
    c.from_residual-in_err-try_close.ensures.0

pub returns-clause-folder : goal.returns-clause-folder
returns-clause-folder g c =
    closes _ _ _
