use Rattle.syn_folder.proofs.PicturedLemmas.{prepares_err, prepares_new, prepares_noted}
use Rattle.syn_folder.proofs.PicturedLemmas.{prepares_tried}
use Rattle.syn_folder.proofs.system.place.SystemPlacePlaceCalls.prepare.Goals as goal

pub returns-in_err-write_item-clause-folder : goal.returns-in_err-write_item-clause-folder
returns-in_err-write_item-clause-folder g c =
    prepares_err _ _ _ _ c.from_residual.result c.from_residual.ensures.0

pub returns-in_err-self-clause-folder : goal.returns-in_err-self-clause-folder
returns-in_err-self-clause-folder g c =
    prepares_err _ _ _ _ c.from_residual-in_err-self.result
    c.from_residual-in_err-self.ensures.0

pub returns-in-Err-clause-folder : goal.returns-in-Err-clause-folder
returns-in-Err-clause-folder g c =
    prepares_tried _ _ _

pub returns-in_default-note-clause-folder : goal.returns-in_default-note-clause-folder
returns-in_default-note-clause-folder g c =
    prepares_noted _ _ _ _ c.in-Standing.is

pub returns-in_default-stage-clause-folder : goal.returns-in_default-stage-clause-folder
returns-in_default-stage-clause-folder g c =
    prepares_new _ _ _ _ c.in_default-stage.not-Standing
