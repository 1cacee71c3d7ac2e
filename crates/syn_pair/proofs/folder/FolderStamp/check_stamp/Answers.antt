use Rattle.std.proofs.Common.{◌∙◌, arith, sym}
use Rattle.std.proofs.lemmas.Bool.{false≢true}
use Rattle.syn_pair.proofs.folder.FolderStamp.check_stamp.Goals as goal
use Rattle.syn_pair.specs.Folders.{older_folder, older_marks, other}

pub returns-then-not-are_same-clause-not_of : goal.returns-then-not-are_same-clause-not_of
returns-then-not-are_same-clause-not_of c =
    other _ (λ same. false≢true (sym c.if-not-are_same.true ∙ c.are_same.ensures.1 same))

pub returns-then-folder-marks-clause-not_of : goal.returns-then-folder-marks-clause-not_of
returns-then-folder-marks-clause-not_of c = older_folder _ c.if-folder-marks.true

pub returns-then-folder-marks-gt1-clause-not_of : goal.returns-then-folder-marks-gt1-clause-not_of
returns-then-folder-marks-gt1-clause-not_of c =
    older_marks _ (omega (arith, c.if-folder-marks.false, c.if-folder-marks-gt1.true))
