use Rattle.syn_archive.proofs.AlikeLemmas.{kept_told, kept_spelled, one_stands}
use Rattle.syn_archive.proofs.laws.opening_laws.Goals as goal

pub returns-clause-told : goal.returns-clause-told
returns-clause-told c = kept_told c.image_laws.ensures.kept

pub returns-clause-spelled : goal.returns-clause-spelled
returns-clause-spelled c = kept_spelled c.replacement_laws.ensures.fits

pub returns-clause-one : goal.returns-clause-one
returns-clause-one c =
    one_stands (kept_told c.image_laws.ensures.kept) (kept_spelled c.replacement_laws.ensures.fits)
    c.archive_laws.ensures.keeping c.image_laws.ensures.archive
