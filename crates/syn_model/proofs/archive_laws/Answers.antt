use Rattle.syn_model.proofs.ArchiveImageLemmas.{keeping_stays_sound, stands_for_sound}
use Rattle.syn_model.proofs.ArchiveImageLemmas.{archive_image_stands, new_archive_stands}
use Rattle.syn_model.proofs.ArchiveImageLemmas.{record_goes_on}
use Rattle.syn_model.proofs.ImageLengths.{archive_images_fit}
use Rattle.syn_model.proofs.archive_laws.Goals as goal

pub returns-clause-keeping : goal.returns-clause-keeping
returns-clause-keeping c = keeping_stays_sound

pub returns-clause-sound : goal.returns-clause-sound
returns-clause-sound c = stands_for_sound

pub returns-clause-image : goal.returns-clause-image
returns-clause-image c = archive_image_stands

pub returns-clause-formatted : goal.returns-clause-formatted
returns-clause-formatted c = new_archive_stands

pub returns-clause-record : goal.returns-clause-record
returns-clause-record c = record_goes_on

pub returns-clause-image_fits : goal.returns-clause-image_fits
returns-clause-image_fits c = archive_images_fit
