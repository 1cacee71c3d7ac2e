use Rattle.syn_wire.proofs.MarkTreeLemmas.{marks_tell}
use Rattle.syn_image.proofs.ImageLemmas.{images_tell}
use Rattle.syn_image.proofs.KeptLemmas.{kept_tells, archives_tell}
use Rattle.syn_image.proofs.image_laws.Goals as goal

pub returns-clause-image : goal.returns-clause-image
returns-clause-image c = images_tell c.spelling_laws.ensures.tells

pub returns-clause-kept : goal.returns-clause-kept
returns-clause-kept c = kept_tells (marks_tell c.mark_laws.ensures.tells)

pub returns-clause-archive : goal.returns-clause-archive
returns-clause-archive c = archives_tell (marks_tell c.mark_laws.ensures.tells)
