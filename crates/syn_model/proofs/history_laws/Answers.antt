use Rattle.syn_model.proofs.HistoryLemmas.{history-is_tree, allowed_goes_on}
use Rattle.syn_model.proofs.FitsLemmas.{history_fits, put_fits}
use Rattle.syn_model.proofs.StandingLemmas.{standing_steps, standing_allows}
use Rattle.syn_model.proofs.TouchLemmas.{touches_tell}
use Rattle.syn_model.proofs.ImageLemmas.{formatted_stands, payload_goes_on}
use Rattle.syn_model.proofs.SoundStandings.{image_stands}
use Rattle.syn_model.proofs.ImageLengths.{images_fit, history_images_fit}
use Rattle.syn_model.proofs.history_laws.Goals as goal

pub returns-clause-tree : goal.returns-clause-tree
returns-clause-tree c = history-is_tree

pub returns-clause-fits : goal.returns-clause-fits
returns-clause-fits c = history_fits

pub returns-clause-put : goal.returns-clause-put
returns-clause-put c = put_fits

pub returns-clause-goes_on : goal.returns-clause-goes_on
returns-clause-goes_on c = allowed_goes_on

pub returns-clause-steps : goal.returns-clause-steps
returns-clause-steps c = standing_steps

pub returns-clause-allows : goal.returns-clause-allows
returns-clause-allows c = standing_allows

pub returns-clause-touches : goal.returns-clause-touches
returns-clause-touches c = touches_tell

pub returns-clause-formatted : goal.returns-clause-formatted
returns-clause-formatted c = formatted_stands

pub returns-clause-payload : goal.returns-clause-payload
returns-clause-payload c = payload_goes_on

pub returns-clause-image : goal.returns-clause-image
returns-clause-image c = image_stands

pub returns-clause-standing_fits : goal.returns-clause-standing_fits
returns-clause-standing_fits c = images_fit

pub returns-clause-image_fits : goal.returns-clause-image_fits
returns-clause-image_fits c = history_images_fit
