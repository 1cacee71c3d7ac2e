use Rattle.syn_mark.proofs.ChangeLemmas.{put_part_fits}
use Rattle.syn_mark.proofs.laws.replacement_laws.Goals as goal

pub returns : goal.returns
returns c = record { fits = put_part_fits c.tree_laws.ensures.there c.tree_laws.ensures.fits_paths }
