use Rattle.syn_replica.proofs.AlikeLemmas.{events_told, one_given}
use Rattle.syn_replica.proofs.CauseLemmas.{short_at, spelled_one}
use Rattle.syn_replica.proofs.laws.opening_laws.Goals as goal

pub returns-clause-told : goal.returns-clause-told
returns-clause-told c = events_told c.spelling_laws.ensures.event

pub returns-clause-spelled : goal.returns-clause-spelled
returns-clause-spelled c =
    let laws = c.history_laws.ensures in
    let trees = c.tree_laws.ensures in
    spelled_one laws.put trees.there trees.fits trees.fits_paths

pub returns-clause-one : goal.returns-clause-one
returns-clause-one c =
    let laws = c.history_laws.ensures in
    let trees = c.tree_laws.ensures in
    one_given (events_told c.spelling_laws.ensures.event)
    (spelled_one laws.put trees.there trees.fits trees.fits_paths) c.image_laws.ensures.image

pub returns-clause-short : goal.returns-clause-short
returns-clause-short c =
    let laws = c.history_laws.ensures in
    let trees = c.tree_laws.ensures in
    short_at laws.put trees.there trees.fits trees.fits_paths
