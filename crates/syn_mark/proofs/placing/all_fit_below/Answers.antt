use Rattle.std.proofs.Common.{◌++◌, sym, ap, ◌∙◌}
use Rattle.std.proofs.lemmas.List.Folds.{list_all_at}
use Rattle.syn_model.specs.Limits.{fits_path}
use Rattle.syn_model.specs.Tree.{Pair}
use Rattle.syn_mark.proofs.ChangeLemmas.{under_all}
use Rattle.syn_mark.proofs.placing.all_fit_below.Goals as goal

pub returns-then-not-fits_below : goal.returns-then-not-fits_below
returns-then-not-fits_below c =
    let at = c.args.at.now in
    let list = c.args.list.now in
    sym (under_all at list ∙ list_all_at (λ (pair : Pair). fits_path (at ++ pair.0)) list
    c.loop-entry.entry-index c.entry-item.result c.loop-entry-test.true
    (ap (λ (pair : Pair). fits_path (at ++ pair.0)) (sym c.entry-item.is) ∙ (ap (λ p. fits_path
    (at ++ p)) (sym c.path.ensures) ∙ (sym c.fits_below.ensures ∙ c.if-not-fits_below.true))))
