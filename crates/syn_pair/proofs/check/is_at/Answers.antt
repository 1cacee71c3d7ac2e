use Rattle.std.proofs.Common.{◌∙◌, Some, ap, sym}
use Rattle.std.proofs.lemmas.Option.{same_Some}
use Rattle.std.proofs.lemmas.Slice.Eq.{bytes_eq-Decides, slice_eq-Decides}
use Rattle.syn_pair.proofs.check.is_at.Goals as goal

pub returns-in-Some : goal.returns-in-Some
returns-in-Some c =
    let decides =
    slice_eq-Decides bytes_eq-Decides c.in-Some.touched c.args.path.now c.eq.result
    c.eq.ensures in (
      λ same. c.in-Some.is ∙ ap Some (decides.0 same),
      λ same. decides.1 (same_Some _ _ (sym c.in-Some.is ∙ same)),
    )
