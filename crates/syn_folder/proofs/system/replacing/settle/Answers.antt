use Rattle.std.proofs.Common.{◌∷◌, inl, inr, refl, sym, ◌∙◌}
use Rattle.syn_folder.specs.Moments.{Met, Returned}
use Rattle.syn_folder.proofs.CourseLemmas.{begun}
use Rattle.syn_folder.proofs.AnswerLemmas.{broken, closing, half, met, returned, returned_met}
use Rattle.syn_folder.proofs.AnswerLemmas.{returned_of, shown_noted, shown_over}
use Rattle.syn_folder.proofs.system.replacing.settle.Goals as goal

pub returns-in_default-clause-folder : goal.returns-in_default-clause-folder
returns-in_default-clause-folder g c earlier safe shown =
    closing _ earlier _ earlier _ _ _ (begun _ earlier _ safe)
    (shown_over _ earlier _ _ c.requires.order
    (λ moved. c.in_default.not-Moved (c.stage.ensures ∙ moved)) safe shown)
    c.close.ensures.folder

pub returns-in-Ok-true-clause-folder : goal.returns-in-Ok-true-clause-folder
returns-in-Ok-true-clause-folder g c earlier safe shown =
    let noted = shown_noted _ earlier _ _ (sym c.stage.ensures ∙ c.in-Moved.is) shown in
    let h = returned_of _ _ _ c.in-Ok-true.field-0-test c.in-Ok-true.ensures.folder in
    let k = half _ earlier _ earlier _ _ h.0 (begun _ earlier _ safe) noted h.2 in
    let r = returned _ earlier _ k.0 _ _ h.0 k.1 h.3 in
    closing _ earlier _ (Returned h.0 ∷ k.0) _ _ _ r (inl refl) c.close-in-Ok-true.ensures.folder

pub returns-in-Ok-false-clause-folder : goal.returns-in-Ok-false-clause-folder
returns-in-Ok-false-clause-folder g c earlier safe shown =
    let h = returned_met _ _ _ c.in-Ok-false.field-0-test c.in-Ok-false.ensures.folder in
    let r = met _ earlier _ earlier _ _ (begun _ earlier _ safe) h in
    closing _ earlier _ (Met ∷ earlier) _ _ _ r (inr (inr refl)) c.leave.ensures.folder

pub returns-in-Err-clause-folder : goal.returns-in-Err-clause-folder
returns-in-Err-clause-folder g c earlier safe shown =
    let noted = shown_noted _ earlier _ _ (sym c.stage.ensures ∙ c.in-Moved.is) shown in
    let h = c.in-Err.ensures.folder in
    let k = half _ earlier _ earlier _ _ h.0 (begun _ earlier _ safe) noted h.1 in
    broken _ earlier _ k.0 _ _ k.1
