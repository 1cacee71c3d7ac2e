use Rattle.std.proofs.Common.{◌∷◌, inr, refl, ◌∙◌, ap}
use Rattle.syn_folder.specs.Moments.{Met, Moment, Returned}
use Rattle.syn_folder.proofs.CourseLemmas.{begun}
use Rattle.syn_folder.proofs.AnswerLemmas.{broke, goes_on, half, met, refused, returned}
use Rattle.syn_folder.proofs.AnswerLemmas.{returned_met, returned_of, undone}
use Rattle.syn_folder.proofs.system.replacing.undo.Goals as goal

pub returns-in-Err-leave-clause-folder : goal.returns-in-Err-leave-clause-folder
returns-in-Err-leave-clause-folder g c earlier safe unput noted =
    let h = returned_met _ _ _ c.in-Ok-false.field-0-test c.in-Ok-false.ensures.folder in
    let r = met _ earlier _ earlier _ _ (begun _ earlier _ safe) h in
    refused _ earlier _ _ _ _
    (broke _ earlier _ (Met ∷ earlier) _ _ r c.in-Err-leave.ensures.folder (inr (inr refl)))

pub returns-in-Ok-true-clause-folder : goal.returns-in-Ok-true-clause-folder
returns-in-Ok-true-clause-folder g c earlier safe unput noted =
    let h = returned_of _ _ _ c.in-Ok-true.field-0-test c.in-Ok-true.ensures.folder in
    let k = half _ earlier _ earlier _ _ h.0 (begun _ earlier _ safe) noted h.2 in
    let r = returned _ earlier _ k.0 _ _ h.0 k.1 h.3 in
    goes_on _ earlier _ _ c.put_back.ensures.wanted (Returned h.0 ∷ k.0) _ _ _ r
    (λ s. c.end_refused.ensures.folder (Returned h.0 ∷ k.0) s (k.2 ∙ unput)
    (h.3.since.kept ∙ ap (λ (m : Moment). m.kept) h.3.does.2))

pub returns-in_default-clause-folder : goal.returns-in_default-clause-folder
returns-in_default-clause-folder g c earlier safe unput noted =
    let h = returned_met _ _ _ c.in-Ok-false.field-0-test c.in-Ok-false.ensures.folder in
    let r = met _ earlier _ earlier _ _ (begun _ earlier _ safe) h in
    undone _ earlier _ (Met ∷ earlier) _ _ _ r unput (inr refl) c.in_default.ensures.folder

pub returns-in-Err-clause-folder : goal.returns-in-Err-clause-folder
returns-in-Err-clause-folder g c earlier safe unput noted =
    let h = c.in-Err.ensures.folder in
    let k = half _ earlier _ earlier _ _ h.0 (begun _ earlier _ safe) noted h.1 in
    refused _ earlier _ k.0 _ _ k.1
