use Rattle.std.proofs.Common.{◌∷◌, true, sym, ◌∙◌}
use Rattle.syn_folder.specs.Moments.{Knew, Took}
use Rattle.syn_folder.proofs.CourseLemmas.{begun, waited}
use Rattle.syn_folder.proofs.AnswerLemmas.{goes_on, goes_ready, knew, knew_none, knew_noted}
use Rattle.syn_folder.proofs.AnswerLemmas.{knew_of, knew_ready, took, took_none, took_noted}
use Rattle.syn_folder.proofs.AnswerLemmas.{took_of, took_ready}
use Rattle.syn_folder.proofs.system.replacing.put_over.Goals as goal

pub returns-in-Ok-false-clause-folder : goal.returns-in-Ok-false-clause-folder
returns-in-Ok-false-clause-folder g c earlier safe ready none noted =
    let e = took_none _ _ _ c.in-Ok-false.field-0-test c.in-Ok-false.ensures.folder in
    goes_on _ earlier _ _ c.take.ensures.wanted earlier _ _ _
    (waited _ earlier _ earlier _ _ (begun _ earlier _ safe) e)
    (λ s. c.end_refused.ensures.folder earlier s ready.unput (e.kept ∙ none))

pub returns-in-Err-clause-folder : goal.returns-in-Err-clause-folder
returns-in-Err-clause-folder g c earlier safe ready none noted =
    let e = c.in-Err.ensures.folder in
    goes_on _ earlier _ _ c.take.ensures.wanted earlier _ _ _
    (waited _ earlier _ earlier _ _ (begun _ earlier _ safe) e)
    (λ s. c.end_refused-in-Err.ensures.folder earlier s ready.unput (e.kept ∙ none))

pub returns-in-Ok-true-compare-clause-folder : goal.returns-in-Ok-true-compare-clause-folder
returns-in-Ok-true-compare-clause-folder g c earlier safe ready none noted =
    let t = took_of _ _ _ c.in-Ok-true.field-0-test c.in-Ok-true.ensures.folder in
    let r = took _ earlier _ earlier _ _ t.0 (begun _ earlier _ safe) t.1 none ready noted in
    let n = took_noted true _ _ t.0 t.1 noted in
    let rd = took_ready _ earlier _ _ t.0 t.1 ready in
    let k = knew_of _ _ _ c.in-Ok-true-compare.field-0-test c.in-Ok-true-compare.ensures.folder in
    goes_ready _ earlier _ _ (c.compare.ensures.wanted ∙ c.take.ensures.wanted)
    (Knew k.0 ∷ Took t.0 ∷ earlier) _ _ _
    (knew _ earlier _ (Took t.0 ∷ earlier) _ _ k.0 r k.1 rd n)
    (knew_ready _ (Took t.0 ∷ earlier) _ _ k.0 k.1 rd)
    (λ s d. c.put_in_place.ensures.folder (Knew k.0 ∷ Took t.0 ∷ earlier) s d
    (sym k.1.does.0 ∙ (k.1.before.kept ∙ r.safe.kept)) (knew_noted true _ _ k.0 k.1 n))

pub returns-in-Ok-false-compare-clause-folder : goal.returns-in-Ok-false-compare-clause-folder
returns-in-Ok-false-compare-clause-folder g c earlier safe ready none noted =
    let t = took_of _ _ _ c.in-Ok-true.field-0-test c.in-Ok-true.ensures.folder in
    let r = took _ earlier _ earlier _ _ t.0 (begun _ earlier _ safe) t.1 none ready noted in
    let e = knew_none _ _ _ c.in-Ok-false-compare.field-0-test
    c.in-Ok-false-compare.ensures.folder in
    goes_on _ earlier _ _ (c.compare.ensures.wanted ∙ c.take.ensures.wanted) (Took t.0 ∷ earlier)
    _ _ _ (waited _ earlier _ (Took t.0 ∷ earlier) _ _ r e)
    (λ s. c.undo.ensures.folder (Took t.0 ∷ earlier) s ready.unput
    (e.noted ∙ took_noted true _ _ t.0 t.1 noted))

pub returns-in-Err-compare-clause-folder : goal.returns-in-Err-compare-clause-folder
returns-in-Err-compare-clause-folder g c earlier safe ready none noted =
    let t = took_of _ _ _ c.in-Ok-true.field-0-test c.in-Ok-true.ensures.folder in
    let r = took _ earlier _ earlier _ _ t.0 (begun _ earlier _ safe) t.1 none ready noted in
    let e = c.in-Err-compare.ensures.folder in
    goes_on _ earlier _ _ (c.compare.ensures.wanted ∙ c.take.ensures.wanted) (Took t.0 ∷ earlier)
    _ _ _ (waited _ earlier _ (Took t.0 ∷ earlier) _ _ r e)
    (λ s. c.undo-in-Err-compare.ensures.folder (Took t.0 ∷ earlier) s ready.unput
    (e.noted ∙ took_noted true _ _ t.0 t.1 noted))
