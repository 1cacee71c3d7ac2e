use Rattle.std.proofs.Common.{◌≡◌, ◌∷◌, true, false, refl, sym, ◌∙◌}
use Rattle.syn_folder.specs.Moments.{Met, Put}
use Rattle.syn_folder.proofs.CourseLemmas.{begun, waited}
use Rattle.syn_folder.proofs.AnswerLemmas.{goes_made, goes_on, met, met_noted, placed, put_met}
use Rattle.syn_folder.proofs.AnswerLemmas.{put_of, put_written}
use Rattle.syn_folder.proofs.system.replacing.put_in_place.Goals as goal

pub returns-then-not-is_wanted-clause-folder : goal.returns-then-not-is_wanted-clause-folder
returns-then-not-is_wanted-clause-folder g c earlier safe ready is noted =
    c.end.ensures.folder earlier safe (record {
      kept = is;
      placed = λ y. absurd (let k : false ≡ true = c.if-not-is_wanted.ensures ∙ y in cc);
    })

pub returns-in-Ok-true-clause-folder : goal.returns-in-Ok-true-clause-folder
returns-in-Ok-true-clause-folder g c earlier safe ready is noted =
    let h = put_of _ _ _ c.in-Ok-true.field-0-test c.in-Ok-true.ensures.folder in
    let wrote = put_written _ earlier _ _ h.0 h.1 ready (sym c.if-not-is_wanted.ensures) in
    let r = placed _ earlier _ earlier _ _ h.0 (begun _ earlier _ safe) h.1 is wrote in
    goes_made _ earlier _ _ c.place.ensures.wanted (Put h.0 ∷ earlier) _ _ _ r
    (record { kept = is; placed = λ _. (h.0, wrote, refl) })
    (λ s made. c.end-in-Ok-true.ensures.folder (Put h.0 ∷ earlier) s made)

pub returns-in-Ok-false-clause-folder : goal.returns-in-Ok-false-clause-folder
returns-in-Ok-false-clause-folder g c earlier safe ready is noted =
    let h = put_met _ _ _ c.in-Ok-false.field-0-test c.in-Ok-false.ensures.folder in
    let r = met _ earlier _ earlier _ _ (begun _ earlier _ safe) h in
    goes_on _ earlier _ _ c.place.ensures.wanted (Met ∷ earlier) _ _ _ r
    (λ s. c.undo.ensures.folder (Met ∷ earlier) s ready.unput (met_noted true _ _ h noted))

pub returns-in-Err-clause-folder : goal.returns-in-Err-clause-folder
returns-in-Err-clause-folder g c earlier safe ready is noted =
    let e = c.in-Err.ensures.folder in
    goes_on _ earlier _ _ c.place.ensures.wanted earlier _ _ _
    (waited _ earlier _ earlier _ _ (begun _ earlier _ safe) e)
    (λ s. c.undo-in-Err.ensures.folder earlier s ready.unput (e.noted ∙ noted))
