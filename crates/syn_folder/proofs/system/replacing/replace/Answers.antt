use Rattle.std.proofs.Common.{[], sym, ◌∙◌}
use Rattle.syn_folder.proofs.AnswerLemmas.{goes_ready, noting, tried, untouched, writing}
use Rattle.syn_folder.proofs.system.replacing.replace.Goals as goal

pub returns-in-Ok-false-clause-folder : goal.returns-in-Ok-false-clause-folder
returns-in-Ok-false-clause-folder g c = untouched _ _ _ c.requires.rest

pub returns-in-Err-clause-folder : goal.returns-in-Err-clause-folder
returns-in-Err-clause-folder g c = untouched _ _ _ c.requires.rest

pub returns-in-Err-prepare-clause-folder : goal.returns-in-Err-prepare-clause-folder
returns-in-Err-prepare-clause-folder g c =
    tried _ _ _ _ c.requires.rest c.in-Err-prepare.ensures.folder

pub returns-in-Noted-clause-folder : goal.returns-in-Noted-clause-folder
returns-in-Noted-clause-folder g c =
    let n = noting _ _ _ _ _ c.requires.order
    (sym c.in_default.ensures.stage ∙ (sym c.stage.ensures ∙ c.in-Noted.is)) c.requires.rest
    c.in_default.ensures.folder in
    goes_ready _ [] _ _ c.prepare.ensures.wanted n.done _ _ _ n.reached n.ready
    (λ s r. c.put_over.ensures.folder n.done s r n.kept n.noted)

pub returns-in_default-stage-clause-folder : goal.returns-in_default-stage-clause-folder
returns-in_default-stage-clause-folder g c =
    let n = writing _ _ _ _ _ c.requires.order
    (λ is. c.in_default-stage.not-Noted (c.stage.ensures ∙ (c.in_default.ensures.stage ∙ is)))
    c.requires.rest c.in_default.ensures.folder in
    goes_ready _ [] _ _ c.prepare.ensures.wanted n.done _ _ _ n.reached n.ready
    (λ s r. c.put_new.ensures.folder n.done s r n.same n.rest)
