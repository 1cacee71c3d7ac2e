use Rattle.std.proofs.Common.{inl, inr}
use Rattle.syn_folder.proofs.CourseLemmas.{begun}
use Rattle.syn_folder.proofs.AnswerLemmas.{broke, made, refused}
use Rattle.syn_folder.proofs.system.replacing.end.Goals as goal

pub returns-in-Ok-clause-folder : goal.returns-in-Ok-clause-folder
returns-in-Ok-clause-folder g c earlier safe is =
    made _ earlier _ earlier _ _ (begun _ earlier _ safe) is c.in-Ok.ensures.folder

pub returns-in-Err-clause-folder : goal.returns-in-Err-clause-folder
returns-in-Err-clause-folder g c earlier safe is =
    refused _ earlier _ _ _ _
    (broke _ earlier _ earlier _ _ (begun _ earlier _ safe) c.in-Err.ensures.folder (inr (inl is)))
