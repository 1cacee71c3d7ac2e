use Rattle.std.proofs.Common.{inl, sym, ◌∙◌}
use Rattle.syn_folder.proofs.CourseLemmas.{begun}
use Rattle.syn_folder.proofs.AnswerLemmas.{broke, refused, undone}
use Rattle.syn_folder.proofs.system.replacing.end_refused.Goals as goal

pub returns-in-Err-clause-folder : goal.returns-in-Err-clause-folder
returns-in-Err-clause-folder g c earlier safe unput none =
    refused _ earlier _ _ _ _ (broke _ earlier _ earlier _ _ (begun _ earlier _ safe)
    c.in-Err.ensures.folder (inl (sym safe.kept ∙ none)))

pub returns-clause-folder : goal.returns-clause-folder
returns-clause-folder g c earlier safe unput none =
    undone _ earlier _ earlier _ _ _ (begun _ earlier _ safe) unput (inl (sym safe.kept ∙ none))
    c.in_default.ensures.folder
