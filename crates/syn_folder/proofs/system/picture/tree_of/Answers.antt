use Rattle.syn_folder.proofs.PictureLemmas.{refused_entries, refused_whole}
use Rattle.syn_folder.proofs.system.picture.tree_of.Goals as goal

pub returns-in_default-clause-none : goal.returns-in_default-clause-none
returns-in_default-clause-none c =
    refused_entries c.args.found.items c.in_default.ensures.none

pub returns-in-Err-Full-clause-none : goal.returns-in-Err-Full-clause-none
returns-in-Err-Full-clause-none c =
    refused_whole c.args.found.items c.in-Some.entries c.in-Some.ensures.some
    (c.in-Err-Full.ensures.refused (λ memory. absurd cc)).1
