use Rattle.std.proofs.Common.{Option, option_map, subst, sym}
use Rattle.syn_pair.proofs.folder.FolderStamp.check.Goals as goal
use Rattle.syn_pair.specs.Folders.{AreNotOfFolder, no_number, stamp_of}
use Rattle.syn_pair.specs.declared.folder.FolderMismatch.TheVariants.{NoNumber}
use Rattle.syn_pair.specs.declared.folder.FolderStamp.{FolderStamp}

pub returns-in-None-clause-not_of : goal.returns-in-None-clause-not_of
returns-in-None-clause-not_of c =
    subst (λ (found : Option FolderStamp).
    AreNotOfFolder (stamp_of c.args.self.now) (option_map stamp_of found) NoNumber)
    (sym c.in-None.is) no_number
