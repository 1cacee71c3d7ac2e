use Rattle.std.proofs.Common.{OnOk, subst}
use Rattle.syn_folder.specs.Strangers.{IsApart}
use Rattle.syn_command.proofs.export.export_part.Goals as goal

-- what was copied is what stands at the path
pub returns-in-Updated-clause-apart : goal.returns-in-Updated-clause-apart
returns-in-Updated-clause-apart g c updated =
    subst (λ part. OnOk c.update.result (IsApart (g.F.Folder.strangers c.args.folder.now) part))
    c.in_ok-part.ensures.part c.update.ensures.apart
