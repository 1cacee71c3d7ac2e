use Rattle.std.proofs.Common.{refl}
use Rattle.syn_reconcile.proofs.carry.mark_dir.Goals as goal

pub returns-clause-carried : goal.returns-clause-carried
returns-clause-carried g c kept left right keeps =
    record { left = refl; marks = c.in_ok-record_dir.ensures.recorded kept keeps }
