use Rattle.std.proofs.Common.{◌∙◌}
use Rattle.syn_disk.proofs.Tracking.{caught_up}
use Rattle.syn_disk.proofs.simulated.part.catch_up.Goals as goal

pub returns-clause-copied : goal.returns-clause-copied
returns-clause-copied c =
    let r = c.requires in
    c.copy_range.ensures.items ∙ caught_up _ _ _ _ _ c.hull-from.ensures r.sizes r.flags r.same
