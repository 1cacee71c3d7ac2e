use Rattle.std.proofs.Common.{refl}
use Rattle.syn_world.proofs.ReopenLemmas.{reopen_early}
use Rattle.syn_world.proofs.side.UpSide.reopen.Goals as goal

pub returns-in-Err : goal.returns-in-Err
returns-in-Err g c pair machine runs =
    reopen_early pair c.args.self.replica c.args.self.agent machine runs _ c.refused.result
    c.refused.ensures refl
