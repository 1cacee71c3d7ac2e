use Rattle.std.proofs.Common.{◌∙◌, ◌∷◌, [], ap, refl}
use Rattle.syn_replica.specs.ErrorRefusals.{refusal_of}
use Rattle.syn_world.proofs.ReopenLemmas.{reopen_not, reopen_ok}
use Rattle.syn_world.proofs.SideLemmas.{position_is}
use Rattle.syn_world.proofs.side.UpSide.reopen_with.Goals as goal

pub returns-in-Ok : goal.returns-in-Ok
returns-in-Ok g c pair machine runs =
    reopen_ok pair c.args.self.replica c.reopen.new.self c.args.self.agent machine runs
    c.settle_opened.result _
    (c.position-position.ensures ∙ position_is pair c.args.self machine runs) _
    (λ told writing. c.requires ∙ runs.tries told writing) c.settle_opened.ensures
    c.in-Ok.ensures.machine.device.failures
    (c.in-Ok.ensures.world pair machine.journal runs.is.keeps)

pub returns-in-Err : goal.returns-in-Err
returns-in-Err g c pair machine runs =
    let told = c.in-Err.ensures in
    reopen_not pair c.args.self.replica c.reopen.new.self c.args.self.agent machine runs
    c.settle.result _ (c.position-position.ensures ∙ position_is pair c.args.self machine runs) _
    c.settle.ensures (refusal_of c.in-Err.error) (ap (λ r. r ∷ []) c.refusal.ensures) refl
    told.machine.device.failures told.machine.tried
    (told.world pair machine.journal runs.is.keeps)
