use Rattle.std.proofs.Common.{◌<◌, arith, refl, subst}
use Rattle.std.specs.Prelude.{◌^◌, option_map}
use Rattle.syn_replica.specs.ErrorRefusals.{refusal_of}
use Rattle.syn_world.proofs.OpenLemmas.{open_not, open_ok}
use Rattle.syn_world.specs.Sides.{Gains}
use Rattle.syn_world.proofs.side.DownSide.open.Goals as goal

pub returns-in-Ok : goal.returns-in-Ok
returns-in-Ok g c machine rests =
    let fits : c.args.pair < 2 ^ 64 = omega arith in
    let tried = option_map (λ spelled. spelled.items) c.args.self.tried in
    open_ok g.D.Disk c.args.pair c.args.self machine rests c.in-Ok.replica c.new-agent.result
    c.gained-outcome.result tried rests.tries
    (c.in-Ok.ensures.world c.args.pair machine.journal refl fits rests.rests) c.new-agent.ensures
    (subst (λ n. Gains c.gained-outcome.result c.args.self.position n tried) c.position.ensures
    c.gained-outcome.ensures) c.in-Ok.ensures.device.failures

pub returns-in-Err : goal.returns-in-Err
returns-in-Err g c machine rests =
    let fits : c.args.pair < 2 ^ 64 = omega arith in
    open_not g.D.Disk c.args.pair c.args.self machine rests c.in-Err.disk c.refusal.result
    (refusal_of c.in-Err.error) c.refusal.ensures c.in-Err.ensures.device.failures
    (c.in-Err.ensures.world c.args.pair machine.journal refl fits rests.rests)
