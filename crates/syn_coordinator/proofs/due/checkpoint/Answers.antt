use Rattle.std.proofs.Common.{◌<◌, ◌^◌, refl, subst}
use Rattle.syn_coordinator.specs.inner.Recording.{made}
use Rattle.syn_coordinator.proofs.DueLemmas.{not_greatest, was_compacted, when_up}
use Rattle.syn_coordinator.proofs.OutcomeLemmas.{ok_not_full}
use Rattle.syn_coordinator.proofs.RecordLemmas.{unmade, unmade_counts, unmade_leaves}
use Rattle.syn_coordinator.proofs.due.checkpoint.Goals as goal

pub returns-in-Ok-clause-made : goal.returns-in-Ok-clause-made
returns-in-Ok-clause-made g c pair machine is up =
    let fits = subst (λ n. n < 2 ^ 64) c.generation-generation.ensures c.is_long.ensures in
    let was = when_up c.args.archive.now pair machine is up in
    made (not_greatest c.args.archive.now c.checkpoint.new.self pair machine is fits was
    (λ e. ok_not_full _ _ refl ((c.in-Ok.ensures.greatest _ was.stands).1 e)))
    (was_compacted c.checkpoint.new.self pair machine (c.in-Ok.ensures.world pair machine is))

pub returns-in-Err-clause-made : goal.returns-in-Err-clause-made
returns-in-Err-clause-made g c pair machine is up =
    let was = when_up c.args.archive.now pair machine is up in
    unmade c.args.archive.now c.checkpoint.new.self pair machine is was
    (subst (λ n. n < 2 ^ 64) c.generation-generation.ensures c.is_long.ensures) c.in-Err.error
    c.in-Err.ensures.refusals c.in-Err.ensures.machine.halted
    (c.in-Err.ensures.greatest _ was.stands) (c.in-Err.ensures.world pair machine is)
    c.without_checkpoint.result c.without_checkpoint.ensures

pub returns-in-Err-clause-failures : goal.returns-in-Err-clause-failures
returns-in-Err-clause-failures g c =
    unmade_counts c.in-Err.error _ _ c.in-Err.ensures.machine.device.failures
    c.without_checkpoint.result c.without_checkpoint.ensures

pub returns-in-Err-clause-refused : goal.returns-in-Err-clause-refused
returns-in-Err-clause-refused g c =
    unmade_leaves c.args.archive.now c.checkpoint.new.self c.in-Err.error
    c.in-Err.ensures.machine.unchanged c.in-Err.ensures.machine.readings
    c.without_checkpoint.result c.without_checkpoint.ensures
