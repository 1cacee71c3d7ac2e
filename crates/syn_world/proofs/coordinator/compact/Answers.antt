use Rattle.std.proofs.Common.{◌≡◌, ◌∷◌, [], false, ap, arith, true}
use Rattle.syn_archive.specs.Refusals.{refusal_of}
use Rattle.syn_machine.specs.Coordinator.{coordinator_kind}
use Rattle.syn_machine.specs.MachineSteps.{Checkpoint, Does, is_done, refuses}
use Rattle.syn_world.proofs.CallLemmas.{checkpoint_call, refused_call}
use Rattle.syn_world.proofs.CoordinatorHostLemmas.{is_not_down}
use Rattle.syn_world.proofs.CoordinatorOpenLemmas.{never_less}
use Rattle.syn_world.proofs.coordinator.compact.Goals as goal

pub returns-in-Ok : goal.returns-in-Ok
returns-in-Ok g c pair machine stands =
    let same = c.in-Ok.ensures.failures in
    checkpoint_call c.args.coordinator c.checkpoint.new.self pair machine stands
    c.checkpoint.ensures.halts (omega (arith, same)) c.settle_compacted.result
    c.settle_compacted.ensures
    (c.in-Ok.ensures.allowed pair machine stands) (c.in-Ok.ensures.step pair machine stands)

pub returns-then-is_device : goal.returns-then-is_device
returns-then-is_device g c pair machine stands =
    let told : c.is_device.result ≡ true = cc in
    let is = c.is_device.ensures.device told in
    checkpoint_call c.args.coordinator c.checkpoint.new.self pair machine stands
    c.checkpoint.ensures.halts
    (never_less (refusal_of c.in-Err.error) _ _ c.in-Err.ensures.failures)
    c.settle_compacted-then-is_device.result c.settle_compacted-then-is_device.ensures
    (c.in-Err.ensures.allowed pair machine stands is)
    (c.in-Err.ensures.step pair machine stands is)

pub returns-else-is_device : goal.returns-else-is_device
returns-else-is_device g c pair machine stands =
    let told : c.is_device.result ≡ false = cc in
    let refused = c.in-Err.ensures.refused pair machine stands
    (c.is_device.ensures.other told) in
    refused_call pair machine _ _
    (never_less (refusal_of c.in-Err.error) _ _ c.in-Err.ensures.failures)
    c.refused.result _ _ (Does (coordinator_kind pair) machine Checkpoint) refused.1
    c.refused.ensures.coordinator c.refused.ensures.outcome
    (ap (λ r. r ∷ []) c.refusal.ensures)
    (is_done _ _ _ (is_not_down pair c.args.coordinator machine stands) (refuses _ refused.0))
