use Rattle.std.proofs.Common.{◌≡◌, ◌∷◌, [], ◌∙◌, Err, false, ap, arith, subst, sym, true}
use Rattle.std.proofs.Common.{option_map}
use Rattle.syn_machine.specs.Coordinator.{CoordinatorStarts, Starts}
use Rattle.syn_machine.specs.MachineSteps.{is_done, refuses}
use Rattle.syn_coordinator.specs.Coordinators.{Does, written}
use Rattle.syn_session.specs.Sendings.{messages_of}
use Rattle.syn_world.proofs.CallLemmas.{refused_call, start_call}
use Rattle.syn_world.proofs.CoordinatorHostLemmas.{is_not_down}
use Rattle.syn_world.proofs.CountLemmas.{start_grew}
use Rattle.syn_world.proofs.coordinator.sessions.begin.Goals as goal
use Rattle.syn_path.specs.Sides.{which_of}

pub returns-in-Ok : goal.returns-in-Ok
returns-in-Ok g c pair machine stands =
    let same = c.in-Ok.ensures.failures in
    start_call c.args.coordinator c.start.new.self pair machine stands c.start.ensures.halts
    (omega (arith, same)) c.settle_started.result (option_map which_of c.args.preference)
    (messages_of c.in-Ok.sent.items) c.settle_started.ensures
    (c.in-Ok.ensures.allowed pair machine stands) (c.in-Ok.ensures.step pair machine stands)

pub returns-then-is_device : goal.returns-then-is_device
returns-then-is_device g c pair machine stands =
    let told : c.is_device.result ≡ true = cc in
    let is = c.is_device.ensures.device told in
    let broke = c.start.ensures.breaks (c.in-Err.is ∙ ap Err is) in
    let none = ap messages_of c.new.ensures.items in
    start_call c.args.coordinator c.start.new.self pair machine stands c.start.ensures.halts
    (start_grew c.in-Err.error _ _ c.in-Err.ensures.failures)
    c.settle_started-then-is_device.result (option_map which_of c.args.preference)
    (messages_of c.new.result.items)
    c.settle_started-then-is_device.ensures (c.in-Err.ensures.allowed pair machine stands is)
    (subst (λ messages. Does c.args.coordinator c.start.new.self pair
    (CoordinatorStarts pair (option_map which_of c.args.preference) machine)
    (written c.start.new.self) messages) (sym none)
    (subst (λ kept. Does c.args.coordinator c.start.new.self pair
    (CoordinatorStarts pair (option_map which_of c.args.preference) machine)
    kept []) (sym broke.0) (c.in-Err.ensures.step pair machine stands is)))

pub returns-else-is_device : goal.returns-else-is_device
returns-else-is_device g c pair machine stands =
    let told : c.is_device.result ≡ false = cc in
    let refused = c.in-Err.ensures.refused pair machine stands
    (c.is_device.ensures.other told) in
    refused_call pair machine _ _ (start_grew c.in-Err.error _ _ c.in-Err.ensures.failures)
    c.refused.result _ _ (Starts pair (option_map which_of c.args.preference) machine) refused.1
    c.refused.ensures.coordinator c.refused.ensures.outcome
    (ap (λ r. r ∷ []) c.refusal.ensures)
    (is_done _ _ _ (is_not_down pair c.args.coordinator machine stands) (refuses _ refused.0))
