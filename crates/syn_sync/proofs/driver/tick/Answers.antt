use Rattle.std.proofs.Common.{[], refl}
use Rattle.syn_machine.specs.Acts.{Ticking}
use Rattle.syn_machine.specs.Coordinator.{CoordinatorTicks}
use Rattle.syn_session.specs.Sendings.{messages_of}
use Rattle.syn_sync.proofs.RunLemmas.{calls_none, calls_once, tick_act}
use Rattle.syn_sync.proofs.driver.tick.Goals as goal

pub returns-then-is_running-clause-calls : goal.returns-then-is_running-clause-calls
returns-then-is_running-clause-calls g c = λ pair machine stands.
    calls_once c.args.coordinator.now c.on_tick.new.self pair machine Ticking
    (CoordinatorTicks machine) (tick_act pair machine) []
    (messages_of c.on_tick.result.items) [] (c.on_tick.ensures.step pair machine stands)
    (λ side. refl) (λ call side is. refl)

pub returns-else-is_running-clause-calls : goal.returns-else-is_running-clause-calls
returns-else-is_running-clause-calls g c = λ pair machine stands.
    calls_none _ pair machine stands
