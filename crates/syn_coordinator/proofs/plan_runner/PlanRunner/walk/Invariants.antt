use Rattle.std.proofs.Common.{ℕ, List}
use Rattle.syn_machine.specs.Coordinator.{Exchange}
use Rattle.syn_coordinator.specs.PlanRunners.{BreaksNothing}
use Rattle.syn_coordinator.specs.Machines.{IsMachine, Journal}
use Rattle.syn_coordinator.specs.inner.Settling.{HasCome, IsQuiet}
use Rattle.syn_session.specs.Stages.{Reached}
use Rattle.syn_coordinator.specs.inner.Walking.{IsAtItem}
use Rattle.syn_coordinator.proofs.plan_runner.PlanRunner.walk.Given as goal

-- it is past some items, and the call does nothing else
abbrev pub invariant-loop : goal.invariant-loop
invariant-loop g l = record {
  come : (pair : ℕ) (journal : Journal) (taken : Exchange) (all : List Exchange)
      (before : Reached) → IsMachine (l.initial.self.archive) pair journal →
      IsQuiet l.initial.self journal → IsAtItem l.initial.progress l.left l.right all before →
      HasCome l.initial.self l.self pair taken journal before l.progress l.left l.right all;
  breaks : BreaksNothing l.initial.self l.self;
}
