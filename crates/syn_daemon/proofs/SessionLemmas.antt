-- A coordinator that nobody called, and refusals of one that was driven.
use Rattle.std.proofs.Common.{ℕ, [], false, refl, inl, Option}
use Rattle.std.specs.Prelude.{IfErr, None, Result, Ok, Err}
use Rattle.syn_daemon.specs.Sessions.{DrivesSession, RefusesRun, run_refused}
use Rattle.syn_disk.specs.declared.disk.Disk.{Ghosts}
use Rattle.syn_machine.specs.Coordinator.{CoordinatorMachine}
use Rattle.syn_refusal.specs.Refusals.{cause_of}
use Rattle.syn_refusal.specs.declared.refusal.Refusal.{Refusal as Answer}
use Rattle.syn_coordinator.specs.Coordinators.{Stands}
use Rattle.syn_coordinator.specs.declared.coordinator.Coordinator.{Coordinator}
use Rattle.syn_sync.proofs.WriteLemmas.{writes_nothing}
use Rattle.syn_sync.specs.Drivers.{ConnectionStates, Outlets}
use Rattle.syn_sync.specs.Refusals.{Refuses}
use Rattle.syn_model.specs.Which.{Which}

module _ {D : Type 0} {disk : Ghosts D} where
  -- it was driven by no act
  pub untouched : {preference : Option Which} (coordinator : Coordinator D disk) (pair : ℕ)
      (machine : CoordinatorMachine)
      (why : Answer) → Stands coordinator pair machine
      → DrivesSession preference coordinator pair machine (Err why)
  untouched coordinator pair machine why stands =
      let states : ConnectionStates = λ side. record { given = None; held = [] } in
      let outlets : Outlets = λ side. record { written = None; goes = false } in record {
        states = states;
        heard = states;
        from = outlets;
        to = outlets;
        drives = record {
          acts = [];
          reached = machine;
          leads = refl;
          ends = inl stands;
          hears = λ side. refl;
          writes = λ side. writes_nothing (outlets side) false;
        };
        begins = tt;
      }

  module _ (old new : Coordinator D disk) (pair : ℕ) (machine : CoordinatorMachine) where
    pub run_driven : (result : Result Unit Answer)
        → IfErr result (λ why. Refuses old new pair machine (cause_of why))
        → IfErr result (λ why. RefusesRun old new pair machine (cause_of why))
    run_driven (Ok x) refused = tt
    run_driven (Err why) refused = run_refused (cause_of why) refused
