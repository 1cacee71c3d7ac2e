use Rattle.std.proofs.Common.{[], ap, refl, subst, sym, option_map}
use Rattle.syn_machine.specs.Acts as acts
use Rattle.syn_machine.specs.Coordinator.{CoordinatorStarts}
use Rattle.syn_session.specs.Sendings.{messages_of}
use Rattle.syn_coordinator.specs.declared.error.StartError.TheVariants as session
use Rattle.syn_sync.proofs.RunLemmas.{calls_refused, start_act, starts_once}
use Rattle.syn_sync.proofs.StartLemmas.{is_start_device, restarted, start_refused}
use Rattle.syn_sync.proofs.driver.start.Goals as goal
use Rattle.syn_sync.specs.Refusals.{Refuses}
use Rattle.syn_sync.specs.Runs.{frames_to}
use Rattle.syn_sync.specs.inner.Calling.{Calls, Starting}
use Rattle.syn_path.specs.Sides.{which_of}

pub returns-in-Ok : goal.returns-in-Ok
returns-in-Ok g c = λ pair machine stands.
    starts_once (option_map which_of c.args.preference) c.args.coordinator.now c.start.new.self pair
    machine stands (c.in-Ok.ensures.allowed pair machine stands) _
    (messages_of c.in-Ok.sends.items) (c.in-Ok.ensures.step pair machine stands)

pub returns-in-Err : goal.returns-in-Err
returns-in-Err g c = λ pair machine stands. (
  calls_refused c.args.coordinator.now c.start.new.self pair machine
      (acts.Starting (option_map which_of c.args.preference))
      (CoordinatorStarts pair (option_map which_of c.args.preference) machine) session.Device
      c.in-Err.error
      (λ device. start_act c.args.coordinator.now pair machine
      (option_map which_of c.args.preference) stands
      (c.in-Err.ensures.allowed pair machine stands device))
      (is_start_device c.in-Err.error)
      (c.in-Err.ensures.step pair machine stands)
      (λ other. (c.in-Err.ensures.refused pair machine stands other).1) (λ side. refl)
      (λ call side is. ap (frames_to side) is),
  subst (Refuses c.args.coordinator.now c.start.new.self pair machine)
      (sym c.refusal.ensures)
      (start_refused c.args.coordinator.now c.start.new.self pair machine c.in-Err.error
      c.in-Err.ensures.failures
      (λ other. (c.in-Err.ensures.refused pair machine stands other).0)),
)

pub returns-in-Err-JournalFull : goal.returns-in-Err-JournalFull
returns-in-Err-JournalFull g c = λ pair machine stands.
    let is = c.in-Err-JournalFull.field-0-is in
    let told = rw is at c.in-Err-JournalFull.ensures.refused in
    let same = rw is at c.in-Err-JournalFull.ensures.failures in
    let full = told pair machine stands (λ device. cc) in
    restarted c.start_after.result
    (λ sends. Starting (option_map which_of c.args.preference)
    c.start_after.new.coordinator pair machine (messages_of sends.items))
    (Calls c.start_after.new.coordinator pair machine []) c.args.coordinator.now
    c.start.new.self c.start_after.new.coordinator pair machine same
    (c.start_after.ensures pair machine full.1 full.0)
