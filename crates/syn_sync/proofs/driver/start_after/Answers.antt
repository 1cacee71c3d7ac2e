use Rattle.std.proofs.Common.{◌∙◌, [], ap, refl, subst, sym, option_map}
use Rattle.syn_archive.specs.declared.error.ArchiveError.TheVariants as archive
use Rattle.syn_coordinator.proofs.DueLemmas.{device_or_other}
use Rattle.syn_machine.specs.Acts as acts
use Rattle.syn_machine.specs.Coordinator.{CoordinatorStarts, coordinator_kind}
use Rattle.syn_machine.specs.MachineSteps.{Checkpoint, Checkpoints}
use Rattle.syn_session.specs.Sendings.{messages_of}
use Rattle.syn_coordinator.specs.declared.error.StartError.TheVariants as session
use Rattle.syn_sync.proofs.RunLemmas.{calls_one, calls_refused, calls_twice, stands_of}
use Rattle.syn_sync.proofs.RunLemmas.{checkpoint_act, start_act, starts_after}
use Rattle.syn_sync.proofs.StartLemmas.{after_refused, checkpoint_refused, is_start_device}
use Rattle.syn_sync.proofs.driver.start_after.Goals as goal
use Rattle.syn_sync.specs.Refusals.{Refuses, stopped}
use Rattle.syn_sync.specs.Runs.{frames_to}
use Rattle.syn_path.specs.Sides.{which_of}

pub returns-in-Err : goal.returns-in-Err
returns-in-Err g c = λ pair machine stands full. (
  calls_refused c.args.coordinator.now c.checkpoint.new.self pair machine
      (acts.Calling Checkpoint) (Checkpoints (coordinator_kind pair) machine) archive.Device
      c.in-Err.error
      (λ device. checkpoint_act c.args.coordinator.now pair machine stands
      (c.in-Err.ensures.allowed pair machine stands device))
      (device_or_other c.in-Err.error)
      (c.in-Err.ensures.step pair machine stands)
      (λ other. (c.in-Err.ensures.refused pair machine stands other).1) (λ side. refl)
      (λ call side is. ap (frames_to side) is),
  subst (Refuses c.args.coordinator.now c.checkpoint.new.self pair machine)
      (sym c.refusal.ensures)
      (checkpoint_refused c.args.coordinator.now c.checkpoint.new.self pair machine
      c.in-Err.error full c.in-Err.ensures.failures
      (λ other. (c.in-Err.ensures.refused pair machine stands other).0)),
)

pub returns-then-is_cut : goal.returns-then-is_cut
returns-then-is_cut g c = λ pair machine stands full.
    let made = calls_one c.args.coordinator.now c.checkpoint.new.self pair machine
    (acts.Calling Checkpoint) (Checkpoints (coordinator_kind pair) machine)
    (checkpoint_act c.args.coordinator.now pair machine stands
    (c.in_default.ensures.allowed pair machine stands)) [] []
    (c.in_default.ensures.step pair machine stands) (λ side. refl)
    (λ call side is. ap (frames_to side) is) in
    (made.0, stopped (sym c.is_cut.ensures ∙ c.if-is_cut.true))

pub returns-in-Ok : goal.returns-in-Ok
returns-in-Ok g c = λ pair machine stands full.
    let calm = sym c.is_cut.ensures ∙ c.if-is_cut.false in
    let made = calls_one c.args.coordinator.now c.checkpoint.new.self pair machine
    (acts.Calling Checkpoint) (Checkpoints (coordinator_kind pair) machine)
    (checkpoint_act c.args.coordinator.now pair machine stands
    (c.in_default.ensures.allowed pair machine stands)) [] []
    (c.in_default.ensures.step pair machine stands) (λ side. refl)
    (λ call side is. ap (frames_to side) is) in
    let now = (made.0).reached in
    let here = stands_of c.checkpoint.new.self pair now (made.0).ends calm in
    starts_after (option_map which_of c.args.preference) c.args.coordinator.now
    c.checkpoint.new.self c.start.new.self pair machine
    (messages_of c.in-Ok.sends.items) made.0 made.1 made.2 made.3 calm here
    (c.in-Ok.ensures.allowed pair now here) _ (c.in-Ok.ensures.step pair now here)

pub returns-in-Err-start : goal.returns-in-Err-start
returns-in-Err-start g c = λ pair machine stands full.
    let calm = sym c.is_cut.ensures ∙ c.if-is_cut.false in
    let made = calls_one c.args.coordinator.now c.checkpoint.new.self pair machine
    (acts.Calling Checkpoint) (Checkpoints (coordinator_kind pair) machine)
    (checkpoint_act c.args.coordinator.now pair machine stands
    (c.in_default.ensures.allowed pair machine stands)) [] []
    (c.in_default.ensures.step pair machine stands) (λ side. refl)
    (λ call side is. ap (frames_to side) is) in
    let now = (made.0).reached in
    let here = stands_of c.checkpoint.new.self pair now (made.0).ends calm in (
      calls_twice c.checkpoint.new.self c.start.new.self pair machine [] [] made.0 calm
          (calls_refused c.checkpoint.new.self c.start.new.self pair now
          (acts.Starting (option_map which_of c.args.preference))
          (CoordinatorStarts pair (option_map which_of c.args.preference) now) session.Device
          c.in-Err-start.error
          (λ device. start_act c.checkpoint.new.self pair now
          (option_map which_of c.args.preference) here
          (c.in-Err-start.ensures.allowed pair now here device))
          (is_start_device c.in-Err-start.error)
          (c.in-Err-start.ensures.step pair now here)
          (λ other. (c.in-Err-start.ensures.refused pair now here other).1) (λ side. refl)
          (λ call side is. ap (frames_to side) is)),
      subst (Refuses c.args.coordinator.now c.start.new.self pair machine)
          (sym c.refusal-in-Err-start.ensures)
          (after_refused c.args.coordinator.now c.checkpoint.new.self c.start.new.self pair
          machine now made.1 c.in-Err-start.error full made.4 c.in_default.ensures.failures
          c.in-Err-start.ensures.failures
          (λ other. (c.in-Err-start.ensures.refused pair now here other).0)),
    )
