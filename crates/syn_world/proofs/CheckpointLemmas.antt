-- A checkpoint of a side is a step of its machine, as its replica says it.
use Rattle.std.proofs.Common.{◌≡◌, ◌≢◌, ◌∙◌, ◌+◌, ◌-◌, ◌<◌, ℕ, true, false, [], ◌∷◌, ◌++◌, Some}
use Rattle.std.proofs.Common.{None, arith, refl, sym, subst, inl, inr}
use Rattle.std.proofs.lemmas.Bool.Decides.{nat_tests}
use Rattle.std.specs.Prelude.{◌^◌, nat_le, length}
use Rattle.syn_agent.specs.declared.agent.Agent.{Agent}
use Rattle.syn_disk.specs.declared.disk.Disk.{Ghosts}
use Rattle.syn_machine.specs.Machine.{Halted, Down, Compacts, compacted, not_compacted, unarmed}
use Rattle.syn_machine.specs.Machine.{with_image}
use Rattle.syn_machine.specs.MachineSteps.{Checkpoint, Does, causes_at, checkpoints}
use Rattle.syn_machine.specs.MachineSteps.{full_generation, is_done, makes, refused_by, refuses}
use Rattle.syn_machine.specs.SideMachine.{SideMachine, side_kind, side_layout, with_journal}
use Rattle.syn_journal.specs.Endings.{CountsFailures}
use Rattle.syn_journal.specs.Machines.{compacting}
use Rattle.syn_journal.proofs.Spent.{none_counted}
use Rattle.syn_model.specs.Limits.{greatest}
use Rattle.syn_model.specs.Refusal.{Refusal, first_cause}
use Rattle.syn_model.specs.Refusal as why
use Rattle.syn_refusal.specs.Refusals.{cause_of}
use Rattle.syn_refusal.specs.declared.refusal.Refusal.{Refusal as Code}
use Rattle.syn_replica.specs.Machines.{WritesImage, image_failed, image_refused, image_stopped}
use Rattle.syn_replica.specs.Machines.{image_written, stopped_after_image}
use Rattle.syn_replica.specs.Replica.{tried_shown}
use Rattle.syn_replica.specs.declared.replica.Replica.{Replica}
use Rattle.syn_world.specs.Outcomes.{Acknowledges, refused_in}
use Rattle.syn_world.specs.SideSteps.{Journal, SideStep}
use Rattle.syn_world.specs.Sides.{CallIsStep, IsHost, IsRefused, RunsAs, Settles}
use Rattle.syn_world.specs.declared.outcome.SideOutcome.{SideOutcome}
use Rattle.syn_world.specs.declared.outcome.SideOutcome.TheVariants.{Nothing}
use Rattle.syn_world.specs.declared.side.SideCall.{SideCall}
use Rattle.syn_world.specs.declared.side.UpSide.{UpSide}
use Rattle.syn_world.proofs.MovedLemmas.{goes_so, keeps_on, nothing_tried, other, stops_so}
use Rattle.syn_world.proofs.SideLemmas.{counts_still, failed_by, halted_not_up, not_down, side_of}

-- a checkpoint of the machine
abbrev Checkpoints : ℕ → SideMachine → SideStep
Checkpoints pair machine = Does (side_kind pair) machine Checkpoint

pub is_less : (n : ℕ) → n + 1 < 2 ^ 64 → nat_le greatest n ≡ false
is_less n h = grind (arith, nat_tests)

pub is_greatest : (n : ℕ) → n ≡ 2 ^ 64 - 1 → nat_le greatest n ≡ true
is_greatest n e = grind (arith, nat_tests)

module _ {D : Type 0} {disk : Ghosts D} (pair : ℕ) (old new : Replica D disk) (agent : Agent)
    (machine : SideMachine) (runs : RunsAs pair (side_of old agent) machine)
    (call : SideCall D disk) (position : ℕ) (position_now : position ≡ length machine.journal.value)
    (none : first_cause (causes_at machine.journal.status
    (full_generation machine.journal.generation)) ≡ None) where
  step_of : (next : Journal) → Compacts (side_layout pair) machine.journal next →
      Checkpoints pair machine (with_journal machine next) [] (refused_by next.status)
  step_of next did =
      is_done _ _ _ (other pair old new agent machine runs)
      (makes (with_journal machine next) [] none (checkpoints next did))

  -- the image is written
  pub compact_ok : Settles (side_of new agent) position Nothing call →
      failed_by new ≡ failed_by old → WritesImage new pair machine.journal None →
      CallIsStep pair machine (failed_by old) (Checkpoints pair machine) call
  compact_ok settles same (image_written arms up meets now) =
      let journal = with_image (side_layout pair) machine.journal arms in
      let next = with_journal machine journal in
      goes_so pair old new agent machine runs call position (Checkpoints pair machine) Nothing
      settles next (record {
        is = keeps_on pair old new agent machine runs journal now;
        idle = λ _. runs.idle up;
        tries = nothing_tried pair old new agent machine runs up (tried_shown new);
      })
      (subst (λ s. Checkpoints pair machine next [] (refused_by s)) up
      (step_of journal (compacted arms meets))) refl (omega (arith, same))
  compact_ok settles same (stopped_after_image up meets now) =
      let next = compacting machine.journal Down unarmed 0 in
      stops_so pair old new agent machine runs call position (Checkpoints pair machine)
      (tried_shown new) settles.stops settles.counted position_now next now refl refl
      (nothing_tried pair old new agent machine runs up (tried_shown new))
      (step_of next (not_compacted Down unarmed 0 (inr refl) meets)) (omega (arith, same))

  -- it is not
  pub compact_not : (outcome : SideOutcome) → Settles (side_of new agent) position outcome call →
      (reason : Refusal) → refused_in outcome ≡ reason ∷ [] → Acknowledges outcome [] →
      CountsFailures (Some reason) (failed_by old) (failed_by new) →
      tried_shown new ≡ tried_shown old → (reason ≢ why.Device → first_cause
      (causes_at machine.journal.status (full_generation machine.journal.generation)
      ++ (true, why.Memory) ∷ []) ≡ Some reason) →
      WritesImage new pair machine.journal (Some reason) →
      CallIsStep pair machine (failed_by old) (Checkpoints pair machine) call
  compact_not outcome settles reason is_refused is_not counts same_tried some
      (image_failed arms up meets now) =
      let journal = compacting machine.journal Halted arms 1 in
      let next = with_journal machine journal in
      goes_so pair old new agent machine runs call position (Checkpoints pair machine) outcome
      settles next (record {
        is = keeps_on pair old new agent machine runs journal now;
        idle = λ is. absurd (halted_not_up is);
        tries = λ told writing. same_tried ∙ runs.tries told writing;
      })
      (subst (λ r. Checkpoints pair machine next [] r) (sym is_refused)
      (step_of journal (not_compacted Halted arms 1 (inl refl) meets))) is_not
      (let grew : failed_by old < failed_by new = counts in omega (arith, grew))
  compact_not outcome settles reason is_refused is_not counts same_tried some
      (image_stopped up meets now) =
      let next = compacting machine.journal Down unarmed 0 in
      stops_so pair old new agent machine runs call position (Checkpoints pair machine)
      (tried_shown new) settles.stops settles.counted position_now next now refl refl
      (λ told writing. same_tried ∙ runs.tries told writing)
      (step_of next (not_compacted Down unarmed 0 (inr refl) meets))
      (let grew : failed_by old < failed_by new = counts in omega (arith, grew))
  compact_not outcome settles reason is_refused is_not counts same_tried some
      (image_refused same differs now) =
      let still = none_counted reason (failed_by old) (failed_by new) differs counts in
      goes_so pair old new agent machine runs call position (Checkpoints pair machine) outcome
      settles machine (record {
        is = record { keeps = now; staging = runs.is.staging };
        idle = runs.idle;
        tries = λ told writing. same_tried ∙ runs.tries told writing;
      })
      (subst (λ r. Checkpoints pair machine machine [] r) (sym is_refused)
      (is_done _ _ _ (other pair old new agent machine runs) (refuses reason (some differs))))
      is_not (omega (arith, still))

-- it is refused before the replica is asked
pub checkpoint_halted : {D : Type 0} {disk : Ghosts D} (pair : ℕ) (side : UpSide D disk)
    (machine : SideMachine) → RunsAs pair side machine → (refusal : Code)
    (call : SideCall D disk) → IsRefused side refusal call
    → first_cause (causes_at machine.journal.status (full_generation machine.journal.generation)
    ++ (true, why.Memory) ∷ []) ≡ Some (cause_of refusal)
    → CallIsStep pair machine (failed_by side.replica) (Checkpoints pair machine) call
checkpoint_halted pair side machine runs refusal call refused some = record {
  next = machine;
  events = [];
  step = subst (λ o. Checkpoints pair machine machine [] (refused_in o))
      (sym refused.outcome_is)
      (is_done _ _ _ (not_down pair side machine runs) (refuses (cause_of refusal) some));
  acknowledges = subst (λ o. Acknowledges o []) (sym refused.outcome_is) refl;
  is = subst (λ s. IsHost pair s machine) (sym refused.side_is) runs;
  counts = counts_still side machine call refused.side_is;
}
