-- Another opening of a side's own disk is a step of its machine, as its replica says it.
use Rattle.std.proofs.Common.{◌≡◌, ◌∙◌, ◌-◌, ◌<◌, ℕ, suc, zero, [], ◌∷◌, Option, Some}
use Rattle.std.proofs.Common.{None, inl, inr, refl, sym, ap₂, subst, arith}
use Rattle.std.specs.Prelude.{length}
use Rattle.syn_agent.specs.declared.agent.Agent.{Agent}
use Rattle.syn_disk.specs.declared.disk.Disk.{Ghosts}
use Rattle.syn_machine.specs.Machine.{Halted, Down, IsBefore, after_calls, after_device, all_made}
use Rattle.syn_machine.specs.Machine.{unarmed}
use Rattle.syn_machine.specs.MachineSteps.{Does, Reopen, is_done, no_memory_to_reopen}
use Rattle.syn_machine.specs.MachineSteps.{reopen_fails, reopen_is_cut, reopens, with_device}
use Rattle.syn_machine.specs.SideMachine.{SideMachine, side_kind, side_layout, with_journal}
use Rattle.syn_journal.specs.Endings.{CountsFailures}
use Rattle.syn_model.specs.History.{IsAllowed}
use Rattle.syn_model.specs.Path.{Bytes}
use Rattle.syn_model.specs.Refusal.{Refusal}
use Rattle.syn_model.specs.Refusal as why
use Rattle.syn_refusal.specs.Refusals.{cause_of}
use Rattle.syn_refusal.specs.declared.refusal.Refusal.{Refusal as Code}
use Rattle.syn_replica.specs.Machines.{ReadsDisk, failed_reading, read, stopped_reading, unread}
use Rattle.syn_replica.specs.Replica.{position_shown, tried_shown}
use Rattle.syn_replica.specs.declared.replica.Replica.{Replica}
use Rattle.syn_world.specs.Outcomes.{Acknowledges, refused_in}
use Rattle.syn_world.specs.SideSteps.{SideStep}
use Rattle.syn_world.specs.Sides.{CallIsStep, IsHost, IsRefused, RunsAs, Settles, SettlesOpened}
use Rattle.syn_world.specs.Sides.{TriesWriting}
use Rattle.syn_world.specs.declared.outcome.SideOutcome.{SideOutcome}
use Rattle.syn_world.specs.declared.side.SideCall.{SideCall}
use Rattle.syn_world.proofs.ArmLemmas.{still_runs}
use Rattle.syn_world.proofs.MovedLemmas.{counts_on, goes_so, keeps_on, other, stops_so}
use Rattle.syn_world.proofs.OpenLemmas.{gained_so, opens_counts}
use Rattle.syn_world.proofs.SideLemmas.{counts_still, failed_by, halted_not_up, none_not_some}
use Rattle.syn_world.proofs.SideLemmas.{not_down, position_is, side_of}

-- another opening of the machine
abbrev ReopensSide : ℕ → SideMachine → SideStep
ReopensSide pair machine = Does (side_kind pair) machine Reopen

module _ {D : Type 0} {disk : Ghosts D} (pair : ℕ) (old new : Replica D disk) (agent : Agent)
    (machine : SideMachine) (runs : RunsAs pair (side_of old agent) machine)
    (call : SideCall D disk) (position : ℕ)
    (position_now : position ≡ length machine.journal.value) where
  -- it is opened
  pub reopen_ok : (tried : Option Bytes) → TriesWriting machine tried →
      SettlesOpened (side_of new agent) position tried call → failed_by new ≡ failed_by old →
      ReadsDisk new pair machine.journal None →
      CallIsStep pair machine (failed_by old) (ReopensSide pair machine) call
  reopen_ok tried tries settles same (read calls journal events least opens opened now) =
      let settling = settles.goes_on now.runs in
      let next = with_journal machine journal in
      let on : RunsAs pair (side_of new agent) next = record {
        is = keeps_on pair old new agent machine runs journal now;
        idle = λ _. opened.idle;
        tries = λ told writing. absurd (none_not_some told (sym opened.idle ∙ writing));
      } in
      record {
        next = next;
        events = events;
        step = subst (λ r. ReopensSide pair machine next events r) (sym settling.0.refuses)
            (is_done _ _ _ (other pair old new agent machine runs)
            (reopens calls journal events least opens));
        acknowledges = gained_so pair machine.journal calls journal events call.outcome position
            (position_shown new) tried settling.0 tries position_now
            (position_is pair (side_of new agent) next on) opens;
        is = settling.1 pair next on;
        counts =
            omega (
              arith,
              settles.counted,
              same,
              opens_counts (side_layout pair) IsAllowed machine.journal calls journal events opens,
            );
      }
  reopen_ok tried tries settles same (stopped_reading refusal calls meets now) =
      stops_so pair old new agent machine runs call position (ReopensSide pair machine) tried
      settles.stops settles.counted position_now (after_device machine.journal Down unarmed 0) now
      refl refl tries (is_done _ _ _ (other pair old new agent machine runs)
      (reopen_is_cut calls unarmed 0 meets)) (omega (arith, same))

  -- it is not
  pub reopen_not : (outcome : SideOutcome) → Settles (side_of new agent) position outcome call →
      (reason : Refusal) → refused_in outcome ≡ reason ∷ [] → Acknowledges outcome [] →
      CountsFailures (Some reason) (failed_by old) (failed_by new) →
      tried_shown new ≡ tried_shown old → ReadsDisk new pair machine.journal (Some reason) →
      CallIsStep pair machine (failed_by old) (ReopensSide pair machine) call
  reopen_not outcome settles reason is_refused is_not counts same_tried
      (stopped_reading refusal calls meets now) =
      let more = counts_on reason (failed_by old) (failed_by new) counts in
      stops_so pair old new agent machine runs call position (ReopensSide pair machine)
      (tried_shown new) settles.stops settles.counted position_now
      (after_device machine.journal Down unarmed 0) now refl refl
      (λ told writing. same_tried ∙ runs.tries told writing)
      (is_done _ _ _ (other pair old new agent machine runs) (reopen_is_cut calls unarmed 0 meets))
      (omega (arith, more))
  reopen_not outcome settles reason is_refused is_not counts same_tried
      (failed_reading calls arms meets now) =
      let journal = after_device machine.journal Halted arms 1 in
      let next = with_journal machine journal in
      goes_so pair old new agent machine runs call position (ReopensSide pair machine) outcome
      settles next (record {
        is = keeps_on pair old new agent machine runs journal now;
        idle = λ is. absurd (halted_not_up is);
        tries = λ told writing. same_tried ∙ runs.tries told writing;
      })
      (subst (λ r. ReopensSide pair machine next [] r) (sym is_refused)
      (is_done _ _ _ (other pair old new agent machine runs) (reopen_fails calls arms 1 meets)))
      is_not (let grew : failed_by old < failed_by new = counts in omega (arith, grew))
  reopen_not outcome settles reason is_refused is_not counts same_tried
      (unread calls arms least meets now) =
      let journal = after_device machine.journal machine.journal.status arms 0 in
      let next = with_journal machine journal in
      goes_so pair old new agent machine runs call position (ReopensSide pair machine) outcome
      settles next (record {
        is = keeps_on pair old new agent machine runs journal now;
        idle = runs.idle;
        tries = λ told writing. same_tried ∙ runs.tries told writing;
      })
      (subst (λ r. ReopensSide pair machine next [] r) (sym is_refused)
      (is_done _ _ _ (other pair old new agent machine runs)
      (no_memory_to_reopen calls arms 0 meets))) is_not
      (let still : failed_by new ≡ failed_by old = counts in omega (arith, still))

before_none : (n : ℕ) → IsBefore 0 n
before_none zero = inl refl
before_none (suc n) = inr (omega arith)

none_less : (n : ℕ) → n - 0 ≡ n
none_less n = omega arith

-- memory is refused before any device call
pub reopen_early : {D : Type 0} {disk : Ghosts D} (pair : ℕ) (replica : Replica D disk)
    (agent : Agent) (machine : SideMachine) → RunsAs pair (side_of replica agent) machine
    → (refusal : Code) (call : SideCall D disk) → IsRefused (side_of replica agent) refusal call
    → cause_of refusal ≡ why.Memory → CallIsStep pair machine (failed_by replica)
    (ReopensSide pair machine) call
reopen_early pair replica agent machine runs refusal call refused is_memory =
    let arms = after_calls 0 machine.journal.arms in
    let same = ap₂ (λ f s. record { fail = f; stop = s }) (none_less machine.journal.arms.fail)
    (none_less machine.journal.arms.stop) in
    let next = with_device (side_kind pair) machine machine.journal.status arms 0 in
    record {
      next = next;
      events = [];
      step = subst (λ o. ReopensSide pair machine next [] (refused_in o))
          (sym refused.outcome_is)
          (subst (λ r. ReopensSide pair machine next [] (r ∷ [])) (sym is_memory)
          (is_done _ _ _ (not_down pair (side_of replica agent) machine runs)
          (no_memory_to_reopen 0 arms 0 (all_made (before_none machine.journal.arms.fail)
          (before_none machine.journal.arms.stop)))));
      acknowledges = subst (λ o. Acknowledges o []) (sym refused.outcome_is) refl;
      is = subst (λ s. IsHost pair s next) (sym refused.side_is)
          (still_runs pair replica replica agent machine arms 0 runs
          (record { pair = refl; standing = refl }) runs.is.keeps.stands runs.is.keeps.room
          runs.is.keeps.generation (same ∙ runs.is.keeps.armed) runs.is.keeps.runs refl
          (λ _ may. may));
      counts =
          omega (arith, counts_still (side_of replica agent) machine call refused.side_is);
    }
