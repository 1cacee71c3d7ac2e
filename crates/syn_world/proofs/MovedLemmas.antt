-- A side after a call that moved its machine, as its replica says it: it goes on, or it is down.
use Rattle.std.proofs.Common.{◌≡◌, ◌≢◌, ◌∙◌, ◌≤◌, ℕ, Bool, true, false, [], Option, Some}
use Rattle.std.proofs.Common.{arith, ap, refl, subst, sym}
use Rattle.std.specs.Prelude.{length}
use Rattle.syn_agent.specs.Agents.{staging_of}
use Rattle.syn_agent.specs.Machines.{IsOf}
use Rattle.syn_agent.specs.declared.agent.Agent.{Agent}
use Rattle.syn_disk.specs.Arms.{is_stopped}
use Rattle.syn_disk.specs.declared.disk.Disk.{Ghosts}
use Rattle.syn_machine.specs.Machine.{Status, Up, Halted, Down, unarmed}
use Rattle.syn_machine.specs.SideMachine.{SideMachine, staging_after, with_journal}
use Rattle.syn_journal.specs.Calls.{CountsNoMore}
use Rattle.syn_journal.specs.Endings.{CountsFailures, Grows, is_device}
use Rattle.syn_model.specs.Event.{Event}
use Rattle.syn_model.specs.Path.{Bytes}
use Rattle.syn_model.specs.Refusal.{Refusal}
use Rattle.syn_model.specs.Spelling.{event_spelling}
use Rattle.syn_replica.specs.Machines.{IsDown, IsMachine, StandsAs}
use Rattle.syn_replica.specs.Replica.{disk_of}
use Rattle.syn_replica.specs.declared.replica.Replica.{Replica}
use Rattle.syn_world.specs.Outcomes.{Acknowledges, refused_in}
use Rattle.syn_world.specs.SideSteps.{Journal, SideStep}
use Rattle.syn_world.specs.Sides.{CallIsStep, HasCounted, RunsAs, Settles, Stops}
use Rattle.syn_world.specs.declared.outcome.SideOutcome.{SideOutcome}
use Rattle.syn_world.specs.declared.side.SideCall.{SideCall}
use Rattle.syn_world.proofs.SideLemmas.{failed_by, none_not_some, not_down, side_of}

-- a disk does not forget that a call failed
grows : (more : Bool) (before now : ℕ) → Grows more before now → before ≤ now
grows true before now more = omega (arith, more)
grows false before now same = omega (arith, same)

pub counts_on : (refusal : Refusal) (before now : ℕ) → CountsFailures (Some refusal) before now →
    before ≤ now
counts_on refusal before now counts = grows (is_device refusal) before now counts

module _ {D : Type 0} {disk : Ghosts D} (pair : ℕ) (old new : Replica D disk) (agent : Agent)
    (machine : SideMachine) (runs : RunsAs pair (side_of old agent) machine) where
  pub other : machine.journal.status ≢ Down
  other = not_down pair (side_of old agent) machine runs

  -- its journal went on so, and what is staged stays
  pub keeps_on : (next : Journal) → IsMachine new pair next →
      IsOf pair new agent (with_journal machine next)
  keeps_on next now = record { keeps = now; staging = by next.status now.stands }
    where
      by : (status : Status) → StandsAs status new next.value →
          staging_after status machine.staging ≡ staging_of agent
      by Up stands = runs.is.staging
      by Halted stands = runs.is.staging
      by Down none = absurd none

  -- a machine that was up is writing nothing else
  pub nothing_tried : machine.journal.status ≡ Up → (tried : Option Bytes) (told : Event) →
      machine.journal.writing ≡ Some told → tried ≡ Some (event_spelling told)
  nothing_tried up tried told writing =
      absurd (none_not_some told (sym (runs.idle up) ∙ writing))

  module _ (call : SideCall D disk) (position : ℕ) (Step : SideStep) where
    -- it goes on, and acknowledges nothing
    pub goes_so : (outcome : SideOutcome) → Settles (side_of new agent) position outcome call →
        (next : SideMachine) → RunsAs pair (side_of new agent) next →
        Step next [] (refused_in outcome) → Acknowledges outcome [] →
        CountsNoMore (failed_by old) (failed_by new) machine.journal next.journal →
        CallIsStep pair machine (failed_by old) Step call
    goes_so outcome settles next now step acknowledges counts =
        let settling = settles.goes_on now.is.keeps.runs in
        record {
          next = next;
          events = [];
          step = subst (λ o. Step next [] (refused_in o)) (sym settling.0) step;
          acknowledges = subst (λ o. Acknowledges o []) (sym settling.0) acknowledges;
          is = settling.1 pair next now;
          counts = omega (arith, settles.counted, counts);
        }

    -- it is down, and nobody hears of the call
    pub stops_so : (tried : Option Bytes) → (is_stopped (disk.arms (disk_of new)) ≡ true →
        Stops (side_of new agent) position tried call) → HasCounted (side_of new agent) call →
        position ≡ length machine.journal.value → (next : Journal) → IsDown new pair next →
        next.arms ≡ unarmed → next.value ≡ machine.journal.value →
        ((told : Event) → next.writing ≡ Some told → tried ≡ Some (event_spelling told)) →
        Step (with_journal machine next) [] [] →
        CountsNoMore (failed_by old) (failed_by new) machine.journal next →
        CallIsStep pair machine (failed_by old) Step call
    stops_so tried stops counted position_now next now unarmed_is value_is tries step counts =
        let settling = stops now.stopped in
        record {
          next = with_journal machine next;
          events = [];
          step = subst (λ o. Step (with_journal machine next) [] (refused_in o)) (sym settling.0)
              step;
          acknowledges = subst (λ o. Acknowledges o []) (sym settling.0) refl;
          is = settling.1 pair (with_journal machine next) (record {
            down = now.down;
            unarmed_is = unarmed_is;
            unstaged = ap (λ s. staging_after s machine.staging) now.down;
            position_is = position_now ∙ ap length (sym value_is);
            tries = tries;
            leaves = now.left;
          });
          counts = omega (arith, counted, counts);
        }
