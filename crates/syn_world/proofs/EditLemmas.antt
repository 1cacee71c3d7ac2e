-- An edit of a side's user is a step of its machine, as the replica says it.
use Rattle.std.proofs.Common.{◌≡◌, ◌≢◌, ◌∙◌, ◌<◌, ℕ, true, arith, List, [], ◌∷◌, ◌++◌, Option}
use Rattle.std.proofs.Common.{Some, None, refl, sym, ap, subst, inl, inr}
use Rattle.std.specs.Prelude.{length}
use Rattle.syn_agent.specs.declared.agent.Agent.{Agent}
use Rattle.syn_disk.specs.declared.disk.Disk.{Ghosts}
use Rattle.syn_machine.specs.Machine.{Halted, Down, Writes, unarmed, unwritten, with_record}
use Rattle.syn_machine.specs.Machine as model
use Rattle.syn_machine.specs.MachineSteps.{causes_at, is_done, makes, refused_by, refuses}
use Rattle.syn_machine.specs.SideMachine.{SideMachine, UserEdits, causes_of, edits, side_layout}
use Rattle.syn_machine.specs.SideMachine.{with_journal}
use Rattle.syn_journal.specs.Endings.{CountsFailures}
use Rattle.syn_journal.specs.Machines.{writing}
use Rattle.syn_journal.proofs.Spent.{none_counted}
use Rattle.syn_model.specs.Event.{Event, IsLawfulEvent}
use Rattle.syn_model.specs.Refusal.{Refusal, first_cause}
use Rattle.syn_model.specs.Refusal as why
use Rattle.syn_model.specs.Spelling.{event_spelling}
use Rattle.syn_refusal.specs.Refusals.{cause_of}
use Rattle.syn_refusal.specs.declared.refusal.Refusal.{Refusal as Code}
use Rattle.syn_replica.specs.Calls.{Tries}
use Rattle.syn_replica.specs.Machines.{WritesRecord, failed, refused, stopped, stopped_after}
use Rattle.syn_replica.specs.Machines.{written}
use Rattle.syn_replica.specs.Replica.{tried_shown}
use Rattle.syn_replica.specs.declared.replica.Replica.{Replica}
use Rattle.syn_world.specs.Outcomes.{Acknowledges, refused_in}
use Rattle.syn_world.specs.SideSteps.{Journal}
use Rattle.syn_world.specs.Sides.{CallIsStep, IsHost, IsRefused, RunsAs, Settles, SettlesAdded}
use Rattle.syn_world.specs.declared.outcome.SideOutcome.{SideOutcome}
use Rattle.syn_world.specs.declared.side.SideCall.{SideCall}
use Rattle.syn_world.specs.declared.side.UpSide.{UpSide}
use Rattle.syn_world.proofs.MovedLemmas.{goes_so, keeps_on, nothing_tried, other, stops_so}
use Rattle.syn_world.proofs.SideLemmas.{counts_still, failed_by, halted_not_up, not_down, side_of}

module _ {D : Type 0} {disk : Ghosts D} (pair : ℕ) (old new : Replica D disk) (agent : Agent)
    (machine : SideMachine) (event : Event) (runs : RunsAs pair (side_of old agent) machine)
    (lawful : IsLawfulEvent event) (call : SideCall D disk) (position : ℕ)
    (position_now : position ≡ length machine.journal.value) where
  step_of : first_cause (causes_at machine.journal.status (causes_of pair machine event)) ≡ None →
      (next : Journal) (events : List Event) →
      Writes (side_layout pair) machine.journal event next events →
      UserEdits pair machine event (with_journal machine next) events (refused_by next.status)
  step_of none next events did =
      is_done _ _ _ (other pair old new agent machine runs)
      (makes (with_journal machine next) events none (edits next events lawful did))

  tries_it : tried_shown new ≡ Some (event_spelling event) → (told : Event) →
      ◌≡◌ {A = Option Event} (Some event) (Some told) →
      tried_shown new ≡ Some (event_spelling told)
  tries_it tried told same =
      tried ∙ ap (λ e. Some (event_spelling e)) (let k : event ≡ told = cc in k)

  tried_so : Tries old new (Some event) (Some why.Device) →
      tried_shown new ≡ Some (event_spelling event)
  tried_so tries = elim tries as (λ _. tried_shown new ≡ Some (event_spelling event)) [
    | inl sent ↦ sent.1
    | inr not ↦ absurd (not.0 refl)
  ]

  untried : (reason : Refusal) → reason ≢ why.Device → Tries old new (Some event) (Some reason) →
      tried_shown new ≡ tried_shown old
  untried reason differs tries = elim tries as (λ _. tried_shown new ≡ tried_shown old) [
    | inl sent ↦ absurd (differs sent.0)
    | inr not ↦ not.1
  ]

  -- the event is written
  pub edit_ok : SettlesAdded (side_of new agent) position call →
      first_cause (causes_at machine.journal.status (causes_of pair machine event)) ≡ None →
      tried_shown new ≡ Some (event_spelling event) → failed_by new ≡ failed_by old →
      WritesRecord new pair machine.journal event None →
      CallIsStep pair machine (failed_by old) (UserEdits pair machine event) call
  edit_ok settles none tried same (written arms up meets now) =
      let settling = settles.goes_on now.runs event tried in
      let journal = with_record (side_layout pair) machine.journal event arms in
      let next = with_journal machine journal in
      record {
        next = next;
        events = event ∷ [];
        step = subst (λ r. UserEdits pair machine event next (event ∷ []) r) (sym settling.0)
            (subst (λ s. UserEdits pair machine event next (event ∷ []) (refused_by s)) up
            (step_of none journal (event ∷ []) (model.written arms refl meets)));
        acknowledges = settling.1;
        is = settling.2 pair next up (record {
          is = keeps_on pair old new agent machine runs journal now;
          idle = λ _. runs.idle up;
          tries = nothing_tried pair old new agent machine runs up (tried_shown new);
        });
        counts = omega (arith, settles.counted, same);
      }
  edit_ok settles none tried same (stopped_after up meets now) =
      let next = writing machine.journal event Down unarmed 0 in
      stops_so pair old new agent machine runs call position (UserEdits pair machine event)
      (tried_shown new) settles.stops settles.counted position_now next now refl refl
      (tries_it tried) (step_of none next [] (unwritten Down unarmed 0 refl (inr refl) meets))
      (omega (arith, same))

  -- it is not
  pub edit_not : (outcome : SideOutcome) → Settles (side_of new agent) position outcome call →
      (reason : Refusal) → refused_in outcome ≡ reason ∷ [] → Acknowledges outcome [] →
      CountsFailures (Some reason) (failed_by old) (failed_by new) →
      Tries old new (Some event) (Some reason) → (reason ≡ why.Device →
      first_cause (causes_at machine.journal.status (causes_of pair machine event)) ≡ None) →
      (reason ≢ why.Device → first_cause (causes_at machine.journal.status
      (causes_of pair machine event) ++ (true, why.Memory) ∷ []) ≡ Some reason) →
      WritesRecord new pair machine.journal event (Some reason) →
      CallIsStep pair machine (failed_by old) (UserEdits pair machine event) call
  edit_not outcome settles reason is_refused is_not counts tries none some
      (failed arms up meets now) =
      let journal = writing machine.journal event Halted arms 1 in
      let next = with_journal machine journal in
      goes_so pair old new agent machine runs call position (UserEdits pair machine event) outcome
      settles next (record {
        is = keeps_on pair old new agent machine runs journal now;
        idle = λ is. absurd (halted_not_up is);
        tries = tries_it (tried_so tries);
      })
      (subst (λ r. UserEdits pair machine event next [] r) (sym is_refused)
      (step_of (none refl) journal [] (unwritten Halted arms 1 refl (inl refl) meets))) is_not
      (let grew : failed_by old < failed_by new = counts in omega (arith, grew))
  edit_not outcome settles reason is_refused is_not counts tries none some
      (stopped up meets now) =
      let next = writing machine.journal event Down unarmed 0 in
      stops_so pair old new agent machine runs call position (UserEdits pair machine event)
      (tried_shown new) settles.stops settles.counted position_now next now refl refl
      (tries_it (tried_so tries))
      (step_of (none refl) next [] (unwritten Down unarmed 0 refl (inr refl) meets))
      (let grew : failed_by old < failed_by new = counts in omega (arith, grew))
  edit_not outcome settles reason is_refused is_not counts tries none some
      (refused same differs now) =
      let still = none_counted reason (failed_by old) (failed_by new) differs counts in
      goes_so pair old new agent machine runs call position (UserEdits pair machine event) outcome
      settles machine (record {
        is = record { keeps = now; staging = runs.is.staging };
        idle = runs.idle;
        tries = λ told under_way. untried reason differs tries ∙ runs.tries told under_way;
      })
      (subst (λ r. UserEdits pair machine event machine [] r) (sym is_refused)
      (is_done _ _ _ (other pair old new agent machine runs) (refuses reason (some differs))))
      is_not (omega (arith, still))

-- it is refused before the replica is asked
pub edit_halted : {D : Type 0} {disk : Ghosts D} (pair : ℕ) (side : UpSide D disk)
    (machine : SideMachine) → RunsAs pair side machine → (event : Event) (refusal : Code)
    (call : SideCall D disk) → IsRefused side refusal call
    → first_cause (causes_at machine.journal.status (causes_of pair machine event)
    ++ (true, why.Memory) ∷ [])
    ≡ Some (cause_of refusal) → CallIsStep pair machine (failed_by side.replica)
    (UserEdits pair machine event) call
edit_halted pair side machine runs event refusal call was some = record {
  next = machine;
  events = [];
  step = subst (λ o. UserEdits pair machine event machine [] (refused_in o))
      (sym was.outcome_is)
      (is_done _ _ _ (not_down pair side machine runs) (refuses (cause_of refusal) some));
  acknowledges = subst (λ o. Acknowledges o []) (sym was.outcome_is) refl;
  is = subst (λ s. IsHost pair s machine) (sym was.side_is) runs;
  counts = counts_still side machine call was.side_is;
}
