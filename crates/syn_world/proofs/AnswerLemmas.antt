-- What a side's machine is after a request.
use Rattle.std.proofs.Common.{◌≡◌, ◌≢◌, ◌⊎◌, ◌∙◌, ◌+◌, ℕ, true, false, List, [], ◌∷◌, ◌++◌, Option}
use Rattle.std.proofs.Common.{Some, None, inl, inr, refl, sym, ap, subst, arith, length-append}
use Rattle.std.proofs.lemmas.Bool.{false≢true}
use Rattle.std.specs.Prelude.{length}
use Rattle.syn_agent.specs.Answers.{IsUnchanged}
use Rattle.syn_agent.specs.Machines.{IsOf, Takes, goes_on, heard, stops}
use Rattle.syn_agent.specs.declared.agent.Agent.{Agent}
use Rattle.syn_disk.specs.Arms.{is_stopped}
use Rattle.syn_disk.specs.declared.disk.Disk.{Ghosts}
use Rattle.syn_machine.specs.Machine.{Status, Up, Halted, Down, Arms, Meets, unarmed, Writes}
use Rattle.syn_machine.specs.Machine.{one_stops, idle, written, unwritten}
use Rattle.syn_machine.specs.Side.{Reply, Request}
use Rattle.syn_machine.specs.SideMachine.{SideMachine, SideTakes, answers, adds, side_layout}
use Rattle.syn_machine.specs.SideMachine.{staging_after, with_journal}
use Rattle.syn_world.specs.Outcomes.{Acknowledges, refused_in}
use Rattle.syn_world.specs.SideSteps.{Answers, Journal, takes}
use Rattle.syn_world.specs.Sides.{AnswerIsStep, RunsAs, Settles, SettlesAdded}
use Rattle.syn_world.specs.declared.outcome.SideOutcome.TheVariants.{Nothing}
use Rattle.syn_world.specs.declared.side.SideCall.{SideCall}
use Rattle.syn_message.specs.Replies.{IsLawfulReply, reply_of}
use Rattle.syn_message.specs.declared.reply.Reply.{Reply as Said}
use Rattle.syn_model.specs.Event.{Event}
use Rattle.syn_model.specs.Refusal.{Refusal}
use Rattle.syn_model.specs.Spelling.{event_spelling}
use Rattle.syn_replica.specs.Replica.{IsHalted, disk_of, position_shown, tried_shown}
use Rattle.syn_replica.specs.declared.replica.Replica.{Replica}
use Rattle.syn_world.proofs.SideLemmas.{failed_by, side_of}
use Rattle.syn_world.proofs.SideLemmas.{halted_not_down, halted_not_up, none_not_some, not_down}
use Rattle.syn_world.proofs.SideLemmas.{position_is, state, up_not_down}

-- a machine that goes down forgets what was armed
pub meets_down : (arms now : Arms) (calls failed : ℕ) (status : Status)
    → Meets arms calls status now failed → status ≡ Down → now ≡ unarmed
meets_down arms now calls failed Up meets is = absurd (up_not_down is)
meets_down arms now calls failed Halted meets is = absurd (halted_not_down is)
meets_down arms _ calls _ Down (one_stops made less before stop) is = refl

-- what becomes of a machine that writes an event or takes a request
pub record Becomes (machine next : SideMachine) (events : List Event) : Type 0 where
  pub down : next.journal.status ≡ Down → (events ≡ []) × (next.journal.arms ≡ unarmed)
      × (next.staging ≡ None) × (next.journal.value ≡ machine.journal.value)
  pub either : next.journal.status ≢ Down →
      ((events ≡ []) × (next.journal.value ≡ machine.journal.value))
      ⊎ ((event : Event) × (events ≡ event ∷ [])
      × (next.journal.value ≡ machine.journal.value ++ event ∷ [])
      × (next.journal.status ≡ Up))
  pub idles : next.journal.status ≡ Up → machine.journal.status ≡ Up →
      machine.journal.writing ≡ None → next.journal.writing ≡ None
  pub halts : machine.journal.status ≢ Up → next.journal.status ≢ Up

staged_down : (status : Status) (machine : SideMachine) → status ≡ Down
    → staging_after status machine.staging ≡ None
staged_down status machine is = ap (λ s. staging_after s machine.staging) is

module _ (pair : ℕ) (machine : SideMachine) (other : machine.journal.status ≢ Down) where
  unwritten_becomes : (event : Event) (status : Status) (arms : Arms) (failed : ℕ)
      → (status ≡ Halted) ⊎ (status ≡ Down) → Meets machine.journal.arms 4 status arms failed
      → machine.journal.status ≡ Up
      → Becomes machine (with_journal machine (record machine.journal {
        writing = Some event;
        status = status;
        arms = arms;
        failures = machine.journal.failures + failed;
      })) []
  unwritten_becomes event status arms failed either meets up = record {
    down = λ down. (
      refl,
      meets_down machine.journal.arms arms 4 failed status meets down,
      staged_down status machine down,
      refl,
    );
    either = λ _. inl (refl, refl);
    idles = λ is _ _. elim either [
      | inl halted ↦ absurd (halted_not_up (sym halted ∙ is))
      | inr down ↦ absurd (up_not_down (sym is ∙ down))
    ];
    halts = λ never. absurd (never up);
  }

  pub writes_become : (event : Event) (journal : Journal) (events : List Event)
      → machine.journal.status ≡ Up
      → Writes (side_layout pair) machine.journal event journal events
      → Becomes machine (with_journal machine journal) events
  writes_become event _ _ up (idle none) = absurd (false≢true none)
  writes_become event _ _ up (written arms is meets) = record {
    down = λ down. absurd (other down);
    either = λ _. inr (event, refl, refl, up);
    idles = λ _ _ none. none;
    halts = λ never. absurd (never up);
  }
  writes_become event _ _ up (unwritten status arms failed is either meets) =
      unwritten_becomes event status arms failed either meets up

  pub takes_become : (session : ℕ) (request : Request) (next : SideMachine)
      (reply : Option Reply) (events : List Event)
      → SideTakes pair machine session request next reply events → Becomes machine next events
  takes_become session request _ _ _ (answers served serves same) = record {
    down = λ down. absurd (other down);
    either = λ _. inl (refl, refl);
    idles = λ _ _ none. none;
    halts = λ never. never;
  }
  takes_become session request _ _ events (adds served event journal events' up serves grows
      writes) = writes_become event journal events up writes

module _ {D : Type 0} {disk : Ghosts D} (pair : ℕ) (old new : Replica D disk)
    (agent after : Agent) (machine : SideMachine) (session : ℕ) (request : Request) (said : Said)
    (runs : RunsAs pair (side_of old agent) machine)
    (unchanged : IsHalted old → IsUnchanged old new) (lawful : IsLawfulReply (reply_of said))
    (takes_so : Takes pair old new after machine session request (reply_of said)) where
  abbrev next : SideMachine
  next = takes_so.next

  becomes : Becomes machine takes_so.next takes_so.events
  becomes = takes_become pair machine (not_down pair (side_of old agent) machine runs) session
      request takes_so.next (heard takes_so.next.journal.status (reply_of said)) takes_so.events
      takes_so.takes

  tries : (told : Event) → takes_so.next.journal.writing ≡ Some told
      → tried_shown new ≡ Some (event_spelling told)
  tries told writing = elim (takes_so.writing told writing)
      as (λ _. tried_shown new ≡ Some (event_spelling told)) [
        | inl was ↦ elim (state pair (side_of old agent) machine runs)
            as (λ _. tried_shown new ≡ Some (event_spelling told)) [
              | inl up ↦ absurd (none_not_some told (sym (runs.idle up.0) ∙ was))
              | inr halted ↦ (unchanged halted.1).tried ∙ runs.tries told was
            ]
        | inr sent ↦ sent
      ]

  -- a request that is taken refuses no user
  unrefused : (reply : Option Reply) {refusals : List Refusal} → refusals ≡ []
      → SideTakes pair machine session request takes_so.next reply takes_so.events
      → Answers pair machine session request reply takes_so.next takes_so.events refusals
  unrefused reply none made = subst
      (Answers pair machine session request reply takes_so.next takes_so.events) (sym none)
      (takes takes_so.next takes_so.events made)

  -- the machine stopped in it
  pub answer_cut : (position : ℕ) → position ≡ length machine.journal.value
      → (call : SideCall D disk) → Settles (side_of new after) position Nothing call
      → is_stopped (disk.arms (disk_of new)) ≡ true
      → AnswerIsStep pair machine (failed_by old) session request
      (record { call = call; reply = None })
  answer_cut position position_now call settles stopped = elim takes_so.leaves
      as (λ _. AnswerIsStep pair machine (failed_by old) session request
      (record { call = call; reply = None })) [
        | goes_on goes ↦ absurd (false≢true (sym goes.keeps.runs ∙ stopped))
        | stops rests ↦
            let down = becomes.down rests.down in
            let settling = settles.stops stopped in (
              record {
                next = takes_so.next;
                events = takes_so.events;
                step = unrefused None (ap refused_in settling.0) (subst (λ s. SideTakes pair machine
                    session request takes_so.next (heard s (reply_of said)) takes_so.events)
                    rests.down takes_so.takes);
                acknowledges = subst (λ o. Acknowledges o takes_so.events) (sym settling.0) down.0;
                is = settling.1 pair takes_so.next (record {
                  down = rests.down;
                  unarmed_is = down.1;
                  unstaged = down.2;
                  position_is = position_now ∙ ap length (sym down.3);
                  tries = tries;
                  leaves = rests.left;
                });
                counts = omega (arith, settles.counted, takes_so.counts);
              },
              tt,
            )
      ]

  -- it goes on
  runs_on : IsOf pair new after takes_so.next → RunsAs pair (side_of new after) takes_so.next
  runs_on goes = record {
    is = goes;
    idle = λ up. elim (state pair (side_of old agent) machine runs)
        as (λ _. takes_so.next.journal.writing ≡ None) [
          | inl was ↦ becomes.idles up was.0 (runs.idle was.0)
          | inr halted ↦ absurd (becomes.halts
              (λ is. halted_not_up (sym halted.0 ∙ is)) up)
        ];
    tries = tries;
  }

  says : (status : Status) → status ≢ Down → heard status (reply_of said) ≡ Some (reply_of said)
  says Up other = refl
  says Halted other = refl
  says Down other = absurd (other refl)

  one_longer : (history : List Event) (event : Event)
      → length (history ++ event ∷ []) ≢ length history
  one_longer history event is = absurd (omega (arith, is, length-append history (event ∷ [])))

  pub answer_goes : (position : ℕ) → position ≡ length machine.journal.value
      → (call : SideCall D disk)
      → (position ≡ position_shown new → Settles (side_of new after) position Nothing call)
      → (position ≢ position_shown new → SettlesAdded (side_of new after) position call)
      → is_stopped (disk.arms (disk_of new)) ≡ false
      → AnswerIsStep pair machine (failed_by old) session request
      (record { call = call; reply = Some said })
  answer_goes position position_now call same added goes = elim takes_so.leaves
      as (λ _. AnswerIsStep pair machine (failed_by old) session request
      (record { call = call; reply = Some said })) [
        | stops rests ↦ absurd (false≢true (sym goes ∙ rests.stopped))
        | goes_on is ↦
            let now = runs_on is in
            let other = not_down pair (side_of new after) takes_so.next now in
            let shown = position_is pair (side_of new after) takes_so.next now in
            let made = subst (λ r. SideTakes pair machine session request takes_so.next r
            takes_so.events) (says takes_so.next.journal.status other) takes_so.takes in
            elim (becomes.either other)
            as (λ _. AnswerIsStep pair machine (failed_by old) session request
            (record { call = call; reply = Some said })) [
              | inl stays ↦
                  let settled = same (position_now
                  ∙ (ap length (sym stays.1) ∙ sym shown)) in
                  let settling = settled.goes_on goes in (
                    record {
                      next = takes_so.next;
                      events = takes_so.events;
                      step = unrefused (Some (reply_of said)) (ap refused_in settling.0) made;
                      acknowledges = subst (λ o. Acknowledges o takes_so.events) (sym settling.0)
                          stays.0;
                      is = settling.1 pair takes_so.next now;
                      counts = omega (arith, settled.counted, takes_so.counts);
                    },
                    lawful,
                  )
              | inr grown ↦
                  let settled = added (λ is. one_longer machine.journal.value grown.0
                  (ap length (sym grown.2) ∙ (sym shown ∙ (sym is ∙ position_now)))) in
                  let settling = settled.goes_on goes grown.0 (takes_so.added grown.0 grown.1) in (
                    record {
                      next = takes_so.next;
                      events = takes_so.events;
                      step = unrefused (Some (reply_of said)) settling.0 made;
                      acknowledges = subst (λ es. Acknowledges call.outcome es) (sym grown.1)
                          settling.1;
                      is = settling.2 pair takes_so.next grown.3 now;
                      counts = omega (arith, settled.counted, takes_so.counts);
                    },
                    lawful,
                  )
            ]
      ]
