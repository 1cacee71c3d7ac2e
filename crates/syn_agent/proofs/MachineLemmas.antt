-- An answer is a step of the world's side.
use Rattle.std.proofs.Common.{◌≡◌, ◌∙◌, ◌-◌, ℕ, List, [], ◌∷◌, arith, ◌++◌, Option, None}
use Rattle.std.proofs.Common.{Some, ap, inl, inr, refl, subst, sym}
use Rattle.std.specs.Prelude.{nat_le}
use Rattle.syn_agent.specs.Agents.{side_of, staging_of}
use Rattle.syn_agent.specs.Answers.{Answers, keeps, adds, breaks, Adds, BreaksOff, IsUnchanged}
use Rattle.syn_agent.specs.Answers.{room_for}
use Rattle.syn_agent.specs.Machines.{IsLeftAs, IsOf, IsUpAs, Takes, goes_on, heard, stops}
use Rattle.syn_agent.specs.declared.agent.Agent.{Agent}
use Rattle.syn_disk.specs.Arms.{is_stopped}
use Rattle.syn_disk.specs.declared.disk.Disk.{Ghosts}
use Rattle.syn_machine.specs.Machine.{Status, Up, Halted, Down, Writes, record_size, unarmed}
use Rattle.syn_machine.specs.Machine.{unwritten, with_record, written}
use Rattle.syn_machine.specs.Side.{Request, Reply, Refused, Served, Serves, Staging, answer}
use Rattle.syn_machine.specs.SideMachine.{SideMachine, SideTakes, ServesAs, ServesHalted}
use Rattle.syn_machine.specs.SideMachine.{has_room_for, said, side_layout, side_now, with_journal}
use Rattle.syn_machine.specs.SideMachine as model
use Rattle.syn_journal.specs.Calls.{armed_at}
use Rattle.syn_journal.specs.Journal as journal
use Rattle.syn_journal.specs.Layout.{HasJournal}
use Rattle.syn_journal.specs.Machines.{writing}
use Rattle.syn_journal.specs.Meaning.{as_kept}
use Rattle.syn_model.specs.Event.{Event}
use Rattle.syn_model.specs.History.{History}
use Rattle.syn_model.specs.Image.{StandsFor}
use Rattle.syn_model.specs.Refusal.{Device}
use Rattle.syn_model.specs.Spelling.{event_spelling}
use Rattle.syn_replica.specs.Machines.{IsMachine, Journal, StandsAs, WritesRecord}
use Rattle.syn_replica.specs.Machines as of_replica
use Rattle.syn_replica.specs.Replica.{IsHalted, Remembers, Stands, disk_of, generation_shown}
use Rattle.syn_replica.specs.Replica.{left_shown, pair_of}
use Rattle.syn_replica.specs.declared.replica.Replica.{Replica}

-- a replica that stands for the history of a machine that is up is the machine's
pub is_up : {D : Type 0} {disk : Ghosts D} (pair : ℕ) (replica : Replica D disk) (agent : Agent)
    (machine : SideMachine) → IsUpAs pair replica agent machine → IsOf pair replica agent machine
is_up {D} {disk} pair replica agent machine is = record {
  keeps = record {
    pair_is = is.pair_is;
    stands = subst (λ s. StandsAs s replica machine.journal.value) (sym is.up) is.stands;
    room = λ _. is.room;
    generation = λ _. is.generation;
    armed = is.armed;
    runs = is.runs;
    left = λ bytes may. record {
      value = stands.value;
      generation = generation_shown replica;
      journal = subst (λ b. HasJournal b stands.value (generation_shown replica))
          (sym (stands.runs.durable bytes may)) stands.runs.holds;
      means = as_kept (record {
        stands = subst (λ p. StandsFor p stands.value.image stands.value.payloads
            machine.journal.value) is.pair_is stands.means;
        room = is.room ∙ ap (λ n. 4194304 - 1 - n) stands.runs.gate;
        numbered = is.generation;
      });
    };
  };
  staging = is.staging;
}
  where
    stands : Stands replica machine.journal.value
    stands = is.stands

-- the side of a machine, by what its replica and agent show
serves_it : (pair pair' : ℕ) (left left' : ℕ) (history : History) (staged staged' : Option Staging)
    (session : ℕ) (request : Request) (served : Served) → pair ≡ pair' → left ≡ left'
    → staged ≡ staged'
    → Serves pair (λ event. nat_le (record_size (event_spelling event)) left)
    (record { history = history; staging = staged }) session request served
    → Serves pair' (λ event. nat_le (record_size (event_spelling event)) left')
    (record { history = history; staging = staged' }) session request served
serves_it pair pair' left left' history staged staged' session request served p l s serves =
    subst (λ p. Serves p (λ event. nat_le (record_size (event_spelling event)) left')
    (record { history = history; staging = staged' }) session request served) p
    (subst (λ l. Serves pair (λ event. nat_le (record_size (event_spelling event)) l)
    (record { history = history; staging = staged' }) session request served) l
    (subst (λ s. Serves pair (λ event. nat_le (record_size (event_spelling event)) left)
    (record { history = history; staging = s }) session request served) s serves))

-- of an event that was sent to the disk
one_same : (event told : Event) → ◌≡◌ {A = List Event} (event ∷ []) (told ∷ []) → event ≡ told
one_same event told same = cc

none_same : (told : Event) → ◌≡◌ {A = List Event} [] (told ∷ []) → ⊥
none_same told same = cc

some_same : (event told : Event) → Some event ≡ Some told → event ≡ told
some_same event told same = cc

sent : (event told : Event) {tried : Option (List ℕ)} → tried ≡ Some (event_spelling event)
    → event ≡ told → tried ≡ Some (event_spelling told)
sent event told is same = is ∙ ap (λ e. Some (event_spelling e)) same

module _ {D : Type 0} {disk : Ghosts D} (pair : ℕ) (old new : Replica D disk) (agent after : Agent)
    (machine : SideMachine) (session : ℕ) (request : Request)
    (is : IsOf pair old agent machine) where
  abbrev value : History
  value = machine.journal.value

  same_count : IsUnchanged old new → disk.failures (disk_of new) ≡ disk.failures (disk_of old)
  same_count same = ap (λ j. disk.failures (journal.disk_of j)) same.journal

  -- the machine with another staging, where the replica stays
  stays_of : (staged : Option Staging) → staged ≡ staging_of after → IsUnchanged old new
      → StandsAs machine.journal.status new value
      → IsOf pair new after (record machine { staging = staged })
  stays_of staged staged_is same stands = record {
    keeps = record {
      pair_is = same.memory.pair ∙ is.keeps.pair_is;
      stands = stands;
      room = λ up. is.keeps.room up ∙ ap (λ j. journal.left_of j) (sym same.journal);
      generation =
          λ up. is.keeps.generation up ∙ ap (λ j. journal.generation_of j) (sym same.journal);
      armed = is.keeps.armed
          ∙ ap (λ j. armed_at (disk.arms (journal.disk_of j))) (sym same.journal);
      runs = ap (λ j. is_stopped (disk.arms (journal.disk_of j))) same.journal ∙ is.keeps.runs;
      left = λ bytes may. is.keeps.left bytes
          (subst (λ j. disk.may_leave (journal.disk_of j) bytes) same.journal may);
    };
    staging = staged_is;
  }

  -- its journal went on so, and what is staged stays
  goes_to : (next : Journal) → staging_of after ≡ staging_of agent → IsMachine new pair next
      → IsLeftAs pair new after (with_journal machine next)
  goes_to next staged now = goes_on (record { keeps = now; staging = by next.status now.stands })
    where
      by : (status : Status) → StandsAs status new next.value
          → model.staging_after status machine.staging ≡ staging_of after
      by Up stands = is.staging ∙ sym staged
      by Halted stands = is.staging ∙ sym staged
      by Down none = absurd none

  module _ (up : machine.journal.status ≡ Up) where
    serves_up : (served : Served)
        → Serves (pair_of old) (room_for old) (side_of value agent) session request served
        → Serves pair (has_room_for pair machine) (side_now machine) session request served
    serves_up served serves = serves_it (pair_of old) pair (left_shown old) machine.journal.room
        value (staging_of agent) machine.staging session request served is.keeps.pair_is
        (sym (is.keeps.room up))
        (sym is.staging) serves

    same_said : (status : Status) → status ≡ Up → (reply : Reply)
        → said status reply ≡ heard status reply
    same_said status at reply = subst (λ s. said s reply ≡ heard s reply) (sym at) refl

    same_heard : (status : Status) → status ≡ Up → (reply : Reply)
        → Some reply ≡ heard status reply
    same_heard status at reply = subst (λ s. Some reply ≡ heard s reply) (sym at) refl

    -- the event that it should add, as its record was written, and as it was not
    module _ (served : Served) (event : Event)
        (serves : Serves (pair_of old) (room_for old) (side_of value agent) session request served)
        (so : served.side ≡ side_of (value ++ event ∷ []) agent)
        (staged : staging_of after ≡ staging_of agent) where
      unwritten_so : (next : Journal) → Writes (side_layout pair) machine.journal event next []
          → SideTakes pair machine session request (with_journal machine next)
          (said next.status served.reply) []
      unwritten_so next writes =
          model.adds served event next [] up (serves_up served serves) (ap (λ s. s.history) so)
          writes

      added : Adds old new value event → WritesRecord new pair machine.journal event None
          → Takes pair old new after machine session request served.reply
      added adding (of_replica.written arms was meets now) =
          let next = with_record (side_layout pair) machine.journal event arms in
          record {
            next = with_journal machine next;
            events = event ∷ [];
            takes = subst (λ r. SideTakes pair machine session request (with_journal machine next)
                r (event ∷ [])) (same_said machine.journal.status up served.reply)
                (model.adds served event next (event ∷ []) up (serves_up served serves)
                (ap (λ s. s.history) so) (written arms refl meets));
            leaves = goes_to next staged now;
            added = λ told same. sent event told adding.sends.tried (one_same event told same);
            writing = λ told under_way. inl under_way;
            counts = omega (arith, adding.failures);
          }
      added adding (of_replica.stopped_after was meets now) =
          let next = writing machine.journal event Down unarmed 0 in
          record {
            next = with_journal machine next;
            events = [];
            takes = unwritten_so next (unwritten Down unarmed 0 refl (inr refl) meets);
            leaves = stops now;
            added = λ told same. absurd (none_same told same);
            writing = λ told under_way. inr (sent event told adding.sends.tried
                (some_same event told under_way));
            counts = omega (arith, adding.failures);
          }

      broke : BreaksOff old new value event
          → WritesRecord new pair machine.journal event (Some Device)
          → Takes pair old new after machine session request (Refused Device)
      broke off (of_replica.failed arms was meets now) =
          let next = writing machine.journal event Halted arms 1 in
          record {
            next = with_journal machine next;
            events = [];
            takes = unwritten_so next (unwritten Halted arms 1 refl (inl refl) meets);
            leaves = goes_to next staged now;
            added = λ told same. absurd (none_same told same);
            writing = λ told under_way. inr (sent event told off.sends.tried
                (some_same event told under_way));
            counts = omega (arith, off.failures);
          }
      broke off (of_replica.stopped was meets now) =
          let next = writing machine.journal event Down unarmed 0 in
          record {
            next = with_journal machine next;
            events = [];
            takes = unwritten_so next (unwritten Down unarmed 0 refl (inr refl) meets);
            leaves = stops now;
            added = λ told same. absurd (none_same told same);
            writing = λ told under_way. inr (sent event told off.sends.tried
                (some_same event told under_way));
            counts = omega (arith, off.failures);
          }
      broke off (of_replica.refused refusal other now) = absurd (other refl)

    takes_up : (reply : Reply) → Answers old new agent after value session request reply
        → Takes pair old new after machine session request reply
    takes_up _ (keeps served serves so same still) = record {
      next = record machine { staging = served.side.staging };
      events = [];
      takes = subst (λ r. SideTakes pair machine session request
          (record machine { staging = served.side.staging }) r [])
          (same_heard machine.journal.status up served.reply)
          (model.answers served (subst (λ s. ServesAs s pair (has_room_for pair machine)
          (side_now machine) session request served) (sym up) (serves_up served serves))
          (ap (λ s. s.history) so));
      leaves = goes_on (stays_of served.side.staging (ap (λ s. s.staging) so) same
          (subst (λ s. StandsAs s new value) (sym up) still));
      added = λ told same. absurd (none_same told same);
      writing = λ told under_way. inl under_way;
      counts = omega (arith, same_count same);
    }
    takes_up _ (adds served event serves so staged adding) =
        added served event serves so staged adding (adding.world pair machine.journal is.keeps)
    takes_up _ (breaks served event serves so staged off) =
        broke served event serves so staged off (off.world pair machine.journal is.keeps)

  -- of a halted machine
  takes_halted : (reply : Reply) → machine.journal.status ≡ Halted → IsHalted old
      → Remembers old value
      → ServesHalted (side_of value agent) session request (answer (side_of value after) reply)
      → IsUnchanged old new → Takes pair old new after machine session request reply
  takes_halted reply at halted remembers serves same = record {
    next = record machine { staging = staging_of after };
    events = [];
    takes = subst (λ s. SideTakes pair machine session request
        (record machine { staging = staging_of after }) s [])
        (subst (λ s. Some reply ≡ heard s reply) (sym at) refl)
        (model.answers (answer (side_of value after) reply)
        (subst (λ s. ServesAs s pair (has_room_for pair machine) (side_now machine) session request
        (answer (side_of value after) reply)) (sym at) (subst (λ staged. ServesHalted
        (record { history = value; staging = staged }) session request
        (answer (side_of value after) reply)) (sym is.staging) serves)) refl);
    leaves = goes_on (stays_of (staging_of after) refl same (subst (λ s. StandsAs s new value)
        (sym at) (
          subst (λ j. journal.IsHalted j) (sym same.journal) halted,
          record {
            lawful = remembers.lawful;
            standing = same.memory.standing ∙ remembers.standing;
          },
        )));
    added = λ told same'. absurd (none_same told same');
    writing = λ told under_way. inl under_way;
    counts = omega (arith, same_count same);
  }

  pub takes_so : (reply : Reply)
      → (Stands old value → Answers old new agent after value session request reply)
      → (IsHalted old
      → ServesHalted (side_of value agent) session request (answer (side_of value after) reply))
      → (IsHalted old → IsUnchanged old new)
      → Takes pair old new after machine session request reply
  takes_so reply answers halted unchanged = by machine.journal.status refl is.keeps.stands
    where
      by : (status : Status) → machine.journal.status ≡ status → StandsAs status old value
          → Takes pair old new after machine session request reply
      by Up at stands = takes_up at reply (answers stands)
      by Halted at stands = takes_halted reply at stands.0 stands.1 (halted stands.0)
          (unchanged stands.0)
      by Down at stands = absurd stands
