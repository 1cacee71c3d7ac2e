-- How a session begins, by what the replica answers.
use Rattle.std.proofs.Common.{◌≡◌, ◌⊎◌, ◌∙◌, ◌+◌, ◌-◌, ℕ, Bool, true, false, List, [], ◌∷◌, ◌++◌}
use Rattle.std.proofs.Common.{Option, Some, None, ap, arith, inl, inr, length, not}
use Rattle.std.proofs.Common.{◌≢◌, length-append, refl, subst, sym}
use Rattle.std.proofs.lemmas.Bool.{eqb-true, false≢true}
use Rattle.std.specs.Prelude.{◌==◌, nat_le, nat_lt, if◌then◌else◌}
use Rattle.syn_agent.proofs.CauseLemmas.{later_none, later_some, never_first, outside, rooms}
use Rattle.syn_agent.proofs.ReplicaLemmas.{stays}
use Rattle.syn_agent.specs.Agents.{side_of}
use Rattle.syn_agent.specs.Answers.{Answers, keeps, adds, breaks, IsUnchanged, room_for}
use Rattle.syn_agent.specs.declared.agent.Agent.{Agent}
use Rattle.syn_agent.specs.Answers.{BreaksOff, WritesFor}
use Rattle.syn_disk.specs.Stops.{LeavesOnly}
use Rattle.syn_disk.specs.declared.disk.Disk.{Ghosts}
use Rattle.syn_machine.specs.Machine.{record_size}
use Rattle.syn_machine.specs.Side.{Side, Served, Begin, Begun, Refused, add_event, answer, begin}
use Rattle.syn_machine.specs.Side.{IsUnread, Serves, TakesMemory}
use Rattle.syn_machine.specs.Side as model
use Rattle.syn_model.specs.Event.{Event, Began}
use Rattle.syn_model.specs.History.{History, last_session, position_causes}
use Rattle.syn_model.specs.Refusal.{Refusal, Cause, first_cause, WrongPair, OldSession, JournalFull}
use Rattle.syn_model.specs.Refusal as why
use Rattle.syn_model.specs.Spelling.{event_spelling}
use Rattle.syn_replica.specs.Calls.{Writes, unless}
use Rattle.syn_replica.specs.Refusals.{IsOneOf, outside_refusals}
use Rattle.syn_replica.specs.ErrorRefusals.{refusal_of}
use Rattle.syn_replica.specs.Replica.{IsHalted, KeepsBeforeOrAfter, Stands, disk_of, journal_of}
use Rattle.syn_replica.specs.Replica.{left_shown, pair_of, room_shown, standing_shown, tried_shown}
use Rattle.syn_replica.specs.Steps.{begin_refusal, begun, room_causes}
use Rattle.syn_replica.specs.declared.error.ReplicaError.{ReplicaError}
use Rattle.syn_replica.specs.declared.replica.Replica.{Replica}

module _ (room left own session pair : ℕ) (history : History) (agent : Agent)
    (is : room ≡ left - 5) where
  abbrev side : Side
  side = side_of history agent

  abbrev has_room : Event → Bool
  has_room event = nat_le (record_size (event_spelling event)) left

  abbrev early : List Cause
  early = (not (pair == own), WrongPair) ∷ (nat_lt session (last_session history), OldSession) ∷ []

  abbrev late : List Cause
  late = position_causes history ++ model.room_causes has_room (Began session)

  abbrev fresh : Served
  fresh = answer (add_event side (Began session)) (Begun (length history + 1))

  abbrev again_begun : Served
  again_begun = answer side (Begun (length history))

  same_rooms : room_causes room (Began session) ≡ model.room_causes has_room (Began session)
  same_rooms = ap (λ b. (b, JournalFull) ∷ [])
      (rooms room left (length (event_spelling (Began session))) is (omega arith))

  pub begins : begin_refusal room own history pair session ≡ None
      → begin own has_room side session pair
      ≡ (if session == last_session history then answer side (Begun (length history))
      else answer (add_event side (Began session)) (Begun (length history + 1)))
  begins none = by (session == last_session history) none
    where
      by : (again : Bool)
          → first_cause (early ++ (if again then [] else position_causes history
          ++ room_causes room (Began session))) ≡ None
          → model.unless_refused side (first_cause early)
          (if again then answer side (Begun (length history))
          else model.unless_refused side (first_cause (position_causes history
          ++ model.room_causes has_room (Began session)))
          (answer (add_event side (Began session)) (Begun (length history + 1))))
          ≡ (if again then answer side (Begun (length history))
          else answer (add_event side (Began session)) (Begun (length history + 1)))
      by true none = later_none early [] side again_begun none
      by false none = later_none early late side fresh
          (subst (λ r. first_cause (early ++ (position_causes history ++ r)) ≡ None) same_rooms
          none)

  pub begins_not : (refusal : Refusal)
      → begin_refusal room own history pair session ≡ Some refusal
      → begin own has_room side session pair ≡ answer side (Refused refusal)
  begins_not refusal some = by (session == last_session history) some
    where
      by : (again : Bool)
          → first_cause (early ++ (if again then [] else position_causes history
          ++ room_causes room (Began session))) ≡ Some refusal
          → model.unless_refused side (first_cause early)
          (if again then answer side (Begun (length history))
          else model.unless_refused side (first_cause (position_causes history
          ++ model.room_causes has_room (Began session)))
          (answer (add_event side (Began session)) (Begun (length history + 1))))
          ≡ answer side (Refused refusal)
      by true some = later_some early [] side again_begun refusal some
      by false some = later_some early late side fresh refusal
          (subst (λ r. first_cause (early ++ (position_causes history ++ r)) ≡ Some refusal)
          same_rooms some)

  -- what is no cause is not answered as one
  pub never_cause : (bad : Refusal) → WrongPair ≢ bad → OldSession ≢ bad → why.Full ≢ bad
      → JournalFull ≢ bad → (refusal : Refusal)
      → begin_refusal room own history pair session ≡ Some refusal → refusal ≢ bad
  never_cause bad first second third fourth refusal some =
      by (session == last_session history) some
    where
      by : (again : Bool)
          → first_cause (early ++ (if again then [] else position_causes history
          ++ room_causes room (Began session))) ≡ Some refusal → refusal ≢ bad
      by true some = never_first bad refusal early (first, (second, tt)) some
      by false some = never_first bad refusal
          (early ++ (position_causes history ++ room_causes room (Began session)))
          (first, (second, (third, (fourth, tt)))) some

  -- the pair is its own
  pub own_pair : begin_refusal room own history pair session ≡ None → pair ≡ own
  own_pair none = by (pair == own) refl none
    where
      by : (b : Bool) → (pair == own) ≡ b
          → first_cause ((not b, WrongPair) ∷ (nat_lt session (last_session history), OldSession)
          ∷ (if session == last_session history then [] else position_causes history
          ++ room_causes room (Began session))) ≡ None → pair ≡ own
      by true same none = eqb-true pair own same
      by false same none = absurd (let k : Some WrongPair ≡ None = none in cc)

module _ {D : Type 0} {disk : Ghosts D} (old new : Replica D disk) (agent : Agent)
    (history : History) (session pair : ℕ) (stands : Stands old history) where
  was_running : ¬ IsHalted old
  was_running halted = false≢true (sym stands.runs.running ∙ halted)

  unread : IsUnread (pair_of old) (room_for old) (side_of history agent) session (Begin pair)
  unread a b = refl

  room_is : room_shown old ≡ left_shown old - 5
  room_is = omega arith

  last_is : (standing_shown old).session ≡ last_session history
  last_is = ap (λ s. s.session) stands.remembers.standing

  own : begin_refusal (room_shown old) (pair_of old) history pair session ≡ None
      → pair ≡ pair_of old
  own none =
      own_pair (room_shown old) (left_shown old) (pair_of old) session pair history agent room_is
      none

  serves : (again : Bool) → session == last_session history ≡ again
      → begin_refusal (room_shown old) (pair_of old) history pair session ≡ None
      → Serves (pair_of old) (room_for old) (side_of history agent) session (Begin pair)
      (if again then answer (side_of history agent) (Begun (length history))
      else answer (add_event (side_of history agent) (Began session)) (Begun (length history + 1)))
  serves again is none = inl (
    None,
    inr unread,
    sym (begins (room_shown old) (left_shown old)
        (pair_of old) session pair history agent room_is none
        ∙ ap (λ b. if b then answer (side_of history agent) (Begun (length history))
        else answer (add_event (side_of history agent) (Began session))
        (Begun (length history + 1)))
        is),
  )

  -- what is written, by whether the session was begun before
  writes_if : (Written : Option Event → Type 0) → (again : Bool)
      → (session == last_session history) ≡ again
      → Written (unless (session == (standing_shown old).session) (Began session))
      → Written (unless again (Began session))
  writes_if Written again is writes = subst (λ b. Written (unless b (Began session)))
      (ap (λ n. session == n) last_is ∙ is) writes

  -- the replica answers a position
  pub begun_answers : (position : ℕ)
      → (position ≡ length (begun history session)) × Stands new (begun history session)
      → (begin_refusal (room_shown old) (pair_of old) history pair session ≡ None)
      → Writes old new (unless (session == (standing_shown old).session) (Began session)) None
      → WritesFor old new (unless (session == (standing_shown old).session) (Began session)) None
      → LeavesOnly disk.moment disk.left_since (disk_of old) (disk_of new)
      (KeepsBeforeOrAfter old history (Began session))
      → Answers old new agent agent history session (Begin pair) (Begun position)
  begun_answers position given none writes world any_moment =
      by (session == last_session history) refl
    where
      after : (again : Bool) → (session == last_session history) ≡ again
          → begun history session ≡ (if again then history else history ++ Began session ∷ [])
      after again is = ap (λ b. if b then history else history ++ Began session ∷ []) is

      by : (again : Bool) → (session == last_session history) ≡ again
          → Answers old new agent agent history session (Begin pair) (Begun position)
      by true is =
          let q = (writes_if (λ event. Writes old new event None) true is writes).written in
          subst (λ n. Answers old new agent agent history session (Begin pair) (Begun n))
          (sym (given.0 ∙ ap length (after true is)))
          (keeps (answer (side_of history agent) (Begun (length history))) (serves true is none)
          refl
          (record {
            memory = record { pair = ap pair_of q; standing = ap standing_shown q };
            journal = ap journal_of q;
            tried = ap tried_shown q;
          })
          (subst (Stands new) (after true is) given.1))
      by false is =
          subst (λ n. Answers old new agent agent history session (Begin pair) (Begun n))
          (sym (given.0 ∙ (ap length (after false is)
          ∙ length-append history (Began session ∷ []))))
          (adds (answer (add_event (side_of history agent) (Began session))
          (Begun (length history + 1))) (Began session) (serves false is none) refl refl
          (let made = writes_if (λ event. Writes old new event None) false is writes in
          record {
            stands = subst (Stands new) (after false is) given.1;
            has = made.written;
            sends = record { tried = made.tried; any_moment = any_moment };
            calls = made.device.arms;
            failures = made.device.failures;
            world = writes_if (λ event. WritesFor old new event None) false is world;
          }))

  -- memory is refused only where the session would begin
  pub begun_takes : (e : ReplicaError)
      → ((refusal : Refusal)
      → begin_refusal (room_shown old) (pair_of old) history pair session ≡ Some refusal
      → refusal_of e ≡ refusal)
      → ((pair ≡ pair_of old) → (session ≡ (standing_shown old).session) → ¬ IsHalted old → ⊥)
      → refusal_of e ≡ why.Memory
      → TakesMemory (pair_of old) (room_for old) (side_of history agent) session (Begin pair)
  begun_takes e refused again memory = by (session == last_session history) refl
    where
      none : (found : Option Refusal)
          → begin_refusal (room_shown old) (pair_of old) history pair session ≡ found
          → begin_refusal (room_shown old) (pair_of old) history pair session ≡ None
      none None is = is
      none (Some refusal) is = absurd (never_cause (room_shown old) (left_shown old) (pair_of old)
          session pair history agent room_is why.Memory (λ e. cc) (λ e. cc) (λ e. cc) (λ e. cc)
          refusal is (sym (refused refusal is) ∙ memory))

      by : (b : Bool) → (session == last_session history) ≡ b
          → TakesMemory (pair_of old) (room_for old) (side_of history agent) session (Begin pair)
      by true is = absurd (again (own (none _ refl))
          (eqb-true session (last_session history) is ∙ sym last_is) was_running)
      by false is = begins (room_shown old) (left_shown old) (pair_of old) session pair history
          agent room_is (none _ refl)
          ∙ ap (λ b. if b then answer (side_of history agent) (Begun (length history))
          else answer (add_event (side_of history agent) (Began session))
          (Begun (length history + 1))) is

  -- the replica refuses it
  pub begun_refused : (e : ReplicaError)
      → (IsOneOf outside_refusals e ⊎ (begin_refusal (room_shown old) (pair_of old) history pair
      session ≡ Some (refusal_of e)))
      → ((refusal : Refusal)
      → begin_refusal (room_shown old) (pair_of old) history pair session ≡ Some refusal
      → refusal_of e ≡ refusal)
      → ((pair ≡ pair_of old) → (session ≡ (standing_shown old).session) → ¬ IsHalted old → ⊥)
      → Writes old new (unless (session == (standing_shown old).session) (Began session))
      (Some (refusal_of e))
      → WritesFor old new (unless (session == (standing_shown old).session) (Began session))
      (Some (refusal_of e))
      → LeavesOnly disk.moment disk.left_since (disk_of old) (disk_of new)
      (KeepsBeforeOrAfter old history (Began session))
      → Answers old new agent agent history session (Begin pair) (Refused (refusal_of e))
  begun_refused e cause refused again writes world any_moment =
      elim writes.unchanged [
        | inl device ↦ broken device
        | inr same ↦ elim cause [
          | inl none ↦ elim (outside e none) [
            | inl memory ↦ kept same
                (λ device. let k : why.Memory ≡ why.Device = sym memory ∙ device in cc)
                (answer (side_of history agent) (Refused (refusal_of e)))
                (inr (
                  begun_takes e refused again memory,
                  ap (λ r. answer (side_of history agent) (Refused r)) memory,
                )) refl
            | inr device ↦ broken device
          ]
          | inr some ↦ kept same (never_cause (room_shown old) (left_shown old) (pair_of old)
              session pair history agent room_is why.Device (λ e. cc) (λ e. cc) (λ e. cc) (λ e. cc)
              (refusal_of e) some) (answer (side_of history agent) (Refused (refusal_of e)))
              (inl (
                None,
                inr unread,
                sym (begins_not (room_shown old) (left_shown old)
                    (pair_of old) session pair history agent room_is (refusal_of e) some),
              )) refl
        ]
      ]
    where
      kept : journal_of new ≡ journal_of old → refusal_of e ≢ why.Device → (served : Served)
          → Serves (pair_of old) (room_for old) (side_of history agent) session (Begin pair)
          served
          → served.side ≡ side_of history agent
          → Answers old new agent agent history session (Begin pair) served.reply
      kept same not served so stays_so =
          let as_it_was : IsUnchanged old new =
          record {
            memory = writes.readings.memory;
            journal = same;
            tried = writes.untried not;
          } in
          keeps served so stays_so as_it_was (stays old new history stands as_it_was)

      no_cause : refusal_of e ≡ why.Device → (found : Option Refusal)
          → begin_refusal (room_shown old) (pair_of old) history pair session ≡ found
          → begin_refusal (room_shown old) (pair_of old) history pair session ≡ None
      no_cause device None is = is
      no_cause device (Some refusal) is = absurd (never_cause (room_shown old) (left_shown old)
          (pair_of old) session pair history agent room_is why.Device (λ e. cc) (λ e. cc) (λ e. cc)
          (λ e. cc) refusal is (sym (refused refusal is) ∙ device))

      off : refusal_of e ≡ why.Device → (session == last_session history) ≡ false
          → BreaksOff old new history (Began session)
      off device is =
          let sent = subst (λ w. Writes old new (Some (Began session)) (Some w)) device
          (writes_if (λ event. Writes old new event (Some (refusal_of e))) false is writes) in
          record {
            halted = sent.halts refl;
            readings = sent.readings;
            sends = record {
              tried = elim sent.tried [
                | inl tried ↦ tried.1
                | inr none ↦ absurd (none.0 refl)
              ];
              any_moment = any_moment;
            };
            seen = sent.seen history stands;
            calls = sent.device.arms;
            failures = sent.device.failures;
            world = subst (λ w. WritesFor old new (Some (Began session)) (Some w)) device
                (writes_if (λ event. WritesFor old new event (Some (refusal_of e))) false is
                world);
          }

      broken_if : refusal_of e ≡ why.Device
          → begin_refusal (room_shown old) (pair_of old) history pair session ≡ None
          → (b : Bool) → (session == last_session history) ≡ b
          → Answers old new agent agent history session (Begin pair) (Refused why.Device)
      broken_if device none true is = absurd (again (own none)
          (eqb-true session (last_session history) is ∙ sym last_is) was_running)
      broken_if device none false is =
          breaks (answer (add_event (side_of history agent) (Began session))
          (Begun (length history + 1))) (Began session) (serves false is none) refl refl
          (off device is)

      broken : refusal_of e ≡ why.Device
          → Answers old new agent agent history session (Begin pair) (Refused (refusal_of e))
      broken device =
          subst (λ r. Answers old new agent agent history session (Begin pair) (Refused r))
          (sym device)
          (broken_if device (no_cause device _ refl) (session == last_session history) refl)
