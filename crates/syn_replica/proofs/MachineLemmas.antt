-- A call of a replica is what its machine does, as the machine of its memory says it.
use Rattle.std.proofs.Common.{◌≡◌, ◌≢◌, ◌∙◌, ◌-◌, ◌++◌, ◌∷◌, [], ℕ, Option, None, Some, Result, Ok}
use Rattle.std.proofs.Common.{Err, ap, refl, sym, subst}
use Rattle.std.specs.Prelude.{IsErrAnd}
use Rattle.syn_disk.specs.declared.disk.Disk.{Ghosts}
use Rattle.syn_machine.specs.Machine.{Status, Up, Halted, Down, after_device, unarmed}
use Rattle.syn_machine.specs.Machine.{with_image, with_record}
use Rattle.syn_machine.specs.SideMachine.{side_layout}
use Rattle.syn_journal.specs.Endings.{ended}
use Rattle.syn_journal.specs.Layout.{HasJournal}
use Rattle.syn_journal.specs.Machines as machine
use Rattle.syn_journal.specs.Meaning.{MayBeOf}
use Rattle.syn_journal.specs.Meaning as meaning
use Rattle.syn_model.specs.Event.{Event}
use Rattle.syn_model.specs.History.{IsAllowed}
use Rattle.syn_model.specs.Image.{StandsFor}
use Rattle.syn_model.specs.Laws.{AllowedGoesOn, StandingSteps}
use Rattle.syn_model.specs.Path.{Bytes}
use Rattle.syn_model.specs.Refusal.{Refusal, Device}
use Rattle.syn_model.specs.Refusal as why
use Rattle.syn_model.specs.Standing.{standing_after}
use Rattle.syn_replica.specs.Disks.{event_size}
use Rattle.syn_replica.specs.ErrorRefusals.{refusal_of}
use Rattle.syn_replica.specs.Machines.{IsDown, IsMachine, Journal, ReadsDisk, StandsAs, Starts}
use Rattle.syn_replica.specs.Machines.{WritesImage, WritesRecord, WritesUnlessDone, failed}
use Rattle.syn_replica.specs.Machines.{failed_reading, image_failed, image_refused, image_stopped}
use Rattle.syn_replica.specs.Machines.{image_written, read, refused, stopped, stopped_after}
use Rattle.syn_replica.specs.Machines.{stopped_after_image, stopped_reading, unread, written}
use Rattle.syn_replica.specs.Replica.{HasRecord, IsHalted, Remembers, Stands, disk_of}
use Rattle.syn_replica.specs.Replica.{generation_shown, pair_of, standing_shown}
use Rattle.syn_replica.specs.declared.error.ReplicaError.{ReplicaError}
use Rattle.syn_replica.specs.declared.replica.Replica.{Replica}
use Rattle.syn_replica.specs.declared.standing.Update.{Update}
use Rattle.syn_replica.specs.inner.Additions.{Adds}
use Rattle.syn_replica.specs.inner.Memories.{RemembersAs, StepsBy, kept_as}
use Rattle.syn_replica.proofs.StandLemmas.{allowed_after, left_behind}

-- ---- the replica is the machine of its memory, and back

module _ {D : Type 0} {disk : Ghosts D} (replica : Replica D disk) (pair : ℕ) (now : Journal) where
  pub as_machine : IsMachine replica pair now →
      machine.IsMachine (kept_as pair) replica.journaled now
  as_machine is = record {
    remembers = remembers now.status is.stands;
    stands = stands now.status refl is.stands;
    armed = is.armed;
    goes = is.runs;
    leaves = is.left;
  }
    where
      as_remembered : Remembers replica now.value →
          RemembersAs pair replica.journaled.state now.value
      as_remembered r = record {
        pair_is = is.pair_is;
        lawful = r.lawful;
        standing = r.standing;
      }

      remembers : (status : Status) → StandsAs status replica now.value →
          RemembersAs pair replica.journaled.state now.value
      remembers Up stands = as_remembered stands.remembers
      remembers Halted stands = as_remembered stands.1
      remembers Down none = absurd none

      stands : (status : Status) → now.status ≡ status → StandsAs status replica now.value →
          machine.StandsAs (kept_as pair) replica.journaled now now.status
      stands Up up it =
          subst (machine.StandsAs (kept_as pair) replica.journaled now) (sym up) (record {
            value = it.value;
            runs = it.runs;
            means = record {
              stands = subst (λ n. StandsFor n it.value.image it.value.payloads now.value)
                  is.pair_is it.means;
              room = is.room up ∙ sym (left_behind replica it.value it.runs);
              numbered = is.generation up;
            };
          })
      stands Halted halted it =
          subst (machine.StandsAs (kept_as pair) replica.journaled now) (sym halted) it.0
      stands Down down none = absurd none

  pub of_machine : machine.IsMachine (kept_as pair) replica.journaled now →
      IsMachine replica pair now
  of_machine is = record {
    pair_is = is.remembers.pair_is;
    stands = stands now.status is.stands;
    room = λ up. let was = runs up in
        was.means.room ∙ left_behind replica was.value was.runs;
    generation = λ up. (runs up).means.numbered;
    armed = is.armed;
    runs = is.goes;
    left = is.leaves;
  }
    where
      remembers : Remembers replica now.value
      remembers = record { lawful = is.remembers.lawful; standing = is.remembers.standing }

      runs : now.status ≡ Up → machine.Runs (kept_as pair) replica.journaled now
      runs up = subst (machine.StandsAs (kept_as pair) replica.journaled now) up is.stands

      stands : (status : Status) → machine.StandsAs (kept_as pair) replica.journaled now status →
          StandsAs status replica now.value
      stands Up was = record {
        remembers = remembers;
        value = was.value;
        runs = was.runs;
        means =
            subst (λ n. StandsFor n was.value.image was.value.payloads now.value)
            (sym is.remembers.pair_is) was.means.stands;
      }
      stands Halted halted = (halted, remembers)
      stands Down none = none

  pub of_down : pair_of replica ≡ pair → machine.IsDown (kept_as pair) replica.journaled now →
      IsDown replica pair now
  of_down same is =
      record { pair_is = same; down = is.down; stopped = is.stopped; left = is.leaves }

-- a replica that is not halted is that of a machine that is up
pub runs_up : {D : Type 0} {disk : Ghosts D} (replica : Replica D disk) (pair : ℕ) (now : Journal) →
    IsMachine replica pair now → (IsHalted replica → ⊥) → now.status ≡ Up
runs_up replica pair now is running = by now.status refl is.stands
  where
    by : (status : Status) → now.status ≡ status → StandsAs status replica now.value →
        now.status ≡ Up
    by Up up stands = up
    by Halted halted stands = absurd (running stands.0)
    by Down down none = absurd none

-- and stands for its history
pub stands_up : {D : Type 0} {disk : Ghosts D} (replica : Replica D disk) (pair : ℕ)
    (now : Journal) → IsMachine replica pair now → (IsHalted replica → ⊥) →
    Stands replica now.value
stands_up replica pair now is running =
    subst (λ s. StandsAs s replica now.value) (runs_up replica pair now is running) is.stands

-- ---- the record of an event

module _ {D : Type 0} {disk : Ghosts D} (old : Replica D disk) (pair : ℕ) (now : Journal)
    (is : IsMachine old pair now) (event : Event) where
  -- what is prepared may be added to the machine
  pub adds_to : AllowedGoesOn → StandingSteps → (payload spelled : Bytes) (update : Update) →
      (IsHalted old → ⊥) → Adds (standing_shown old) event spelled update → payload ≡ spelled →
      machine.Adds (kept_as pair) now event payload (StepsBy old.journaled.state update)
  adds_to goes_on steps payload spelled update running adds same =
      let remembers = (stands_up old pair now is running).remembers in
      let allowed : IsAllowed now.value event =
      allowed_after (standing_shown old) now.value event remembers.standing adds.allowed in
      record {
        can = allowed;
        spelled = same ∙ adds.spelled;
        leads = λ memory makes. record {
          pair_is = makes.pair ∙ is.pair_is;
          lawful = goes_on now.value event remembers.lawful allowed;
          standing = makes.standing event adds.gives
              ∙ (ap (λ s. standing_after s event) remembers.standing ∙ sym (steps now.value event));
        };
      }

  -- A record that stands on the disk may be that of a machine that stopped as it was writing it
  module _ (new : Replica D disk) (running : IsHalted old → ⊥) (has : HasRecord old new event)
      (stands : Stands new (now.value ++ event ∷ [])) (allowed : IsAllowed now.value event) where
    pub left_with : (bytes : Bytes) → disk.may_leave (disk_of new) bytes →
        MayBeOf (kept_as pair).keeping (machine.writing now event Down unarmed 0) bytes
    left_with bytes may = record {
      value = stands.value;
      generation = generation_shown new;
      journal = subst (λ b. HasJournal b stands.value (generation_shown new))
          (sym (stands.runs.durable bytes may)) stands.runs.holds;
      means = meaning.with_record (record {
        added = event;
        writing = refl;
        can_add = allowed;
        stands = subst (λ p. StandsFor p stands.value.image stands.value.payloads
            (now.value ++ event ∷ [])) (has.pair ∙ is.pair_is) stands.means;
        room = ap (λ n. n - event_size event) (is.room up)
            ∙ (sym has.left_is ∙ sym (left_behind new stands.value stands.runs));
        numbered = is.generation up ∙ sym has.generation;
      });
    }
      where
        up : now.status ≡ Up
        up = runs_up old pair now is running

  module _ (new : Replica D disk) (same : pair_of new ≡ pair) (up : now.status ≡ Up) where
    pub writes_record : (ended : Option Refusal) → (ended ≡ None → (bytes : Bytes) →
        disk.may_leave (disk_of new) bytes →
        MayBeOf (kept_as pair).keeping (machine.writing now event Down unarmed 0) bytes) →
        machine.WritesRecord (kept_as pair) new.journaled now event ended →
        WritesRecord new pair now event ended
    writes_record ended left (machine.written arms meets it) =
        written arms up meets
        (of_machine new pair (with_record (side_layout pair) now event arms) it)
    writes_record ended left (machine.stopped_after meets stop before it) =
        stopped_after up meets
        (record { pair_is = same; down = refl; stopped = it.stopped; left = left refl })
    writes_record ended left (machine.failed arms meets it) =
        failed arms up meets (of_machine new pair (machine.writing now event Halted arms 1) it)
    writes_record ended left (machine.stopped meets it) =
        stopped up meets (of_down new pair (machine.writing now event Down unarmed 0) same it)
    writes_record ended left (machine.refused refusal other it) =
        refused refusal other (of_machine new pair now it)

-- refused before any device call, it stays
module _ {D : Type 0} {disk : Ghosts D} (replica : Replica D disk) (pair : ℕ) (now : Journal)
    (is : IsMachine replica pair now) where
  pub stays_refused : (event : Option Event) (refusal : Refusal) → refusal ≢ Device →
      WritesUnlessDone replica pair now event (Some refusal)
  stays_refused None refusal other = is
  stays_refused (Some event) refusal other = refused refusal other is

  -- and so at an exit
  pub exits_so : {X : Type 0} (result : Result X ReplicaError) (e : ReplicaError)
      (event : Option Event) → IsErrAnd result (λ x. x ≡ e) → refusal_of e ≢ Device →
      WritesUnlessDone replica pair now event (ended refusal_of result)
  exits_so (Ok value) e event so other = absurd so
  exits_so (Err x) e event so other =
      stays_refused event (refusal_of x) (λ device. other (sym (ap refusal_of so) ∙ device))

-- ---- what each other call is to it

module _ {D : Type 0} {disk : Ghosts D} (new : Replica D disk) (pair : ℕ) (now : Journal)
    (same : pair_of new ≡ pair) where
  -- one that is halted writes none
  pub writes_image : (ended : Option Refusal) → ((ended ≡ Some why.Halted → ⊥) → now.status ≡ Up) →
      machine.WritesImage (kept_as pair) new.journaled now ended → WritesImage new pair now ended
  writes_image ended up (machine.image_written arms meets is) =
      image_written arms (up (λ e. cc)) meets
      (of_machine new pair (with_image (side_layout pair) now arms) is)
  writes_image ended up (machine.stopped_after_image meets room generation is) =
      stopped_after_image (up (λ e. cc)) meets
      (of_down new pair (machine.compacting now Down unarmed 0) same is)
  writes_image ended up (machine.image_failed arms meets is) =
      image_failed arms (up (λ e. cc)) meets
      (of_machine new pair (machine.compacting now Halted arms 1) is)
  writes_image ended up (machine.image_stopped meets is) =
      image_stopped (up (λ e. cc)) meets
      (of_down new pair (machine.compacting now Down unarmed 0) same is)
  writes_image ended up (machine.image_refused refusal other is) =
      image_refused refusal other (of_machine new pair now is)

  pub reads_disk : (ended : Option Refusal) →
      machine.ReadsDisk (kept_as pair) new.journaled now ended → ReadsDisk new pair now ended
  reads_disk ended (machine.read calls next events some opens opened is) =
      read calls next events some opens opened (of_machine new pair next is)
  reads_disk ended (machine.stopped_reading refusal calls meets is) =
      stopped_reading refusal calls meets
      (of_down new pair (after_device now Down unarmed 0) same is)
  reads_disk ended (machine.failed_reading calls arms meets is) =
      failed_reading calls arms meets (of_machine new pair (after_device now Halted arms 1) is)
  reads_disk ended (machine.unread calls arms some meets is) =
      unread calls arms some meets (of_machine new pair (after_device now now.status arms 0) is)

pub starts : {D : Type 0} {disk : Ghosts D} (new : Replica D disk) (pair : ℕ) (now : Journal) →
    machine.Starts (kept_as pair) new.journaled now → Starts new pair now
starts new pair now it = record {
  calls = it.calls;
  next = it.next;
  events = it.added;
  opens = it.opens;
  opened = it.opened;
  is = of_machine new pair it.next it.is;
}
