-- A call that makes nothing of a replica, and one that passes on what its machine made.
use Rattle.std.proofs.Common.{◌≡◌, ◌≢◌, ◌⊎◌, ◌∙◌, Option, Some, None, Result}
use Rattle.std.proofs.Common.{Ok, Err, ap, inl, inr, refl, subst, sym}
use Rattle.std.proofs.lemmas.Option.{none-some, same_Some}
use Rattle.std.specs.Prelude.{◌↔◌, IfErr, IsErrAnd}
use Rattle.syn_disk.specs.declared.disk.Disk.{Ghosts}
use Rattle.syn_journal.specs.declared.error.JournalError.TheVariants as journal
use Rattle.syn_journal.specs.Endings.{BreaksIf, Grows, ended}
use Rattle.syn_journal.specs.Journaled as machine
use Rattle.syn_journal.proofs.Spent.{not_device}
use Rattle.syn_model.specs.Event.{Event}
use Rattle.syn_model.specs.History.{History}
use Rattle.syn_model.specs.Image.{image_spelling}
use Rattle.syn_model.specs.Refusal.{Refusal, Device, Halted}
use Rattle.syn_replica.specs.ErrorRefusals.{refusal_of}
use Rattle.syn_replica.specs.declared.error.ReplicaError.{ReplicaError}
use Rattle.syn_replica.specs.declared.error.ReplicaError.TheVariants.{Journal}
use Rattle.syn_replica.specs.Calls.{Compacts, KeepsWritten, Tries, Writes, calls_for}
use Rattle.syn_replica.specs.Growing.{itself}
use Rattle.syn_replica.specs.Growth.{IsGrown}
use Rattle.syn_replica.specs.Replica.{IsHalted, KeepsOrCompacts, KeepsReadings, SameMemory, Stands}
use Rattle.syn_replica.specs.Replica.{disk_of, journal_of, pair_of, standing_shown, tried_shown}
use Rattle.syn_replica.specs.declared.replica.Replica.{Replica}
use Rattle.syn_replica.proofs.RefusalLemmas.{halted_is}
use Rattle.syn_replica.proofs.GrowthLemmas.{stands_still}
use Rattle.syn_replica.proofs.StandLemmas.{keeps_now}
use Rattle.syn_journal.proofs.Calls.{no_call}

module _ {D : Type 0} {disk : Ghosts D} (replica : Replica D disk) where
  seen_now : (history : History) (event : Option Event) → Stands replica history →
      KeepsWritten replica replica history event (disk.seen (disk_of replica))
  seen_now history None stands = keeps_now replica history stands
  seen_now history (Some event) stands = inl (keeps_now replica history stands)

  tried_now : (event : Option Event) (refusal : Refusal) → refusal ≢ Device →
      Tries replica replica event (Some refusal)
  tried_now None refusal other = refl
  tried_now (Some event) refusal other = inr (other, refl)

  same_readings : KeepsReadings replica replica
  same_readings =
      record { memory = record { pair = refl; standing = refl }; left_is = refl; generation = refl }

  -- it was refused before any device call
  pub refused_early : (event : Option Event) (refusal : Refusal) → refusal ≢ Device →
      ((Some refusal ≡ Some Halted) ↔ IsHalted replica) →
      Writes replica replica event (Some refusal)
  refused_early event refusal other halted = record {
    written = tt;
    tried = tried_now event refusal other;
    grown = itself replica;
    seen = λ history stands. seen_now history event stands;
    halted = halted;
    halts = λ is. absurd (other is);
    untried = λ _. refl;
    readings = same_readings;
    unchanged = inr refl;
    device = record {
      failures = subst (λ b. Grows b (disk.failures (disk_of replica))
          (disk.failures (disk_of replica))) (sym (not_device refusal other)) refl;
      arms = subst (λ b. BreaksIf b (calls_for event) (disk.arms (disk_of replica))
          (disk.arms (disk_of replica))) (sym (not_device refusal other)) refl;
    };
  }

  -- there was nothing to write
  pub done_before : ¬ IsHalted replica → Writes replica replica None None
  done_before running = record {
    written = refl;
    tried = refl;
    grown = itself replica;
    seen = λ history stands. keeps_now replica history stands;
    halted = (λ is. absurd (none-some _ is), λ h. absurd (running h));
    halts = tt;
    untried = tt;
    readings = tt;
    unchanged = tt;
    device = record { failures = refl; arms = no_call (disk.arms (disk_of replica)) };
  }

  -- and so at an exit, while it runs
  pub exits_early : {X : Type 0} (result : Result X ReplicaError) (e : ReplicaError)
      (event : Option Event) → IsErrAnd result (λ x. x ≡ e) → ¬ IsHalted replica →
      refusal_of e ≢ Halted → refusal_of e ≢ Device →
      Writes replica replica event (ended refusal_of result)
  exits_early (Ok value) e event is running not other = absurd is
  exits_early (Err x) e event is running not other =
      refused_early event (refusal_of x) (λ device. other (sym (ap refusal_of is) ∙ device))
      (λ same. absurd (not (sym (ap refusal_of is) ∙ same_Some _ _ same)), λ h. absurd (running h))

-- what succeeded was not refused
pub not_refused : {X : Type 0} (x : X) (e : ReplicaError) →
    ◌≡◌ {A = Result X ReplicaError} (Ok x) (Err e) → ⊥
not_refused x e is = cc is

-- the same, where it may have been halted
pub exits_halted : {X Y D : Type 0} {disk : Ghosts D} (replica : Replica D disk)
    (result : Result X ReplicaError) (e : ReplicaError) (event : Option Event) →
    IsErrAnd result (λ x. x ≡ e) → refusal_of e ≢ Device →
    ((◌≡◌ {A = Result Y ReplicaError} (Err e) (Err (Journal journal.Halted))) ↔ IsHalted replica) →
    Writes replica replica event (ended refusal_of result)
exits_halted replica (Ok value) e event is other halted = absurd is
exits_halted replica (Err x) e event is other halted =
    let why = ap refusal_of is in
    refused_early replica event (refusal_of x) (λ device. other (sym why ∙ device)) (
      λ same. halted.0 (ap (λ y. Err y) (halted_is e (sym why ∙ same_Some _ _ same))),
      λ h. ap (λ r. Some r) why ∙ ap (ended refusal_of) (halted.1 h),
    )

-- a refusal but the device's leaves it standing
pub still_stands : {X D : Type 0} {disk : Ghosts D} (old new : Replica D disk)
    (event : Option Event) (result : Result X ReplicaError) →
    Writes old new event (ended refusal_of result) → (history : History) → Stands old history →
    IfErr result (λ e. (refusal_of e ≡ Device) ⊎ Stands new history)
still_stands old new event (Ok value) writes history stands = tt
still_stands old new event (Err e) writes history stands = elim writes.unchanged
    as (λ _. (refusal_of e ≡ Device) ⊎ Stands new history) [
      | inl device ↦ inl device
      | inr same ↦ inr (stands_still old new writes.readings.memory.pair
          writes.readings.memory.standing same history stands)
    ]

-- what a machine's checkpoint makes of a replica
pub compacts : {D : Type 0} {disk : Ghosts D} (old new : Replica D disk) (why : Option Refusal) →
    machine.Compacts (journal_of old) (journal_of new)
    (image_spelling (pair_of old) (standing_shown old)) why →
    SameMemory old new → tried_shown new ≡ tried_shown old → IsGrown old new →
    ((history : History) → Stands old history →
    KeepsOrCompacts old history (disk.seen (disk_of new))) → Compacts old new why
compacts old new None told memory tried grown seen = record {
  image = told.acknowledged refl;
  generation = told.generation;
  memory = memory;
  tried = tried;
  grown = grown;
  seen = seen;
  halted = told.halted;
  halts = tt;
  readings = tt;
  unchanged = tt;
  device = told.device;
}
compacts old new (Some refusal) told memory tried grown seen = record {
  image = tt;
  generation = tt;
  memory = memory;
  tried = tried;
  grown = grown;
  seen = seen;
  halted = told.halted;
  halts = λ device. told.halts (ap (λ w. Some w) device);
  readings = record {
    memory = memory;
    left_is = told.left_is (λ none. none-some _ (sym none));
    generation = told.generation;
  };
  unchanged = elim told.unchanged as (λ _. (refusal ≡ Device) ⊎ (journal_of new ≡ journal_of old)) [
    | inl none ↦ absurd (none-some _ (sym none))
    | inr (inl device) ↦ inl (same_Some _ _ device)
    | inr (inr same) ↦ inr same
  ];
  device = told.device;
}
