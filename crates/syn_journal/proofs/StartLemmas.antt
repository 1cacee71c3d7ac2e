-- The first opening, of a machine that is down, is what that machine does.
use Rattle.std.proofs.Common.{◌≡◌, ◌∙◌, ◌<◌, ◌^◌, ℕ, false, List, Option, Some, None, refl, sym}
use Rattle.std.proofs.Common.{subst, inl, inr}
use Rattle.syn_disk.specs.Arms.{Arms as DiskArms, is_stopped}
use Rattle.syn_disk.specs.declared.disk.Disk.{Ghosts}
use Rattle.syn_machine.specs.Machine.{Meets, Status, Up, Halted, Down, unarmed}
use Rattle.syn_machine.specs.Machine as model
use Rattle.syn_journal.specs.declared.error.JournalError.{JournalError}
use Rattle.syn_model.specs.Path.{Bytes}
use Rattle.syn_model.specs.Refusal.{Refusal, Device, Memory}
use Rattle.syn_journal.specs.Calls.{CallsMeet, armed_at, goes_on, goes_down}
use Rattle.syn_journal.specs.Endings.{Reads}
use Rattle.syn_journal.specs.Journaled.{Opened, disk_of, state_of}
use Rattle.syn_journal.specs.Machines.{IsReadAs, KeptAs, Rests, RestsStill, Starts, device_failed}
use Rattle.syn_journal.specs.Machines.{without_memory}
use Rattle.syn_journal.specs.Meaning.{MayBeOf, MayMean, as_kept, compacted, with_record}
use Rattle.syn_journal.specs.Openings.{NotOpened}
use Rattle.syn_journal.specs.declared.journaled.Journaled.{Journaled}
use Rattle.syn_journal.proofs.CallLemmas.{broken_calls_meet, made_reads_meet, never_stops}
use Rattle.syn_journal.proofs.CallLemmas.{still_unarmed}
use Rattle.syn_journal.proofs.DiskLemmas.{may_be_still}
use Rattle.syn_journal.proofs.OpeningLemmas.{opens_to}
use Rattle.syn_journal.proofs.ReadLemmas.{is_next, refused_so}

module _ {D S V W E : Type 0} (disk : Ghosts D) (number : ℕ) (kept_as : KeptAs S V W)
    (pair : S → ℕ) (gives : Bytes → List Bytes → S → Type 0) (follows : S → S → Type 0)
    (unread : E → Option ℕ → Bytes → List Bytes → Type 0)
    (unread_again : E → S → Bytes → List Bytes → Type 0) (of_journal : JournalError → E)
    (why : E → Refusal)
    (lawful : IsReadAs number kept_as pair gives follows unread unread_again of_journal why)
    (device : D) (machine : model.Journaled V W)
    (rests : Rests disk.arms disk.may_leave kept_as.keeping device machine)
    (stays : (d : D) → disk.may_leave d (disk.seen d)) where
  down_here : MayBeOf kept_as.keeping machine (disk.seen device)
  down_here = rests.leaves (disk.seen device) (stays device)

  -- nothing is armed, and no stop comes
  goes_so : (now : DiskArms) (calls : ℕ) (status : Status) (failed : ℕ) →
      CallsMeet (disk.arms device) now calls status failed → (is_stopped now ≡ false)
      × Meets machine.arms calls status (armed_at now) failed × (armed_at now ≡ unarmed)
  goes_so now calls status failed (goes_on goes meets) = (
    goes,
    subst (λ a. Meets a calls status (armed_at now) failed) (rests.armed ∙ sym rests.unarmed_is)
        meets,
    still_unarmed calls failed status (armed_at now)
        (subst (λ a. Meets a calls status (armed_at now) failed) rests.armed meets),
  )
  goes_so now calls status failed (goes_down stopped meets) =
      absurd (never_stops calls 0 unarmed
      (subst (λ a. Meets a calls Down unarmed 0) rests.armed meets))

  pub starts : (new : Journaled D S disk) → pair (state_of new) ≡ number →
      Opened pair gives (disk.seen device) new → Reads disk None device (disk_of new) →
      Starts kept_as new machine
  starts new of_number opened reads =
      let count =
      made_reads_meet 1 (disk.arms device) (disk.arms (disk_of new)) rests.goes reads.arms in
      let so = goes_so (disk.arms (disk_of new)) count.0 Up 0 count.2 in
      let it = opens_to kept_as.keeping machine count.0 (armed_at (disk.arms (disk_of new)))
      down_here.value down_here.generation so.1 down_here.means in
      record {
        calls = count.0;
        next = it.new;
        added = it.added;
        opens = it.opens;
        opened = it.opened;
        is =
            is_next number kept_as pair gives follows unread unread_again of_journal why lawful
            machine (disk.seen device) down_here new of_number opened reads.untouched.same
            it.new it.opened it.means it.armed so.0;
      }

  module _ (back : D) where
    fails_so : Reads disk (Some Device) device back →
        RestsStill disk.arms disk.may_leave kept_as.keeping back machine Device
    fails_so reads =
        let sometime = reads.arms in
        let so = goes_so (disk.arms back) sometime.0 Halted 1
        (broken_calls_meet sometime.0 (disk.arms device) (disk.arms back) rests.goes sometime.1) in
        device_failed sometime.0 (armed_at (disk.arms back)) so.1 (record {
          down = refl;
          unarmed_is = so.2;
          armed = so.2;
          goes = so.0;
          leaves = λ bytes left.
              may_be_still kept_as.keeping machine Down (armed_at (disk.arms back)) 1 bytes
              (rests.leaves bytes (reads.untouched.nothing_new bytes left));
        })

    has_none : Reads disk (Some Memory) device back →
        RestsStill disk.arms disk.may_leave kept_as.keeping back machine Memory
    has_none reads =
        let count = made_reads_meet 1 (disk.arms device) (disk.arms back) rests.goes reads.arms in
        let so = goes_so (disk.arms back) count.0 Up 0 count.2 in
        without_memory (record {
          down = rests.down;
          unarmed_is = rests.unarmed_is;
          armed = so.2;
          goes = so.0;
          leaves = λ bytes left. rests.leaves bytes (reads.untouched.nothing_new bytes left);
        })

    some_value : MayMean kept_as.keeping machine down_here.value down_here.generation →
        (kept : V) × kept_as.keeping.Stands down_here.value.image down_here.value.payloads kept
    some_value (as_kept means) = (machine.value, means.stands)
    some_value (with_record means) =
        (kept_as.keeping.layout.after machine.value means.added, means.stands)
    some_value (compacted means) = (machine.value, means.stands)

    pub rests_still : (e : E) → number < 2 ^ 64 →
        NotOpened of_journal (unread e (Some number)) e (disk.seen device) →
        Reads disk (Some (why e)) device back →
        RestsStill disk.arms disk.may_leave kept_as.keeping back machine (why e)
    rests_still e fits refused reads =
        let there = some_value down_here.means in
        let cause = refused_so number kept_as pair gives follows unread unread_again
        of_journal why lawful machine (disk.seen device) down_here e (unread e (Some number))
        (lawful.read e there.0 down_here.value.image down_here.value.payloads fits there.1)
        refused in
        elim cause as
        (λ _. RestsStill disk.arms disk.may_leave kept_as.keeping back machine (why e)) [
          | inl is_device ↦
              subst (RestsStill disk.arms disk.may_leave kept_as.keeping back machine)
              (sym is_device)
              (fails_so (subst (λ w. Reads disk (Some w) device back) is_device reads))
          | inr is_memory ↦
              subst (RestsStill disk.arms disk.may_leave kept_as.keeping back machine)
              (sym is_memory)
              (has_none (subst (λ w. Reads disk (Some w) device back) is_memory reads))
        ]
