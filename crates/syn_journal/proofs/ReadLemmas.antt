-- What is read of a disk is what its machine keeps, and another opening is what its machine does.
use Rattle.std.proofs.Common.{◌≡◌, ◌≢◌, ◌⊎◌, ◌∙◌, ◌<◌, ◌^◌, ℕ, List, Option, Some, None, Result}
use Rattle.std.proofs.Common.{Ok, Err, false, refl, sym, ap, subst, inl, inr}
use Rattle.std.specs.Prelude.{IfErr, OnOk}
use Rattle.syn_disk.specs.Arms.{is_stopped}
use Rattle.syn_disk.specs.declared.disk.Disk.{Ghosts}
use Rattle.syn_machine.specs.Machine.{Arms, Meets, Status, Up, Halted, Down, after_device, unarmed}
use Rattle.syn_machine.specs.Machine as model
use Rattle.syn_journal.specs.Journal as journal
use Rattle.syn_journal.specs.Layout.{HasJournal, Value, meaning}
use Rattle.syn_journal.specs.Refusals.{IsOpenRefusal, refusal_of}
use Rattle.syn_journal.specs.declared.error.JournalError.{JournalError}
use Rattle.syn_journal.specs.declared.error.JournalError.TheVariants as by_journal
use Rattle.syn_model.specs.Path.{Bytes}
use Rattle.syn_model.specs.Refusal.{Refusal, Device, Memory}
use Rattle.syn_journal.specs.Calls.{armed_at, goes_on, goes_down}
use Rattle.syn_journal.specs.Endings.{Reads, ended}
use Rattle.syn_journal.specs.Journaled.{IsHalted, KeepsReadings, Opened, disk_of, generation_of}
use Rattle.syn_journal.specs.Journaled.{journal_of, state_of}
use Rattle.syn_journal.specs.Machines.{IsMachine, IsReadAs, KeptAs, LeavesMachine}
use Rattle.syn_journal.specs.Machines.{ReadsDisk, Runs, StandsAs, failed_reading, read}
use Rattle.syn_journal.specs.Machines.{stopped_reading, unread as unread_disk}
use Rattle.syn_journal.specs.Meaning.{IsOpened, MayBeOf, MayMean, MeansAsKept, as_kept, compacted}
use Rattle.syn_journal.specs.Meaning.{with_record}
use Rattle.syn_journal.specs.Openings.{NotOpened}
use Rattle.syn_journal.specs.declared.journaled.Journaled.{Journaled}
use Rattle.syn_journal.proofs.CallLemmas.{broken_calls_meet, made_reads_meet}
use Rattle.syn_journal.proofs.DiskLemmas.{may_be_still, one_generation, one_value}
use Rattle.syn_journal.proofs.MachineLemmas.{runs_leave, runs_up}
use Rattle.syn_journal.proofs.Meanings.{no_value, one_value as one_meaning}
use Rattle.syn_journal.proofs.OpeningLemmas.{opens_to}

-- ---- what is read of a disk is what its machine keeps

module _ {S V W E : Type 0} (number : ℕ) (kept_as : KeptAs S V W)
    (pair : S → ℕ) (gives : Bytes → List Bytes → S → Type 0) (follows : S → S → Type 0)
    (unread : E → Option ℕ → Bytes → List Bytes → Type 0)
    (unread_again : E → S → Bytes → List Bytes → Type 0) (of_journal : JournalError → E)
    (why : E → Refusal)
    (lawful : IsReadAs number kept_as pair gives follows unread unread_again of_journal why)
    (machine : model.Journaled V W) (bytes : Bytes) (here : MayBeOf kept_as.keeping machine bytes)
  where
    -- it was read
    module _ {D : Type 0} {disk : Ghosts D} (new : Journaled D S disk)
        (of_number : pair (state_of new) ≡ number)
        (opened : Opened pair gives bytes new) (same : disk.seen (disk_of new) ≡ bytes) where
      -- whatever stands there is remembered
      remembers : (kept : V) →
          kept_as.keeping.Stands here.value.image here.value.payloads kept →
          kept_as.Remembers (state_of new) kept
      remembers kept stands =
          let some = lawful.some here.value.image here.value.payloads kept stands in
          let fits : pair some.0 < 2 ^ 64 = subst (λ n. n < 2 ^ 64)
          (of_number ∙ sym (lawful.of_pair some.0 kept some.1)) opened.fits in
          let same = opened.one some.0 fits (record {
            value = here.value;
            means = here.journal.means;
            given = lawful.given here.value.image here.value.payloads kept some.0 stands some.1;
          }) in
          subst (λ s. kept_as.Remembers s kept) same some.1

      read_back : HasJournal bytes opened.value (generation_of new)
      read_back =
          subst (λ b. HasJournal b opened.value (generation_of new)) same opened.runs.holds

      value_is : here.value ≡ opened.value
      value_is = one_value bytes here.value opened.value _ _ here.journal read_back

      generation_is : here.generation ≡ generation_of new
      generation_is = one_generation bytes here.value opened.value _ _ here.journal read_back

      runs_as : (next : model.Journaled V W) →
          MeansAsKept kept_as.keeping next here.value here.generation → Runs kept_as new next
      runs_as next means = record {
        value = opened.value;
        runs = opened.runs;
        means =
            subst (λ g. MeansAsKept kept_as.keeping next opened.value g) generation_is
            (subst (λ v. MeansAsKept kept_as.keeping next v here.generation) value_is means);
      }

      pub is_next : (next : model.Journaled V W) → IsOpened next →
          MeansAsKept kept_as.keeping next here.value here.generation →
          next.arms ≡ armed_at (disk.arms (disk_of new)) →
          is_stopped (disk.arms (disk_of new)) ≡ false → IsMachine kept_as new next
      is_next next opened_is means armed goes = record {
        remembers = remembers next.value means.stands;
        stands = runs_up kept_as new next next.status opened_is.up (runs_as next means);
        armed = armed;
        goes = goes;
        leaves = runs_leave kept_as new next (runs_as next means);
      }

    -- it was refused
    refused_by_journal : (by : JournalError) → IsOpenRefusal by (meaning bytes) →
        (refusal_of by ≡ Device) ⊎ (refusal_of by ≡ Memory)
    refused_by_journal by_journal.Device h = inl refl
    refused_by_journal by_journal.Memory h = inr refl
    refused_by_journal by_journal.NoImage h =
        absurd (no_value (meaning bytes) here.value _ here.journal.means h)
    refused_by_journal by_journal.Damaged h =
        absurd (no_value (meaning bytes) here.value _ here.journal.means h)
    refused_by_journal by_journal.Full h = absurd h
    refused_by_journal by_journal.JournalFull h = absurd h
    refused_by_journal by_journal.Halted h = absurd h

    pub refused_so : (e : E) (IsUnread : Bytes → List Bytes → Type 0) →
        (IsUnread here.value.image here.value.payloads → why e ≡ Memory) →
        NotOpened of_journal IsUnread e bytes → (why e ≡ Device) ⊎ (why e ≡ Memory)
    refused_so e IsUnread only (inl h) =
        let is_why : why e ≡ refusal_of h.0 = ap why h.1 ∙ lawful.by_journal h.0 in
        elim (refused_by_journal h.0 h.2) as (λ _. (why e ≡ Device) ⊎ (why e ≡ Memory))
        [ inl device ↦ inl (is_why ∙ device) | inr memory ↦ inr (is_why ∙ memory) ]
    refused_so e IsUnread only (inr h) =
        inr (only (subst (λ (v : Value). IsUnread v.image v.payloads)
        (one_meaning (meaning bytes) h.0 here.value h.1 here.journal.means) h.2))

-- ---- another opening

module _ {D S V W E : Type 0} {disk : Ghosts D} (number : ℕ) (kept_as : KeptAs S V W)
    (pair : S → ℕ) (gives : Bytes → List Bytes → S → Type 0) (follows : S → S → Type 0)
    (unread : E → Option ℕ → Bytes → List Bytes → Type 0)
    (unread_again : E → S → Bytes → List Bytes → Type 0) (of_journal : JournalError → E)
    (why : E → Refusal)
    (lawful : IsReadAs number kept_as pair gives follows unread unread_again of_journal why)
    (old new : Journaled D S disk) (machine : model.Journaled V W)
    (is : IsMachine kept_as old machine) (stays : (d : D) → disk.may_leave d (disk.seen d)) where
  abbrev arms_now : Arms
  arms_now = armed_at (disk.arms (disk_of new))

  here : MayBeOf kept_as.keeping machine (disk.seen (disk_of old))
  here = is.leaves (disk.seen (disk_of old)) (stays (disk_of old))

  met : {calls : ℕ} {status : Status} {arms : Arms} {failures : ℕ} →
      Meets (armed_at (disk.arms (disk_of old))) calls status arms failures →
      Meets machine.arms calls status arms failures
  met {calls} {status} {arms} {failures} meets =
      subst (λ a. Meets a calls status arms failures) (sym is.armed) meets

  -- ---- nothing is written, so it may be the machine's still

  module _ (ended_so : Option Refusal) (reads : Reads disk ended_so (disk_of old) (disk_of new))
    where
      leaves_still : (status : Status) (arms : Arms) (failures : ℕ) →
          LeavesMachine kept_as new (after_device machine status arms failures)
      leaves_still status arms failures bytes left =
          may_be_still kept_as.keeping machine status arms failures bytes
          (is.leaves bytes (reads.untouched.nothing_new bytes left))

  -- ---- it was read

  module _ (opened : Opened pair gives (disk.seen (disk_of old)) new)
      (after : follows (state_of old) (state_of new))
      (reads : Reads disk None (disk_of old) (disk_of new)) where
    of_number : pair (state_of new) ≡ number
    of_number =
        lawful.same_pair (state_of old) (state_of new) after
        ∙ lawful.of_pair (state_of old) machine.value is.remembers

    pub is_read : ReadsDisk kept_as new machine None
    is_read =
        let count = made_reads_meet 1 (disk.arms (disk_of old)) (disk.arms (disk_of new)) is.goes
        reads.arms in
        elim count.2 as (λ _. ReadsDisk kept_as new machine None) [
          | goes_on goes meets ↦
              let it = opens_to kept_as.keeping machine count.0 arms_now here.value here.generation
              (met meets) here.means in
              read count.0 it.new it.added count.1 it.opens it.opened
              (is_next number kept_as pair gives follows unread unread_again of_journal why lawful
              machine (disk.seen (disk_of old)) here new of_number opened reads.untouched.same
              it.new it.opened it.means it.armed goes)
          | goes_down down meets ↦
              stopped_reading None count.0 (met meets) (record {
                down = refl;
                stopped = down;
                leaves = leaves_still None reads Down unarmed 0;
              })
        ]

  -- ---- it was refused

  module _ (e : E) (same : state_of new ≡ state_of old) where
    remembers_still : kept_as.Remembers (state_of new) machine.value
    remembers_still = subst (λ s. kept_as.Remembers s machine.value) (sym same) is.remembers

    -- its device failed
    module _ (halts : why e ≢ Memory → IsHalted new) (device : why e ≡ Device)
        (reads : Reads disk (Some Device) (disk_of old) (disk_of new)) where
      pub is_failed : ReadsDisk kept_as new machine (Some Device)
      is_failed =
          let sometime = reads.arms in
          elim (broken_calls_meet sometime.0 (disk.arms (disk_of old)) (disk.arms (disk_of new))
          is.goes sometime.1) as (λ _. ReadsDisk kept_as new machine (Some Device)) [
            | goes_on goes meets ↦
                failed_reading sometime.0 arms_now (met meets) (record {
                  remembers = remembers_still;
                  stands = halts (λ memory. no_memory (sym device ∙ memory));
                  armed = refl;
                  goes = goes;
                  leaves = leaves_still (Some Device) reads Halted arms_now 1;
                })
            | goes_down down meets ↦
                stopped_reading (Some Device) sometime.0 (met meets) (record {
                  down = refl;
                  stopped = down;
                  leaves = leaves_still (Some Device) reads Down unarmed 0;
                })
          ]
        where
          no_memory : Device ≡ Memory → ⊥
          no_memory is = cc

    -- or memory was refused
    module _ (memory : why e ≡ Memory) (halted : IsHalted old → IsHalted new)
        (room : (value : Value) → journal.Stands (journal_of old) value → KeepsReadings old new)
        (unchanged : (value : Value) → journal.Stands (journal_of old) value →
        gives value.image value.payloads (state_of old) →
        (why e ≡ Device) ⊎ journal.Stands (journal_of new) value)
        (reads : Reads disk (Some Memory) (disk_of old) (disk_of new)) where
      abbrev later : model.Journaled V W
      later = after_device machine machine.status arms_now 0

      runs_still : Runs kept_as old machine → Runs kept_as new later
      runs_still was =
          let given = lawful.given was.value.image was.value.payloads machine.value (state_of old)
          was.means.stands is.remembers in
          elim (unchanged was.value was.runs given) as (λ _. Runs kept_as new later) [
            | inl device ↦ absurd (no_device (sym device ∙ memory))
            | inr runs ↦ record {
              value = was.value;
              runs = runs;
              means = record {
                stands = was.means.stands;
                room = was.means.room;
                numbered = was.means.numbered ∙ sym (room was.value was.runs).generation;
              };
            }
          ]
        where
          no_device : Device ≡ Memory → ⊥
          no_device is = cc

      stands_still : (status : Status) → StandsAs kept_as old machine status →
          StandsAs kept_as new later status
      stands_still Up was = runs_still was
      stands_still Halted was = halted was
      stands_still Down none = none

      pub is_unread : ReadsDisk kept_as new machine (Some Memory)
      is_unread =
          let count = made_reads_meet 1 (disk.arms (disk_of old)) (disk.arms (disk_of new)) is.goes
          reads.arms in
          elim count.2 as (λ _. ReadsDisk kept_as new machine (Some Memory)) [
            | goes_on goes meets ↦
                unread_disk count.0 arms_now count.1 (met meets) (record {
                  remembers = remembers_still;
                  stands = stands_still machine.status is.stands;
                  armed = refl;
                  goes = goes;
                  leaves = leaves_still (Some Memory) reads machine.status arms_now 0;
                })
            | goes_down down meets ↦
                stopped_reading (Some Memory) count.0 (met meets) (record {
                  down = refl;
                  stopped = down;
                  leaves = leaves_still (Some Memory) reads Down unarmed 0;
                })
          ]

  -- ---- why it was refused

  not_read : (e : E) → unread_again e (state_of old) here.value.image here.value.payloads →
      MayMean kept_as.keeping machine here.value here.generation → why e ≡ Memory
  not_read e h (as_kept means) =
      lawful.read_again e (state_of old) machine.value machine.value here.value.image
      here.value.payloads is.remembers (inl refl) means.stands h
  not_read e h (with_record means) =
      lawful.read_again e (state_of old) machine.value
      (kept_as.keeping.layout.after machine.value means.added) here.value.image here.value.payloads
      is.remembers (inr (means.added, means.can_add, refl)) means.stands h
  not_read e h (compacted means) =
      lawful.read_again e (state_of old) machine.value machine.value here.value.image
      here.value.payloads is.remembers (inl refl) means.stands h

  -- ---- however it ended

  pub reads_disk : (result : Result Unit E) →
      OnOk result (Opened pair gives (disk.seen (disk_of old)) new) →
      OnOk result (follows (state_of old) (state_of new)) →
      IfErr result (λ e. NotOpened of_journal (unread_again e (state_of old)) e
      (disk.seen (disk_of old))) →
      IfErr result (λ _. state_of new ≡ state_of old) →
      IfErr result (λ e. why e ≢ Memory → IsHalted new) →
      IfErr result (λ _. IsHalted old → IsHalted new) →
      ((value : Value) → journal.Stands (journal_of old) value →
      IfErr result (λ _. KeepsReadings old new)) →
      ((value : Value) → journal.Stands (journal_of old) value →
      gives value.image value.payloads (state_of old) →
      IfErr result (λ e. (why e ≡ Device) ⊎ journal.Stands (journal_of new) value)) →
      Reads disk (ended why result) (disk_of old) (disk_of new) →
      ReadsDisk kept_as new machine (ended why result)
  reads_disk (Ok x) opened after refused same halts halted room unchanged reads =
      is_read opened after reads
  reads_disk (Err e) opened after refused same halts halted room unchanged reads =
      let cause = refused_so number kept_as pair gives follows unread unread_again of_journal
      why lawful machine (disk.seen (disk_of old)) here e (unread_again e (state_of old))
      (λ h. not_read e h here.means) refused in
      elim cause as (λ _. ReadsDisk kept_as new machine (Some (why e))) [
        | inl device ↦
            subst (λ w. ReadsDisk kept_as new machine (Some w)) (sym device)
            (is_failed e same halts device
            (subst (λ w. Reads disk (Some w) (disk_of old) (disk_of new)) device reads))
        | inr memory ↦
            subst (λ w. ReadsDisk kept_as new machine (Some w)) (sym memory)
            (is_unread e same memory halted room unchanged
            (subst (λ w. Reads disk (Some w) (disk_of old) (disk_of new)) memory reads))
      ]
