-- The write of a record is what its machine does.
use Rattle.std.proofs.Common.{◌≡◌, ◌≢◌, ◌∙◌, ◌≤◌, ◌-◌, ◌++◌, ℕ, List, [], ◌∷◌, Option, Some}
use Rattle.std.proofs.Common.{None, refl, sym, ap, subst, inl, inr}
use Rattle.std.proofs.lemmas.Option.{none-some}
use Rattle.syn_disk.specs.declared.disk.Disk.{Ghosts}
use Rattle.syn_machine.specs.Machine.{Arms, IsBefore, Meets, Status, Up, Halted, Down, cut}
use Rattle.syn_machine.specs.Machine.{record_size, unarmed, with_record}
use Rattle.syn_machine.specs.Machine as model
use Rattle.syn_journal.specs.Layout.{IsBeforeOrAfter, LeftBehindPayload, bytes_left, with_payload}
use Rattle.syn_model.specs.Path.{Bytes}
use Rattle.syn_model.specs.Refusal as reasons
use Rattle.syn_model.specs.Refusal.{Refusal, Device}
use Rattle.syn_journal.specs.Calls.{armed_at, goes_on, goes_down}
use Rattle.syn_journal.specs.Journaled.{Appends, disk_of, generation_of, journal_of}
use Rattle.syn_journal.specs.Journaled.{state_of}
use Rattle.syn_journal.specs.Machines.{Adds, IsLawful, IsMachine, KeptAs, LeavesMachine, Runs}
use Rattle.syn_journal.specs.Machines.{StandsAs, WritesRecord, failed, refused, stopped}
use Rattle.syn_journal.specs.Machines.{stopped_after, writing, written}
use Rattle.syn_journal.specs.Meaning.{MayBeOf, as_kept, with_record as has_record}
use Rattle.syn_journal.specs.declared.journaled.Journaled.{Journaled}
use Rattle.syn_journal.proofs.CallLemmas.{broken_calls_meet, made_calls_meet, stops_after}
use Rattle.syn_journal.proofs.MachineLemmas.{device_or_other, runs_leave, runs_up, still}

module _ {D S V W : Type 0} {disk : Ghosts D} (kept_as : KeptAs S V W)
    (old new : Journaled D S disk) (spelling : S → Bytes) (machine : model.Journaled V W)
    (added : W) (payload : Bytes) (Leads : S → Type 0) (is : IsMachine kept_as old machine)
    (adds : Adds kept_as machine added payload Leads) (lawful : IsLawful kept_as spelling)
    (less : LeftBehindPayload)
    (counts_now : (d : D) (t : ℕ) (c : List ℕ) → t ≤ disk.moment d → disk.may_leave d c →
    disk.left_since d t c) where
  abbrev next : Arms → model.Journaled V W
  next arms = with_record kept_as.keeping.layout machine added arms

  met : {status : Status} {arms : Arms} {failures : ℕ} →
      Meets (armed_at (disk.arms (disk_of old))) 4 status arms failures →
      Meets machine.arms 4 status arms failures
  met {status} {arms} {failures} meets =
      subst (λ a. Meets a 4 status arms failures) (sym is.armed) meets

  module _ (was : Runs kept_as old machine) where
    -- behind the record as many bytes less are left
    room : machine.room - record_size (kept_as.keeping.layout.payload added)
        ≡ bytes_left (with_payload was.value payload)
    room =
        ap (λ n. n - record_size (kept_as.keeping.layout.payload added)) was.means.room
        ∙ (ap (λ p. bytes_left was.value - record_size p) (sym adds.spelled)
        ∙ sym (less was.value payload))

    stands : kept_as.keeping.Stands was.value.image (was.value.payloads ++ payload ∷ [])
        (kept_as.keeping.layout.after machine.value added)
    stands =
        subst (λ p. kept_as.keeping.Stands was.value.image (was.value.payloads ++ p ∷ [])
        (kept_as.keeping.layout.after machine.value added)) (sym adds.spelled)
        (lawful.more was.value.image was.value.payloads machine.value added was.means.stands
        adds.can)

    -- ---- it is written

    module _ (appends : Appends (journal_of old) (journal_of new) payload None) where
      runs_with : (arms : Arms) → Runs kept_as new (next arms)
      runs_with arms = record {
        value = with_payload was.value payload;
        runs = appends.acknowledged refl was.value was.runs;
        means = record {
          stands = stands;
          room = room;
          numbered = was.means.numbered ∙ sym appends.generation;
        };
      }

      pub is_written : machine.status ≡ Up → Leads (state_of new) →
          WritesRecord kept_as new machine added None
      is_written up leads =
          elim (made_calls_meet 4 (disk.arms (disk_of old)) (disk.arms (disk_of new)) is.goes
          appends.device.arms) as (λ _. WritesRecord kept_as new machine added None) [
            | goes_on goes meets ↦
                let arms = armed_at (disk.arms (disk_of new)) in
                written arms (met meets) (record {
                  remembers = adds.leads (state_of new) leads;
                  stands = runs_up kept_as new (next arms) machine.status up (runs_with arms);
                  armed = refl;
                  goes = goes;
                  leaves = runs_leave kept_as new (next arms) (runs_with arms);
                })
            | goes_down down meets ↦
                let stop = stops_after 4 (disk.arms (disk_of old)) (disk.arms (disk_of new)) is.goes
                appends.device.arms down in
                stopped_after (met meets) (ap (λ a. a.stop) is.armed ∙ stop.0)
                (subst (λ a. IsBefore 4 a.fail) (sym is.armed) stop.1) (record {
                  down = refl;
                  stopped = down;
                  leaves = runs_leave kept_as new (cut (next unarmed)) (record {
                    value = with_payload was.value payload;
                    runs = appends.acknowledged refl was.value was.runs;
                    means = record {
                      stands = stands;
                      room = room;
                      numbered = was.means.numbered ∙ sym appends.generation;
                    };
                  });
                })
          ]

    -- ---- its device failed

    module _ (appends : Appends (journal_of old) (journal_of new) payload (Some Device)) where
      leaves_either : (status : Status) (arms : Arms) (failures : ℕ) →
          LeavesMachine kept_as new (writing machine added status arms failures)
      leaves_either status arms failures bytes left =
          let moments = appends.any_moment was.value was.runs in
          by (moments.each bytes
          (counts_now (disk_of new) (disk.moment (disk_of old)) bytes moments.later left))
        where
          by : IsBeforeOrAfter was.value (generation_of old) (with_payload was.value payload)
              (generation_of old) bytes →
              MayBeOf kept_as.keeping (writing machine added status arms failures) bytes
          by (inl has) = record {
            value = was.value;
            generation = generation_of old;
            journal = has;
            means = as_kept (record {
              stands = was.means.stands;
              room = was.means.room;
              numbered = was.means.numbered;
            });
          }
          by (inr has) = record {
            value = with_payload was.value payload;
            generation = generation_of old;
            journal = has;
            means = has_record (record {
              added = added;
              writing = refl;
              can_add = adds.can;
              stands = stands;
              room = room;
              numbered = was.means.numbered;
            });
          }

      pub is_broken : state_of new ≡ state_of old →
          WritesRecord kept_as new machine added (Some Device)
      is_broken same =
          elim (broken_calls_meet 4 (disk.arms (disk_of old)) (disk.arms (disk_of new)) is.goes
          appends.device.arms) as (λ _. WritesRecord kept_as new machine added (Some Device)) [
            | goes_on goes meets ↦
                let arms = armed_at (disk.arms (disk_of new)) in
                failed arms (met meets) (record {
                  remembers = subst (λ s. kept_as.Remembers s machine.value) (sym same)
                      is.remembers;
                  stands = appends.halts refl;
                  armed = refl;
                  goes = goes;
                  leaves = leaves_either Halted arms 1;
                })
            | goes_down down meets ↦
                stopped (met meets)
                (record { down = refl; stopped = down; leaves = leaves_either Down unarmed 0 })
          ]

  -- ---- however it ended

  module _ (why : Option Refusal) (appends : Appends (journal_of old) (journal_of new) payload why)
      (leads : why ≡ None → Leads (state_of new))
      (same : (refusal : Refusal) → why ≡ Some refusal → state_of new ≡ state_of old) where
    kept_still : (refusal : Refusal) → why ≡ Some refusal → refusal ≢ Device →
        WritesRecord kept_as new machine added (Some refusal)
    kept_still refusal some other =
        refused refusal other
        (elim appends.unchanged as (λ _. IsMachine kept_as new machine) [
          | inl none ↦ absurd (none-some _ (sym none ∙ some))
          | inr (inl device) ↦ absurd (other (same_refusal (sym some ∙ device)))
          | inr (inr journals) ↦ still kept_as old new machine journals (same refusal some) is
        ])
      where
        same_refusal : Some refusal ≡ Some Device → refusal ≡ Device
        same_refusal e = cc

    pub records : WritesRecord kept_as new machine added why
    records = by machine.status refl is.stands
      where
        broken : (refusal : Refusal) → why ≡ Some refusal → Runs kept_as old machine →
            refusal ≡ Device → WritesRecord kept_as new machine added (Some refusal)
        broken refusal some was device =
            subst (λ r. WritesRecord kept_as new machine added (Some r)) (sym device)
            (is_broken was (subst (Appends (journal_of old) (journal_of new) payload)
            (some ∙ ap (λ r. Some r) device) appends) (same refusal some))

        running : machine.status ≡ Up → Runs kept_as old machine → (ended : Option Refusal) →
            why ≡ ended → WritesRecord kept_as new machine added ended
        running up was None none =
            is_written was
            (subst (Appends (journal_of old) (journal_of new) payload) none appends) up (leads none)
        running up was (Some refusal) some =
            elim (device_or_other refusal)
            as (λ _. WritesRecord kept_as new machine added (Some refusal)) [
              | inl device ↦ broken refusal some was device
              | inr other ↦ kept_still refusal some other
            ]

        by : (status : Status) → machine.status ≡ status → StandsAs kept_as old machine status →
            WritesRecord kept_as new machine added why
        by Up up was = running up was why refl
        by Halted at halted =
            let is_halted = appends.halted.1 halted in
            subst (WritesRecord kept_as new machine added) (sym is_halted)
            (kept_still reasons.Halted is_halted (λ e. cc))
        by Down at none = absurd none
