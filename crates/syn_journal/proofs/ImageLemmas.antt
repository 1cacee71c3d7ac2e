-- A checkpoint is what its machine does.
use Rattle.std.proofs.Common.{◌≡◌, ◌≢◌, ◌∙◌, ◌≤◌, ◌+◌, ℕ, suc, List, Option, Some, None}
use Rattle.std.proofs.Common.{[], refl, sym, ap, subst, inl, inr, arith}
use Rattle.std.proofs.lemmas.Option.{none-some}
use Rattle.syn_disk.specs.declared.disk.Disk.{Ghosts}
use Rattle.syn_machine.specs.Machine.{Arms, Meets, Status, Up, Halted, Down, room_after, unarmed}
use Rattle.syn_machine.specs.Machine.{with_image}
use Rattle.syn_machine.specs.Machine as model
use Rattle.syn_journal.specs.Journal as journal
use Rattle.syn_journal.specs.Layout.{IsBeforeOrAfter, image_alone}
use Rattle.syn_model.specs.Path.{Bytes}
use Rattle.syn_model.specs.Refusal as reasons
use Rattle.syn_model.specs.Refusal.{Refusal, Device}
use Rattle.syn_journal.specs.Calls.{armed_at, goes_on, goes_down}
use Rattle.syn_journal.specs.Journaled.{Compacts, disk_of, generation_of, journal_of, left_of}
use Rattle.syn_journal.specs.Journaled.{state_of}
use Rattle.syn_journal.specs.Machines.{IsLawful, IsMachine, KeptAs, LeavesMachine, Runs, StandsAs}
use Rattle.syn_journal.specs.Machines.{WritesImage, compacting, image_failed, image_refused}
use Rattle.syn_journal.specs.Machines.{image_stopped, image_written, stopped_after_image}
use Rattle.syn_journal.specs.Meaning.{MayBeOf, as_kept, compacted}
use Rattle.syn_journal.specs.declared.journaled.Journaled.{Journaled}
use Rattle.syn_journal.proofs.CallLemmas.{broken_calls_meet, made_calls_meet}
use Rattle.syn_journal.proofs.DiskLemmas.{after_image}
use Rattle.syn_journal.proofs.MachineLemmas.{device_or_other, left_behind, runs_leave, runs_up}
use Rattle.syn_journal.proofs.MachineLemmas.{still}

one_more : (n : ℕ) → n + 1 ≡ suc n
one_more n = omega arith

module _ {D S V W : Type 0} {disk : Ghosts D} (kept_as : KeptAs S V W)
    (old new : Journaled D S disk) (spelling : S → Bytes) (machine : model.Journaled V W)
    (is : IsMachine kept_as old machine) (lawful : IsLawful kept_as spelling)
    (counts_now : (d : D) (t : ℕ) (c : List ℕ) → t ≤ disk.moment d → disk.may_leave d c →
    disk.left_since d t c) where
  abbrev image : Bytes
  image = kept_as.keeping.layout.image machine.value

  abbrev next : Arms → model.Journaled V W
  next arms = with_image kept_as.keeping.layout machine arms

  met : {status : Status} {arms : Arms} {failures : ℕ} →
      Meets (armed_at (disk.arms (disk_of old))) 6 status arms failures →
      Meets machine.arms 6 status arms failures
  met {status} {arms} {failures} meets =
      subst (λ a. Meets a 6 status arms failures) (sym is.armed) meets

  module _ (was : Runs kept_as old machine) where
    -- the image alone stands for what the machine keeps
    stands : kept_as.keeping.Stands image [] machine.value
    stands = lawful.alone was.value.image was.value.payloads machine.value was.means.stands

    numbered : generation_of old + 1 ≡ suc machine.generation
    numbered = one_more (generation_of old) ∙ ap suc (sym was.means.numbered)

    leaves_either : (why : Option Refusal) →
        Compacts (journal_of old) (journal_of new) image why →
        (status : Status) (arms : Arms) (failures : ℕ) →
        LeavesMachine kept_as new (compacting machine status arms failures)
    leaves_either why compacts status arms failures bytes left =
        let moments = compacts.any_moment was.value was.runs in
        by (moments.each bytes
        (counts_now (disk_of new) (disk.moment (disk_of old)) bytes moments.later left))
      where
        by : IsBeforeOrAfter was.value (generation_of old) (image_alone image)
            (generation_of old + 1) bytes →
            MayBeOf kept_as.keeping (compacting machine status arms failures) bytes
        by (inl has) = record {
          value = was.value;
          generation = generation_of old;
          journal = has;
          means = as_kept (record {
            stands = was.means.stands;
            room = was.means.room;
            numbered = was.means.numbered;
          });
        }
        by (inr has) = record {
          value = image_alone image;
          generation = generation_of old + 1;
          journal = has;
          means = compacted (record {
            compacting = refl;
            stands = stands;
            alone = refl;
            numbered = sym numbered;
          });
        }

    -- ---- it is written

    module _ (compacts : Compacts (journal_of old) (journal_of new) image None)
        (same : state_of new ≡ state_of old) where
      alone : journal.Stands (journal_of new) (image_alone image)
      alone = compacts.acknowledged refl

      room_is : left_of new ≡ room_after image
      room_is = left_behind new (image_alone image) alone ∙ after_image image

      runs_with : (arms : Arms) → Runs kept_as new (next arms)
      runs_with arms = record {
        value = image_alone image;
        runs = alone;
        means = record {
          stands = stands;
          room = sym (after_image image);
          numbered = sym numbered ∙ sym compacts.generation;
        };
      }

      pub is_written : machine.status ≡ Up → WritesImage kept_as new machine None
      is_written up =
          elim (made_calls_meet 6 (disk.arms (disk_of old)) (disk.arms (disk_of new)) is.goes
          compacts.device.arms) as (λ _. WritesImage kept_as new machine None) [
            | goes_on goes meets ↦
                let arms = armed_at (disk.arms (disk_of new)) in
                image_written arms (met meets) (record {
                  remembers = subst (λ s. kept_as.Remembers s machine.value) (sym same)
                      is.remembers;
                  stands = runs_up kept_as new (next arms) machine.status up (runs_with arms);
                  armed = refl;
                  goes = goes;
                  leaves = runs_leave kept_as new (next arms) (runs_with arms);
                })
            | goes_down down meets ↦
                stopped_after_image (met meets) room_is (compacts.generation ∙ numbered) (record {
                  down = refl;
                  stopped = down;
                  leaves = leaves_either None compacts Down unarmed 0;
                })
          ]

    -- ---- its device failed

    pub is_broken : Compacts (journal_of old) (journal_of new) image (Some Device) →
        state_of new ≡ state_of old → WritesImage kept_as new machine (Some Device)
    is_broken compacts same =
        elim (broken_calls_meet 6 (disk.arms (disk_of old)) (disk.arms (disk_of new)) is.goes
        compacts.device.arms) as (λ _. WritesImage kept_as new machine (Some Device)) [
          | goes_on goes meets ↦
              let arms = armed_at (disk.arms (disk_of new)) in
              image_failed arms (met meets) (record {
                remembers = subst (λ s. kept_as.Remembers s machine.value) (sym same) is.remembers;
                stands = compacts.halts refl;
                armed = refl;
                goes = goes;
                leaves = leaves_either (Some Device) compacts Halted arms 1;
              })
          | goes_down down meets ↦
              image_stopped (met meets) (record {
                down = refl;
                stopped = down;
                leaves = leaves_either (Some Device) compacts Down unarmed 0;
              })
        ]

  -- ---- however it ended

  module _ (why : Option Refusal)
      (compacts_spelled : Compacts (journal_of old) (journal_of new) (spelling (state_of old)) why)
      (same : state_of new ≡ state_of old) where
    compacts : Compacts (journal_of old) (journal_of new) image why
    compacts =
        subst (λ i. Compacts (journal_of old) (journal_of new) i why)
        (lawful.image (state_of old) machine.value is.remembers) compacts_spelled

    kept_still : (refusal : Refusal) → why ≡ Some refusal → refusal ≢ Device →
        WritesImage kept_as new machine (Some refusal)
    kept_still refusal some other =
        image_refused refusal other
        (elim compacts.unchanged as (λ _. IsMachine kept_as new machine) [
          | inl none ↦ absurd (none-some _ (sym none ∙ some))
          | inr (inl device) ↦ absurd (other (same_refusal (sym some ∙ device)))
          | inr (inr journals) ↦ still kept_as old new machine journals same is
        ])
      where
        same_refusal : Some refusal ≡ Some Device → refusal ≡ Device
        same_refusal e = cc

    pub images : WritesImage kept_as new machine why
    images = by machine.status refl is.stands
      where
        broken : (refusal : Refusal) → why ≡ Some refusal → Runs kept_as old machine →
            refusal ≡ Device → WritesImage kept_as new machine (Some refusal)
        broken refusal some was device =
            subst (λ r. WritesImage kept_as new machine (Some r)) (sym device)
            (is_broken was (subst (Compacts (journal_of old) (journal_of new) image)
            (some ∙ ap (λ r. Some r) device) compacts) same)

        running : machine.status ≡ Up → Runs kept_as old machine → (ended : Option Refusal) →
            why ≡ ended → WritesImage kept_as new machine ended
        running up was None none =
            is_written was (subst (Compacts (journal_of old) (journal_of new) image) none compacts)
            same up
        running up was (Some refusal) some =
            elim (device_or_other refusal)
            as (λ _. WritesImage kept_as new machine (Some refusal)) [
              | inl device ↦ broken refusal some was device
              | inr other ↦ kept_still refusal some other
            ]

        by : (status : Status) → machine.status ≡ status → StandsAs kept_as old machine status →
            WritesImage kept_as new machine why
        by Up up was = running up was why refl
        by Halted at halted =
            let is_halted = compacts.halted.1 halted in
            subst (WritesImage kept_as new machine) (sym is_halted)
            (kept_still reasons.Halted is_halted (λ e. cc))
        by Down at none = absurd none
