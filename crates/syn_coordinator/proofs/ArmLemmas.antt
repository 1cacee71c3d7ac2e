-- An archive whose device is armed is its machine with these arms.
use Rattle.std.proofs.Common.{◌≡◌, ◌⊎◌, ◌-◌, ℕ, false, refl, ap, ◌∙◌, inl, inr}
use Rattle.syn_archive.specs.Archive.{SameMemory, Stands, disk_of, journal_of}
use Rattle.syn_archive.specs.declared.archive.Archive.{Archive}
use Rattle.syn_disk.specs.Arms.{is_stopped}
use Rattle.syn_disk.specs.Disk.{SameOutcomes}
use Rattle.syn_disk.specs.declared.disk.Disk.{Ghosts}
use Rattle.syn_machine.specs.Machine.{after_device}
use Rattle.syn_journal.specs.Journal.{SameReadings}
use Rattle.syn_model.specs.Archive as model
use Rattle.syn_journal.specs.Calls.{armed_at}
use Rattle.syn_coordinator.specs.Machines.{Fails, IsMachine, Journal, Runs}
use Rattle.syn_journal.proofs.DiskLemmas.{may_be_still}
use Rattle.syn_archive.specs.Keepings.{of_archive}

module _ {D : Type 0} {disk : Ghosts D} (old new : Archive D disk) (pair : ℕ) (machine : Journal)
    (is : IsMachine old pair machine) (goes : is_stopped (disk.arms (disk_of new)) ≡ false)
    (stands : (kept : model.Archive) → Stands old kept → Stands new kept)
    (memory : SameMemory old new) (readings : SameReadings (journal_of old) (journal_of new))
    (stop : SameOutcomes (disk.may_leave (disk_of old)) (disk.may_leave (disk_of new))) where
  pub armed_still : IsMachine new pair
      (after_device machine machine.status (armed_at (disk.arms (disk_of new))) 0)
  armed_still = record {
    pair_is = memory.pair ∙ is.pair_is;
    remembers = memory.archive ∙ is.remembers;
    armed = refl;
    goes = goes;
    state =
        elim is.state as (λ _. Runs new
        (after_device machine machine.status (armed_at (disk.arms (disk_of new))) 0) ⊎ Fails new
        (after_device machine machine.status (armed_at (disk.arms (disk_of new))) 0)) [
          | inl was ↦ inl (record {
            up = was.up;
            stands = stands machine.value was.stands;
            room = ap (λ gate. 4194304 - 1 - gate) readings.gate ∙ was.room;
            generation = readings.generation ∙ was.generation;
            idle = was.idle;
            settled = was.settled;
          })
          | inr fails ↦ inr
              (record { halted = fails.halted; is_halted = readings.halted ∙ fails.is_halted })
        ];
    leaves =
        λ bytes left. may_be_still (of_archive pair) machine machine.status
        (armed_at (disk.arms (disk_of new))) 0 bytes (is.leaves bytes ((stop bytes).1 left));
  }
