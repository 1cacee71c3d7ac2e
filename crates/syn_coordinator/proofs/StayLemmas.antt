-- An archive whose journal stays is the machine that it was.
use Rattle.std.proofs.Common.{◌≡◌, ◌⊎◌, sym, ap, ◌∙◌, subst, inl, inr, ℕ}
use Rattle.syn_archive.specs.Archive.{Stands, KeepsReadings, journal_of}
use Rattle.syn_archive.specs.declared.archive.Archive.{Archive}
use Rattle.syn_disk.specs.Arms.{is_stopped}
use Rattle.syn_disk.specs.declared.disk.Disk.{Ghosts}
use Rattle.syn_journal.specs.Journal as journal
use Rattle.syn_model.specs.Archive as model
use Rattle.syn_model.specs.ArchiveImage.{ArchiveStandsFor}
use Rattle.syn_journal.specs.Calls.{armed_at}
use Rattle.syn_coordinator.specs.Machines.{Journal, LeavesMachine, Runs, Fails, IsMachine}

module _ {D : Type 0} {disk : Ghosts D} (old new : Archive D disk)
    (same : journal_of new ≡ journal_of old) (readings : KeepsReadings old new) where
  stands_still : (kept : model.Archive) → Stands old kept → Stands new kept
  stands_still kept stands = record {
    remembers = readings.memory.archive ∙ stands.remembers;
    value = stands.value;
    runs = subst (λ j. journal.Stands j stands.value) (sym same) stands.runs;
    means =
        subst (λ p. ArchiveStandsFor p stands.value.image stands.value.payloads kept)
        (sym readings.memory.pair) stands.means;
  }

  pub same_machine : (pair : ℕ) (machine : Journal) → IsMachine old pair machine →
      IsMachine new pair machine
  same_machine pair machine is = record {
    pair_is = readings.memory.pair ∙ is.pair_is;
    remembers = readings.memory.archive ∙ is.remembers;
    armed = ap (λ j. armed_at (disk.arms (journal.disk_of j))) same ∙ is.armed;
    goes = ap (λ j. is_stopped (disk.arms (journal.disk_of j))) same ∙ is.goes;
    state = elim is.state as (λ _. Runs new machine ⊎ Fails new machine) [
      | inl was ↦ inl (record {
        up = was.up;
        stands = stands_still machine.value was.stands;
        room = readings.left_is ∙ was.room;
        generation = readings.generation ∙ was.generation;
        idle = was.idle;
        settled = was.settled;
      })
      | inr fails ↦ inr (record {
        halted = fails.halted;
        is_halted = subst (λ j. journal.IsHalted j) (sym same) fails.is_halted;
      })
    ];
    leaves = subst (λ j. LeavesMachine disk (journal.disk_of j) pair machine) (sym same) is.leaves;
  }
