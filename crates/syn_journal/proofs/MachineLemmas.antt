-- A state that a journal keeps is that of its machine, and what its disk may be left with.
use Rattle.std.proofs.Common.{◌≡◌, ◌≢◌, ◌⊎◌, ◌-◌, refl, sym, ap, ap₂}
use Rattle.std.proofs.Common.{subst, inl, inr}
use Rattle.syn_disk.specs.declared.disk.Disk.{Ghosts}
use Rattle.syn_machine.specs.Machine.{Status, Up, Halted, Down, record_size}
use Rattle.syn_machine.specs.Machine as model
use Rattle.syn_journal.specs.Journal as journal
use Rattle.syn_journal.specs.Layout.{Value, HasJournal, bytes_left, half_size}
use Rattle.syn_journal.specs.declared.journal.Journal.{Journal}
use Rattle.syn_model.specs.Refusal.{Refusal, Device}
use Rattle.syn_journal.specs.Journaled.{generation_of, journal_of, left_of}
use Rattle.syn_journal.specs.Journaled.{state_of}
use Rattle.syn_journal.specs.Machines.{IsMachine, KeptAs, LeavesMachine, Runs, StandsAs}
use Rattle.syn_journal.specs.Meaning.{as_kept}
use Rattle.syn_journal.specs.declared.journaled.Journaled.{Journaled}

pub device_or_other : (why : Refusal) → (why ≡ Device) ⊎ (why ≢ Device)
device_or_other Device = inl refl
device_or_other _ = inr (λ is. cc)

abbrev with_both : {D S : Type 0} {disk : Ghosts D} → Journal D disk → S → Journaled D S disk
with_both journal state = record { journal = journal; state = state }

both_same : {D S : Type 0} {disk : Ghosts D} {old new : Journaled D S disk} →
    journal_of new ≡ journal_of old → state_of new ≡ state_of old → old ≡ new
both_same journals states = ap₂ with_both (sym journals) (sym states)

module _ {D S V W : Type 0} {disk : Ghosts D} (kept_as : KeptAs S V W) where
  -- nothing of it changed
  pub still : (old new : Journaled D S disk) (machine : model.Journaled V W) →
      journal_of new ≡ journal_of old → state_of new ≡ state_of old →
      IsMachine kept_as old machine → IsMachine kept_as new machine
  still old new machine journals states is =
      subst (λ it. IsMachine kept_as it machine) (both_same journals states) is

  -- what stands on its disk is left by whatever stop comes
  pub runs_leave : (now : Journaled D S disk) (machine : model.Journaled V W) →
      Runs kept_as now machine → LeavesMachine kept_as now machine
  runs_leave now machine was bytes left = record {
    value = was.value;
    generation = generation_of now;
    journal =
        subst (λ b. HasJournal b was.value (generation_of now))
        (sym (was.runs.durable bytes left)) was.runs.holds;
    means = as_kept was.means;
  }

  pub runs_up : (now : Journaled D S disk) (machine : model.Journaled V W) (status : Status) →
      status ≡ Up → Runs kept_as now machine → StandsAs kept_as now machine status
  runs_up now machine status up was =
      subst (StandsAs kept_as now machine) (sym up) was

-- how many bytes are left behind what stands
pub left_behind : {D S : Type 0} {disk : Ghosts D} (now : Journaled D S disk) (value : Value) →
    journal.Stands (journal_of now) value → left_of now ≡ bytes_left value
left_behind now value runs = ap (λ gate. half_size - 1 - gate) runs.gate
