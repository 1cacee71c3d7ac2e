-- What a machine's reopening makes of an archive.
use Rattle.std.specs.Prelude.{◌≢◌, Result, Ok, Err, IfErr, OnOk}
use Rattle.std.proofs.Common.{◌≡◌, ◌⊎◌, ap, inl, inr}
use Rattle.syn_disk.specs.declared.disk.Disk.{Ghosts}
use Rattle.syn_journal.specs.Journal as journal
use Rattle.syn_journal.specs.Layout.{Value}
use Rattle.syn_journal.specs.Endings.{Reads, ended}
use Rattle.syn_journal.specs.Journaled as machine
use Rattle.syn_model.specs.Refusal.{Memory}
use Rattle.syn_archive.specs.Archive.{IsHalted, KeepsReadings, SameMemory, ShowsDisk, disk_of}
use Rattle.syn_archive.specs.Archive.{journal_of, pair_of}
use Rattle.syn_archive.specs.Calls.{Reopens}
use Rattle.syn_archive.specs.Refusals.{refusal_of}
use Rattle.syn_archive.specs.declared.archive.Archive.{Archive}
use Rattle.syn_archive.specs.declared.error.ArchiveError.{ArchiveError}
use Rattle.syn_archive.specs.inner.Agreements.{agreed_archive}

pub reopens : {D : Type 0} {disk : Ghosts D} (old new : Archive D disk)
    (result : Result Unit ArchiveError) → OnOk result (pair_of new ≡ pair_of old) →
    IfErr result (λ _. machine.state_of new.journaled ≡ machine.state_of old.journaled) →
    IfErr result (λ _. IsHalted old → IsHalted new) →
    IfErr result (λ e. refusal_of e ≢ Memory → IsHalted new) →
    IfErr result (λ _. machine.KeepsReadings old.journaled new.journaled
    ⊎ machine.ShowsDisk new.journaled) →
    ((value : Value) → journal.Stands (journal_of old) value →
    IfErr result (λ _. machine.KeepsReadings old.journaled new.journaled)) →
    (IsHalted old → IfErr result (λ _. machine.KeepsReadings old.journaled new.journaled)) →
    Reads disk (ended refusal_of result) (disk_of old) (disk_of new) →
    Reopens old new (ended refusal_of result)
reopens old new (Ok done) pair state halted halts readings room remembers device = record {
  pair = pair;
  halted = tt;
  halts = tt;
  memory = tt;
  readings = tt;
  room = λ kept stands. tt;
  remembers = λ h. tt;
  device = device;
}
reopens old new (Err e) pair state halted halts readings room remembers device =
    let memory : SameMemory old new =
    record { pair = ap (λ a. a.pair) state; archive = ap agreed_archive state } in
    let kept : machine.KeepsReadings old.journaled new.journaled → KeepsReadings old new =
    λ keeps. record { memory = memory; left_is = keeps.left_is; generation = keeps.generation } in
    record {
      pair = memory.pair;
      halted = halted;
      halts = halts;
      memory = memory;
      readings = elim readings as (λ _. KeepsReadings old new ⊎ ShowsDisk new) [
        | inl keeps ↦ inl (kept keeps)
        | inr shows ↦ inr (record {
          value = shows.value;
          journal = shows.journal;
          left_is = shows.left_is;
        })
      ];
      room = λ archive stands. kept (room stands.value stands.runs);
      remembers = λ h. kept (remembers h);
      device = device;
    }
