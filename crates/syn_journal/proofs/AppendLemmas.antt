-- What the disk has of many payloads that were appended, or not.
use Rattle.std.specs.Prelude.{◌≡◌, ◌⊎◌, ◌↔◌, ◌<◌, List, ℕ, Result, Ok, Err, Some, None}
use Rattle.std.proofs.Common.{ap, inl, inr, refl, [], ◌∷◌}
use Rattle.std.proofs.lemmas.Option.{none-some}
use Rattle.std.specs.Global.{Vec}
use Rattle.syn_disk.specs.Calls.{Makes}
use Rattle.syn_disk.specs.Stops.{LeavesOnly}
use Rattle.syn_disk.specs.declared.disk.Disk.{Ghosts}
use Rattle.syn_journal.specs.Batches.{bytes_of_each, calls_for, records_size, with_payloads}
use Rattle.syn_journal.specs.Journal.{IsHalted, Stands, disk_of, generation_of, left_of}
use Rattle.syn_journal.specs.Layout.{IsBeforeOrAfter, Value}
use Rattle.syn_journal.specs.Refusals as by_journal
use Rattle.syn_journal.specs.Refusals.{refusal_of}
use Rattle.syn_journal.specs.declared.error.JournalError.{JournalError}
use Rattle.syn_journal.specs.declared.error.JournalError.TheVariants as journal
use Rattle.syn_journal.specs.declared.journal.Journal.{Journal}
use Rattle.syn_model.specs.Refusal as why
use Rattle.syn_journal.specs.Appending.{AppendsAll}
use Rattle.syn_journal.specs.Journaled.{IsOfWrite}
use Rattle.syn_journal.proofs.Endings.{counts, makes, same_error}

of_append : (e : JournalError) → by_journal.IsAppendRefusal e → IsOfWrite (Some (refusal_of e))
of_append journal.Full h = h
of_append journal.JournalFull h = h
of_append journal.Device h = h
of_append journal.Halted h = h
of_append journal.Memory h = h
of_append journal.NoImage h = h
of_append journal.Damaged h = h

module _ {D : Type 0} {disk : Ghosts D} (old new : Journal D disk) (payloads : List (List ℕ))
    (any_moment : (value : Value) → Stands old value →
    LeavesOnly disk.moment disk.left_since (disk_of old) (disk_of new)
    (IsBeforeOrAfter value (generation_of old) (with_payloads value payloads)
    (generation_of old))) where
  -- the journal took them
  pub all_appended : ¬ IsHalted old → ¬ (left_of old < records_size payloads) →
      disk.failures (disk_of new) ≡ disk.failures (disk_of old) →
      Makes (calls_for payloads) (disk.arms (disk_of old)) (disk.arms (disk_of new)) →
      AppendsAll old (disk_of new) payloads None
  all_appended running fits failures calls = record {
    any_moment = any_moment;
    refusals = tt;
    halted = (λ is. absurd (none-some _ is), λ h. absurd (running h));
    full = (λ is. absurd (none-some _ is), λ h. absurd (fits h.1));
    unchanged = inl refl;
    device = record { failures = failures; arms = calls };
  }

  -- the journal refused them
  pub none_appended : (e : JournalError) → (e ≡ journal.Halted ↔ IsHalted old) →
      (e ≡ journal.JournalFull ↔ (¬ IsHalted old × (left_of old < records_size payloads))) →
      by_journal.IsAppendRefusal e → (e ≡ journal.Device) ⊎ (new ≡ old) →
      by_journal.CountsFailures e (disk.failures (disk_of old)) (disk.failures (disk_of new)) →
      by_journal.MakesIfDevice e (calls_for payloads) (disk.arms (disk_of old))
      (disk.arms (disk_of new)) → AppendsAll old (disk_of new) payloads (Some (refusal_of e))
  none_appended e halted full refusals unchanged failures calls = record {
    any_moment = any_moment;
    refusals = of_append e refusals;
    halted = (
      λ is. halted.0 (same_error e journal.Halted is),
      λ h. ap (λ x. Some (refusal_of x)) (halted.1 h),
    );
    full = (
      λ is. full.0 (same_error e journal.JournalFull is),
      λ h. ap (λ x. Some (refusal_of x)) (full.1 h),
    );
    unchanged =
        elim unchanged as (λ _. (Some (refusal_of e) ≡ None)
        ⊎ ((Some (refusal_of e) ≡ Some why.Device) ⊎ (disk_of new ≡ disk_of old))) [
          | inl device ↦ inr (inl (ap (λ x. Some (refusal_of x)) device))
          | inr same ↦ inr (inr (ap (λ j. disk_of j) same))
        ];
    device =
        record { failures = counts e _ _ failures; arms = makes e (calls_for payloads) _ _ calls };
  }

-- as many calls for the bytes of the payloads
pub same_calls : (payloads : List (Vec ℕ)) →
    calls_for payloads ≡ calls_for (bytes_of_each payloads)
same_calls [] = refl
same_calls (payload ∷ payloads) = refl

-- an answer is one or the other, and a refusal is the one that it is
pub not_err : {X : Type 0} (x : X) (e : JournalError) →
    ◌≡◌ {A = Result X JournalError} (Ok x) (Err e) → ⊥
not_err x e is = cc is

pub err_is : {X : Type 0} (e f : JournalError) →
    ◌≡◌ {A = Result X JournalError} (Err e) (Err f) → e ≡ f
err_is e f is = cc is
