-- What the journal says of a checkpoint that it refuses, as the end of a machine's call.
use Rattle.std.proofs.Common.{◌≡◌, ◌⊎◌, ◌<◌, ◌+◌, ◌-◌, ◌^◌, ◌∙◌, ℕ, inl, inr}
use Rattle.std.proofs.Common.{refl, sym, ap, subst, List, length, Some, None, arith}
use Rattle.std.proofs.lemmas.Option.{none-some, same_Some}
use Rattle.syn_disk.specs.Arms.{Arms}
use Rattle.syn_disk.specs.Stops.{LeavesOnly}
use Rattle.syn_disk.specs.declared.disk.Disk.{Ghosts}
use Rattle.syn_journal.specs.Journal.{Stands, disk_of, gate_of, generation_of, IsHalted}
use Rattle.syn_journal.specs.Layout.{Value, IsBeforeOrAfter, half_size, image_alone, longest_image}
use Rattle.syn_journal.specs.Refusals as by_journal
use Rattle.syn_journal.specs.Refusals.{refusal_of}
use Rattle.syn_journal.specs.declared.error.JournalError.{JournalError}
use Rattle.syn_journal.specs.declared.error.JournalError.TheVariants as journal
use Rattle.syn_journal.specs.declared.journal.Journal.{Journal}
use Rattle.syn_model.specs.Refusal as why
use Rattle.syn_model.specs.Refusal.{Refusal}
use Rattle.syn_journal.specs.Endings.{CountsFailures, MakesOrBreaks, ReadsOrBreaks}
use Rattle.syn_journal.specs.Journaled.{Compacts, IsOfCheckpoint}

-- ---- which refusal of the journal it is

abbrev by_refusal : Refusal → JournalError
by_refusal why.Full = journal.Full
by_refusal why.JournalFull = journal.JournalFull
by_refusal why.Device = journal.Device
by_refusal why.Halted = journal.Halted
by_refusal why.NoImage = journal.NoImage
by_refusal why.Damaged = journal.Damaged
by_refusal _ = journal.Memory

told : (e : JournalError) → by_refusal (refusal_of e) ≡ e
told journal.Full = refl
told journal.JournalFull = refl
told journal.Device = refl
told journal.Halted = refl
told journal.Memory = refl
told journal.NoImage = refl
told journal.Damaged = refl

pub same_error : (e f : JournalError) → Some (refusal_of e) ≡ Some (refusal_of f) → e ≡ f
same_error e f is = sym (told e) ∙ (ap by_refusal (same_Some _ _ is) ∙ told f)

pub counts : (e : JournalError) (old new : ℕ) → by_journal.CountsFailures e old new →
    CountsFailures (Some (refusal_of e)) old new
counts journal.Full old new h = h
counts journal.JournalFull old new h = h
counts journal.Device old new h = h
counts journal.Halted old new h = h
counts journal.Memory old new h = h
counts journal.NoImage old new h = h
counts journal.Damaged old new h = h

pub makes : (e : JournalError) (calls : ℕ) (old new : Arms) →
    by_journal.MakesIfDevice e calls old new → MakesOrBreaks calls (Some (refusal_of e)) old new
makes journal.Full calls old new h = h
makes journal.JournalFull calls old new h = h
makes journal.Device calls old new h = h
makes journal.Halted calls old new h = h
makes journal.Memory calls old new h = h
makes journal.NoImage calls old new h = h
makes journal.Damaged calls old new h = h

pub reads_or_breaks : (e : JournalError) (least : ℕ) (old new : Arms) →
    by_journal.AfterReads least e old new → ReadsOrBreaks least (Some (refusal_of e)) old new
reads_or_breaks journal.Full least old new h = h
reads_or_breaks journal.JournalFull least old new h = h
reads_or_breaks journal.Device least old new h = h
reads_or_breaks journal.Halted least old new h = h
reads_or_breaks journal.Memory least old new h = h
reads_or_breaks journal.NoImage least old new h = h
reads_or_breaks journal.Damaged least old new h = h

of_checkpoint : (e : JournalError) → by_journal.IsCheckpointRefusal e →
    IsOfCheckpoint (Some (refusal_of e))
of_checkpoint journal.Full h = h
of_checkpoint journal.JournalFull h = h
of_checkpoint journal.Device h = h
of_checkpoint journal.Halted h = h
of_checkpoint journal.Memory h = h
of_checkpoint journal.NoImage h = h
of_checkpoint journal.Damaged h = h

-- ---- memory was refused before any device call

module _ {D : Type 0} {disk : Ghosts D}
    (only_now : (d : D) (c : List ℕ) → disk.left_since d (disk.moment d) c → disk.may_leave d c)
    (journal : Journal D disk) (image : List ℕ) (running : ¬ IsHalted journal)
    (below : ¬ (generation_of journal + 1 ≡ 2 ^ 64)) where
  same_moment : (value : Value) → Stands journal value →
      LeavesOnly disk.moment disk.left_since (disk_of journal) (disk_of journal)
      (IsBeforeOrAfter value (generation_of journal) (image_alone image)
      (generation_of journal + 1))
  same_moment value stands = record {
    later = omega arith;
    each = λ c left. subst (IsBeforeOrAfter value (generation_of journal) (image_alone image)
        (generation_of journal + 1)) (sym (stands.durable c (only_now _ c left)))
        (inl stands.holds);
    before = λ t c le left. inl left;
  }

  no_memory : Compacts journal journal image (Some why.Memory)
  no_memory = record {
    acknowledged = λ none. absurd (none-some _ (sym none));
    any_moment = same_moment;
    refusals = tt;
    halted = (λ is. cc, λ h. absurd (running h));
    full = λ is. cc;
    greatest = λ run last. absurd (below last);
    halts = λ is. cc;
    unchanged = inr (inr refl);
    device = record { failures = refl; arms = refl };
    left_is = λ some. refl;
    generation = refl;
  }

  pub not_begun : (refusal : Refusal) → refusal ≡ why.Memory →
      Compacts journal journal image (Some refusal)
  not_begun refusal memory =
      subst (λ r. Compacts journal journal image (Some r)) (sym memory) no_memory

-- ---- the journal refused it

pub not_compacted : {D : Type 0} {disk : Ghosts D} (old new : Journal D disk) (image : List ℕ) →
    ¬ IsHalted old → ¬ (generation_of old + 1 ≡ 2 ^ 64) → (e : JournalError) →
    ((v : Value) → Stands old v → LeavesOnly disk.moment disk.left_since (disk_of old)
    (disk_of new) (IsBeforeOrAfter v (generation_of old) (image_alone image)
    (generation_of old + 1))) →
    (e ≡ journal.Halted → IsHalted old) →
    (e ≡ journal.Full → (longest_image < length image) ⊎ (generation_of old + 1 ≡ 2 ^ 64)) →
    (e ≡ journal.Device → IsHalted new) → by_journal.IsCheckpointRefusal e →
    (e ≡ journal.Device) ⊎ (new ≡ old) →
    by_journal.CountsFailures e (disk.failures (disk_of old)) (disk.failures (disk_of new)) →
    by_journal.MakesIfDevice e 6 (disk.arms (disk_of old)) (disk.arms (disk_of new)) →
    generation_of new ≡ generation_of old → gate_of new ≡ gate_of old →
    Compacts old new image (Some (refusal_of e))
not_compacted old new image running below e any_moment halted full halts refusals unchanged
    failures calls generation gate = record {
      acknowledged = λ none. absurd (none-some _ (sym none));
      any_moment = any_moment;
      refusals = of_checkpoint e refusals;
      halted = (λ is. halted (same_error e journal.Halted is), λ h. absurd (running h));
      full =
          λ is. elim (full (same_error e journal.Full is))
          as (λ _. (generation_of old + 1 ≡ 2 ^ 64) ⊎ (longest_image < length image))
          [ inl long ↦ inr long | inr last ↦ inl last ];
      greatest = λ run last. absurd (below last);
      halts = λ is. halts (same_error e journal.Device is);
      unchanged =
          elim unchanged as (λ _. (Some (refusal_of e) ≡ None)
          ⊎ ((Some (refusal_of e) ≡ Some why.Device) ⊎ (new ≡ old))) [
            | inl device ↦ inr (inl (ap (λ x. Some (refusal_of x)) device))
            | inr same ↦ inr (inr same)
          ];
      device = record { failures = counts e _ _ failures; arms = makes e 6 _ _ calls };
      left_is = λ some. ap (λ n. half_size - 1 - n) gate;
      generation = generation;
    }
