-- What the bytes of a disk have, and how long they may be a machine's.
use Rattle.std.proofs.Common.{◌≡◌, ◌-◌, ◌+◌, ℕ, Result, Ok, Err, length, sym, ap, ◌∙◌, arith}
use Rattle.syn_machine.specs.Machine.{Arms, Journaled, Status, after_device, room_after}
use Rattle.syn_journal.specs.Layout.{HasJournal, Value, bytes_left, generation_at, image_alone}
use Rattle.syn_journal.specs.declared.half.Half.{Half}
use Rattle.syn_model.specs.Path.{Bytes}
use Rattle.syn_journal.specs.Meaning.{Keeping, MayBeOf, MayMean, as_kept, compacted, with_record}

-- an image alone leaves what stands after it
pub after_image : (image : Bytes) → bytes_left (image_alone image) ≡ room_after image
after_image image = less (length image)
  where
    less : (n : ℕ) → 4194304 - 1 - (13 + n + 0) ≡ 4194304 - (14 + n)
    less n = omega arith

-- one disk has one value
pub one_value : (bytes : Bytes) (a b : Value) (m n : ℕ) → HasJournal bytes a m
    → HasJournal bytes b n → a ≡ b
one_value bytes a b m n first second = ap value_in (sym first.means ∙ second.means)
  where
    value_in : {E : Type 0} → Result Value E → Value
    value_in (Ok value) = value
    value_in (Err e) = a

-- and one generation
pub one_generation : (bytes : Bytes) (a b : Value) (m n : ℕ) → HasJournal bytes a m
    → HasJournal bytes b n → m ≡ n
one_generation bytes a b m n first second =
    sym first.numbered ∙ (ap (λ h. generation_at bytes h)
    (ap half_in (sym first.is_current ∙ second.is_current)) ∙ second.numbered)
  where
    half_in : {E : Type 0} → Result Half E → Half
    half_in (Ok half) = half
    half_in (Err e) = first.half

-- device calls that write nothing leave what may be the machine's
pub may_be_still : {V W : Type 0} (keeping : Keeping V W) (machine : Journaled V W)
    (status : Status) (arms : Arms) (failed : ℕ) (bytes : Bytes) → MayBeOf keeping machine bytes
    → MayBeOf keeping (after_device machine status arms failed) bytes
may_be_still keeping machine status arms failed bytes may = record {
  value = may.value;
  generation = may.generation;
  journal = may.journal;
  means = still may.means;
}
  where
    still : {value : Value} {generation : ℕ} → MayMean keeping machine value generation
        → MayMean keeping (after_device machine status arms failed) value generation
    still (as_kept m) = as_kept (record {
      stands = m.stands;
      room = m.room;
      numbered = m.numbered;
    })
    still (with_record m) = with_record (record {
      added = m.added;
      writing = m.writing;
      can_add = m.can_add;
      stands = m.stands;
      room = m.room;
      numbered = m.numbered;
    })
    still (compacted m) = compacted (record {
      compacting = m.compacting;
      stands = m.stands;
      alone = m.alone;
      numbered = m.numbered;
    })
