-- What a stop leaves during an append.
use Rattle.std.proofs.Common.{◌≡◌, ◌<◌, inl, inr, ℕ, ◌+◌, ◌++◌, ◌∷◌, [], List, length, get_or, ap}
use Rattle.std.proofs.Common.{arith, append-nil, drop, length-append, length-drop, sym, take, ◌-◌}
use Rattle.std.proofs.Common.{◌∙◌, false}
use Rattle.std.proofs.lemmas.List.{take_all}
use Rattle.std.specs.Global.{Vec}
use Rattle.std.proofs.lemmas.Bool.{cases_eq}
use Rattle.std.specs.Int.{w32, to_be_bytes}
use Rattle.syn_disk.specs.Disk.{Only, overwritten}
use Rattle.syn_disk.specs.Stops.{LeavesOnly}
use Rattle.syn_disk.specs.declared.disk.Disk.{Ghosts}
use Rattle.syn_journal.specs.Batches.{bytes_of_each, records_size, with_payloads}
use Rattle.syn_journal.specs.inner.Commit.{IsBodyOf, IsStagedOrOpened, body_of_record}
use Rattle.syn_journal.specs.declared.half.Half.{Half}
use Rattle.syn_journal.specs.Journal.{Stands}
use Rattle.syn_journal.specs.Layout.{half_size, open_gate, records_of, start_of, Value}
use Rattle.syn_journal.specs.Layout.{IsBeforeOrAfter, is_open, meaning, other_half, value_or_empty}
use Rattle.syn_journal.specs.declared.journal.Journal.{Journal}
use Rattle.syn_journal.specs.inner.Whole.{IsInStep, IsWhole}
use Rattle.syn_journal.proofs.Whole.{after_gate, still_closed, now_open, long, appended, other_kept}
use Rattle.syn_journal.proofs.Meanings.{has, in_step, stands_whole}
use Rattle.syn_journal.proofs.Moments.{weakened}

-- what is written of one payload
pub one_body : (payload body : List ℕ) → body ≡ body_of_record payload →
    IsBodyOf (payload ∷ []) (5 + length payload) body
one_body payload body is =
    let word = to_be_bytes w32 (length payload) in
    record {
      spells =
          ap (λ (l : List ℕ). open_gate ∷ l)
          (is ∙ ap (λ (l : List ℕ). l ++ 0 ∷ []) (sym (append-nil (word ++ payload))));
      sized =
          omega (arith, length-append (word ++ payload) [], length-append word payload);
      some = omega arith;
    }

-- and of several: all but the first gate
all_but_first : (xs : List ℕ) → take (length xs - 1) (drop 1 xs) ≡ drop 1 xs
all_but_first xs = take_all (length xs - 1) (drop 1 xs) (omega (arith, length-drop 1 xs))

pub many_body : (payloads : List (Vec ℕ)) (size : ℕ) (records : List ℕ) →
    records ≡ records_of (bytes_of_each payloads) ++ 0 ∷ [] →
    size ≡ records_size (bytes_of_each payloads) → 0 < length payloads →
    IsBodyOf (bytes_of_each payloads) size (take (length records - 1) (drop 1 records))
many_body [] size records is sized some = absurd (omega (arith, some))
many_body (payload ∷ payloads) size records is sized some =
    record {
      spells =
          ap (λ (l : List ℕ). open_gate ∷ l)
          (all_but_first records ∙ ap (λ (l : List ℕ). drop 1 l) is);
      sized = sym sized;
      some = omega (arith, sized);
    }

module _ (disk : List ℕ) (half : Half) (generation gate : ℕ) (value : Value)
    (whole : IsWhole disk half generation gate value) (more : List (List ℕ)) (bytes : ℕ)
    (body : List ℕ) (is : IsBodyOf more bytes body) (fits : gate + bytes < half_size) where
  pub before_or_after : (after : List ℕ) → IsStagedOrOpened disk (start_of half + gate) body after →
      IsBeforeOrAfter value generation (with_payloads value more) generation after
  before_or_after after (inl torn) =
      inl (has after half generation gate value
      (after_gate disk half generation gate value whole (length body) after
      (omega (arith, long disk half generation gate value whole more bytes body is fits)) torn))
  before_or_after after (inr torn) =
      elim (cases_eq (get_or after (start_of half + gate) 0) open_gate) [
        | inl is_open ↦ inr (has after half generation (gate + bytes) _ (now_open
            disk half generation gate value whole more bytes body is fits after torn is_open))
        | inr closed ↦ inl (has after half generation gate value (still_closed disk half generation
            gate value whole more bytes body is fits after torn closed))
      ]

-- payloads that are appended to a journal
module _ {D : Type 0} {disk : Ghosts D} (journal : Journal D disk) (more : List (List ℕ))
    (bytes : ℕ) (body : List ℕ) (is : IsBodyOf more bytes body)
    (fits : journal.cursor.gate + bytes < half_size) where
  pub append_moments : (value : Value) → Stands journal value → (new : D) →
      LeavesOnly disk.moment disk.left_since journal.disk new
      (IsStagedOrOpened (disk.seen journal.disk)
      (start_of journal.cursor.half + journal.cursor.gate) body) →
      LeavesOnly disk.moment disk.left_since journal.disk new (IsBeforeOrAfter value
      journal.cursor.generation (with_payloads value more) journal.cursor.generation)
  append_moments value stands new run =
      weakened disk.moment disk.left_since journal.disk new _ _
      (before_or_after (disk.seen journal.disk) journal.cursor.half journal.cursor.generation
      journal.cursor.gate value
      (stands_whole journal value stands) more bytes body is fits) run

  abbrev pub Opened : List ℕ → Type 0
  Opened after =
      let gate = start_of journal.cursor.half + journal.cursor.gate in
      after ≡ overwritten (overwritten (disk.seen journal.disk) (gate + 1) body) gate
      (open_gate ∷ [])

  pub append_whole : (value : Value) → Stands journal value → (after : List ℕ) → Opened after →
      IsWhole after journal.cursor.half journal.cursor.generation (journal.cursor.gate + bytes)
      (with_payloads value more)
  append_whole value stands after written =
      rw written (appended (disk.seen journal.disk) journal.cursor.half journal.cursor.generation
      journal.cursor.gate
      value (stands_whole journal value stands) more bytes body is fits)

  pub append_in_step : journal.halted ≡ false → (new : D) → Opened (disk.seen new) →
      Only (disk.seen new) (disk.may_leave new) →
      (within : journal.cursor.gate + bytes < half_size) →
      IsInStep (disk.seen new) (disk.may_leave new)
      (record (journal.cursor) { gate = journal.cursor.gate + bytes; within = within })
  append_in_step running new written durable within =
      let step = journal.in_step running in
      let cursor = journal.cursor in
      let whole : IsWhole (disk.seen new) cursor.half cursor.generation (cursor.gate + bytes)
      (with_payloads (value_or_empty (meaning (disk.seen journal.disk))) more) =
      rw written (appended (disk.seen journal.disk) cursor.half cursor.generation cursor.gate _
      step.whole more bytes body is fits) in
      in_step (disk.seen new) _ _ _ whole (ap (λ after. is_open after (other_half cursor.half))
      written
      ∙ other_kept (disk.seen journal.disk) cursor.half cursor.generation cursor.gate _ step.whole
      more bytes body is fits ∙ step.other) durable
