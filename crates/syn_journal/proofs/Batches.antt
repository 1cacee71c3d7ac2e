-- The records of payloads that are gone through.
use Rattle.std.proofs.Common.{◌≡◌, ◌<◌, ◌≤◌, ◌+◌, ◌++◌, ◌∷◌, [], ℕ, List, length, take, drop}
use Rattle.std.proofs.Common.{ap, sym, ◌∙◌, arith, length-append, slice_index_or}
use Rattle.std.proofs.lemmas.List.{map-append, map_more, take-append-drop}
use Rattle.std.specs.Global.{Vec}
use Rattle.std.specs.Int.{w32, to_be_bytes}
use Rattle.syn_disk.specs.Arms.{Arms}
use Rattle.syn_disk.specs.Calls.{Makes}
use Rattle.syn_journal.specs.Batches.{bytes_of_each, calls_for, records_size}
use Rattle.syn_journal.specs.Layout.{record_of, records_of}
use Rattle.syn_journal.proofs.Calls.{no_call}
use Rattle.syn_journal.proofs.Records.{records_of-append, records_of-push}

module _ (payloads : List (Vec ℕ)) (i : ℕ) (payload : Vec ℕ) (inside : i < length payloads)
    (is : payload ≡ slice_index_or payloads i payload) where
  pub one_more_record : records_of (bytes_of_each (take (i + 1) payloads))
      ≡ records_of (bytes_of_each (take i payloads)) ++ record_of payload.items
  one_more_record =
      ap records_of (map_more (λ (p : Vec ℕ). p.items) payloads i payload inside
      ∙ ap (λ p. bytes_of_each (take i payloads) ++ p.items ∷ []) (sym is))
      ∙ records_of-push (bytes_of_each (take i payloads)) payload.items

  pub one_more_size : records_size (bytes_of_each (take (i + 1) payloads))
      ≡ records_size (bytes_of_each (take i payloads)) + (5 + length payload.items)
  one_more_size =
      omega (
        arith,
        ap length one_more_record,
        length-append (records_of (bytes_of_each (take i payloads))) (record_of payload.items),
        length-append (to_be_bytes w32 (length payload.items)) payload.items,
      )

  -- no more than all of them
  pub part_of_size : records_size (bytes_of_each (take i payloads)) + (5 + length payload.items)
      ≤ records_size (bytes_of_each payloads)
  part_of_size =
      let first = bytes_of_each (take (i + 1) payloads) in
      let rest = bytes_of_each (drop (i + 1) payloads) in
      let all : records_of (bytes_of_each payloads) ≡ records_of first ++ records_of rest =
      ap records_of (ap bytes_of_each (sym (take-append-drop (i + 1) payloads))
      ∙ map-append (λ (p : Vec ℕ). p.items) (take (i + 1) payloads) (drop (i + 1) payloads))
      ∙ records_of-append first rest in
      omega (
        arith,
        one_more_size,
        ap length all,
        length-append (records_of first) (records_of rest),
      )

-- nothing is added of none
pub no_calls : (payloads : List (Vec ℕ)) (arms : Arms) → length payloads ≡ 0 →
    Makes (calls_for payloads) arms arms
no_calls [] arms none = no_call arms
no_calls (payload ∷ payloads) arms none = absurd (omega (arith, none))
