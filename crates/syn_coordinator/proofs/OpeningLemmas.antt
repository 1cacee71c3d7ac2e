-- What another opening of an archive found of the record that was tried.
use Rattle.std.proofs.Common.{◌≡◌, ◌⊎◌, ◌≤◌, ◌-◌, ◌==◌, ◌+◌, ℕ, suc, true, false, nat_lt}
use Rattle.std.proofs.Common.{List, [], ◌∷◌, ◌++◌, length, Option, Some, None, if◌then◌else◌, refl}
use Rattle.std.proofs.Common.{sym, ap, ap₂, ◌∙◌, inl, inr, arith, subst}
use Rattle.std.specs.Prelude.{◌&&◌}
use Rattle.std.proofs.lemmas.Bool.Decides.{nat_tests}
use Rattle.std.proofs.lemmas.Option.{none-some, same_Some}
use Rattle.syn_archive.specs.Archive.{generation_shown, left_shown}
use Rattle.syn_archive.specs.Disks.{kept_size}
use Rattle.syn_archive.specs.declared.archive.Archive.{Archive}
use Rattle.syn_disk.specs.declared.disk.Disk.{Ghosts}
use Rattle.syn_machine.specs.Coordinator.{archive_layout}
use Rattle.syn_machine.specs.Machine.{IsAsLeft, Opens, opened, recovered, room_after}
use Rattle.syn_model.specs.Archive.{CanKeep, Kept, Recorded, RecordedDir, Session}
use Rattle.std.specs.Int.{to_be_bytes, w64}
use Rattle.syn_model.specs.MarkSpelling.{mark_spelling}
use Rattle.syn_model.specs.Path.{path_spelling}
use Rattle.syn_coordinator.specs.Machines.{Journal}
use Rattle.syn_coordinator.specs.Tries.{Tries, found_in, is_in, listed, record_of}
use Rattle.syn_coordinator.specs.declared.tried.TriedRecord.{TriedRecord}
use Rattle.syn_coordinator.proofs.TriedLemmas.{room_left}
use Rattle.syn_model.proofs.BaseLemmas.{and_false}

-- ---- numbers

is_same : (m n : ℕ) → m ≡ n → (m == n) ≡ true
is_same m n e = grind (arith, nat_tests)

is_later : (m n : ℕ) → m ≡ suc n → (m == n) ≡ false
is_later m n e = grind (arith, nat_tests)

not_less : (m n : ℕ) → m ≡ n → nat_lt m n ≡ false
not_less m n e = grind (arith, nat_tests)

less : (room size : ℕ) → size ≤ room → 6 ≤ size → nat_lt (room - size - 5) (room - 5) ≡ true
less room size fits least = grind (arith, nat_tests)

six : (n : ℕ) → 6 ≤ 5 + suc n
six n = omega arith

-- a record takes some bytes after its length
takes_six : (kept : Kept) → 6 ≤ kept_size kept
takes_six (Session session) = six (length (to_be_bytes w64 session))
takes_six (Recorded path marks) = six (length (path_spelling path ++ mark_spelling marks))
takes_six (RecordedDir path) = six (length (path_spelling path))

-- where nothing was added there is not less room in the same generation
no_less : (room generation image now after : ℕ) →
    ((now ≡ room) × (after ≡ generation)) ⊎ ((now ≡ image) × (after ≡ suc generation)) →
    ((after == generation) && nat_lt (now - 5) (room - 5)) ≡ false
no_less room generation image now after (inl is) =
    ap (λ b. (after == generation) && b) (not_less _ _ (ap (λ n. n - 5) is.0))
    ∙ and_false (after == generation)
no_less room generation image now after (inr is) =
    ap (λ b. b && nat_lt (now - 5) (room - 5)) (is_later after generation is.1)

-- how a journal was left, but for the checkpoint that was under way
either : (pair : ℕ) (machine : Journal) (room generation : ℕ) →
    IsAsLeft (archive_layout pair) machine room generation →
    ((room ≡ machine.room) × (generation ≡ machine.generation))
    ⊎ ((room ≡ room_after ((archive_layout pair).image machine.value))
    × (generation ≡ suc machine.generation))
either pair machine room generation (inl same) = inl same
either pair machine room generation (inr made) = inr (made.1, made.2)

module _ {D : Type 0} {disk : Ghosts D} (archive : Archive D disk) (pair : ℕ)
    (machine : Journal) where
  -- what its readings tell is what the opening gave
  pub found_is : (tried : Option TriedRecord) (calls : ℕ) (new : Journal) (kept : List Kept) →
      Tries tried machine → Opens (archive_layout pair) CanKeep machine calls new kept →
      left_shown archive ≡ new.room → generation_shown archive ≡ new.generation →
      kept ≡ listed (found_in tried archive)
  found_is None calls new kept tries (opened room generation arms meets left) shown numbered = refl
  found_is None calls new kept tries (recovered arms one meets writing can) shown numbered =
      absurd (none-some _ (sym tries ∙ writing))
  found_is (Some tried) calls new kept tries
      (opened room generation arms meets left) shown numbered =
      sym (ap (λ b. listed (if b then Some (record_of tried) else None)) none_in)
    where
      none_in : is_in tried archive ≡ false
      none_in =
          ap₂ (λ g n. (g == tried.generation) && nat_lt n tried.room) numbered
          (room_left archive ∙ ap (λ n. n - 5) shown)
          ∙ (ap₂ (λ g n. (generation == g) && nat_lt (room - 5) n) tries.generation_is
          tries.room_is
          ∙ no_less machine.room machine.generation (room_after
          ((archive_layout pair).image machine.value)) room generation
          (either pair machine room generation left))
  found_is (Some tried) calls new kept tries (recovered arms one meets writing can) shown numbered =
      ap (λ k. k ∷ []) same
      ∙ sym (ap (λ b. listed (if b then Some (record_of tried) else None)) some_in)
    where
      same : one ≡ record_of tried
      same = same_Some _ _ (sym writing ∙ tries.writing)

      some_in : is_in tried archive ≡ true
      some_in =
          ap₂ (λ g n. (g == tried.generation) && nat_lt n tried.room) numbered
          (room_left archive ∙ ap (λ n. n - 5) shown)
          ∙ (ap₂ (λ b n. b && nat_lt (machine.room - kept_size one - 5) n)
          (is_same machine.generation tried.generation (sym tries.generation_is)) tries.room_is
          ∙ less machine.room (kept_size one)
          (subst (λ k. kept_size k ≤ machine.room) (sym same) tries.fits) (takes_six one))
