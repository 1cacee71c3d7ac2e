-- What a disk in memory keeps true of its content, its synced copy and its flags.
use Rattle.std.proofs.Common.{◌≡◌, ◌⊎◌, inl, inr, ℕ, ◌+◌, ◌-◌, ◌<◌, ◌≤◌, Bool, true, false, List}
use Rattle.std.proofs.Common.{length, get_or, drop, replicate, sym, ◌∙◌, ap, arith, length-take}
use Rattle.std.proofs.Common.{length-drop}
use Rattle.std.specs.Prelude.{slice_range}
use Rattle.std.proofs.lemmas.List.{get_or-take, get_or-drop, ext_get_or}
use Rattle.std.proofs.lemmas.Bool.{false≢true}
use Rattle.syn_disk.specs.Disk.{overwritten}
use Rattle.syn_disk.specs.inner.Memory.{Tracks}
use Rattle.syn_disk.specs.Written.{is_written, IsHull}
use Rattle.syn_disk.proofs.Flags.{place, length-marked, marked-outside, marked-inside}
use Rattle.syn_disk.proofs.Overwritten.{length-overwritten, overwritten-below, overwritten-in}
use Rattle.syn_disk.proofs.Overwritten.{overwritten-after}

-- A copy that is the original where nothing was written is the original, once the hull is copied.
module _ (copy original : List ℕ) (written : List Bool) (from to : ℕ)
    (hull : IsHull written from to)
    (size : length copy ≡ length original) (flags : length written ≡ length original)
    (same : (i : ℕ) → is_written written i ≡ false → get_or copy i 0 ≡ get_or original i 0) where
  part_size : length (slice_range original from to) ≡ to - from
  part_size =
      omega (
        arith,
        length-take (to - from) (drop from original),
        length-drop from original,
        hull.within,
      )

  fits : from + length (slice_range original from to) ≤ length copy
  fits = omega (arith, part_size, hull.ordered, hull.within)

  each : (i : ℕ) →
      get_or (overwritten copy from (slice_range original from to)) i 0 ≡ get_or original i 0
  each i = elim (place from to i) [
    | inl (inl less) ↦ overwritten-below copy from _ fits i 0 less ∙ same i (hull.below i less)
    | inl (inr past) ↦ overwritten-after copy from _ fits i 0 (omega (arith, part_size))
        ∙ same i (hull.above i past)
    | inr inside ↦ within i inside.0 inside.1
  ]
    where
      within : (j : ℕ) → from ≤ j → j < to →
          get_or (overwritten copy from (slice_range original from to)) j 0 ≡ get_or original j 0
      within j low high =
          let is : from + (j - from) ≡ j = omega arith in
          ap (λ k. get_or (overwritten copy from (slice_range original from to)) k 0) (sym is)
          ∙ overwritten-in copy from _ fits (j - from) 0 (omega (arith, part_size))
          ∙ get_or-take (to - from) (drop from original) (j - from) 0 (omega arith)
          ∙ get_or-drop from original (j - from) 0 ∙ ap (λ k. get_or original k 0) is

  pub caught_up : overwritten copy from (slice_range original from to) ≡ original
  caught_up = ext_get_or 0 _ original (length-overwritten copy from _ fits ∙ size) (λ i _. each i)

-- a write into what is kept
module _ (content synced : List ℕ) (written : List Bool) (size : ℕ)
    (tracks : Tracks content synced written size) (at : ℕ) (bytes : List ℕ)
    (fits : at + length bytes ≤ length content) where
  abbrev marked : List Bool
  marked = overwritten written at (replicate (length bytes) true)

  in_written : at + length bytes ≤ length written
  in_written = omega (arith, tracks.written_size)

  still : (i : ℕ) → is_written marked i ≡ false →
      get_or synced i 0 ≡ get_or (overwritten content at bytes) i 0
  still i none = elim (place at (at + length bytes) i) [
    | inl apart ↦ tracks.same i
        (sym (marked-outside written at (length bytes) in_written true i apart) ∙ none)
        ∙ sym (unchanged i apart)
    | inr inside ↦ absurd (false≢true
        (sym none ∙ marked-inside written at (length bytes) in_written true i inside.0 inside.1))
  ]
    where
      unchanged : (j : ℕ) → (j < at) ⊎ (at + length bytes ≤ j) →
          get_or (overwritten content at bytes) j 0 ≡ get_or content j 0
      unchanged j (inl less) = overwritten-below content at bytes fits j 0 less
      unchanged j (inr past) = overwritten-after content at bytes fits j 0 past

  pub tracks_write : Tracks (overwritten content at bytes) synced marked size
  tracks_write =
      let long = length-overwritten content at bytes fits in
      record {
        fits = omega (arith, long, tracks.fits);
        synced_size = tracks.synced_size ∙ sym long;
        written_size =
            length-marked written at (length bytes) in_written true ∙ tracks.written_size
            ∙ sym long;
        same = still;
      }
