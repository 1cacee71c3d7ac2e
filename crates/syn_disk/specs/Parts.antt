-- Two parts as one.
use Rattle.std.specs.Prelude.{◌≡◌, ℕ, Bool, false, List, ◌++◌, length}
use Rattle.std.proofs.Common.{arith, length-append}
use Rattle.syn_disk.specs.SimulatedPart.{content_of, synced_of, written_of}
use Rattle.syn_disk.specs.Moments.{MayLeave}
use Rattle.syn_disk.specs.PaddedLaws.{length-padded}
use Rattle.syn_disk.specs.Written.{is_written}
use Rattle.syn_disk.specs.declared.disk.TheConstants.{DISK_SIZE, PART_SIZE}
use Rattle.syn_disk.specs.declared.simulated.part.SimulatedPart.{SimulatedPart}

abbrev pub both_contents : SimulatedPart → SimulatedPart → List ℕ
both_contents low high = content_of low ++ content_of high

abbrev pub both_synced : SimulatedPart → SimulatedPart → List ℕ
both_synced low high = synced_of low ++ synced_of high

abbrev pub both_written : SimulatedPart → SimulatedPart → List Bool
both_written low high = written_of low ++ written_of high

-- what a stop may leave of them
abbrev pub PartsMayLeave : SimulatedPart × SimulatedPart → List ℕ → Type 0
PartsMayLeave parts =
    MayLeave (both_contents parts.0 parts.1) (is_written (both_written parts.0 parts.1))

pub length-part : (part : SimulatedPart) → length (content_of part) ≡ PART_SIZE
length-part part = length-padded 0 part.content.items PART_SIZE part.tracks.fits

pub length-parts : (low high : SimulatedPart) → length (both_contents low high) ≡ DISK_SIZE
length-parts low high =
    omega (
      arith,
      length-append (content_of low)
          (content_of high),
      length-part low,
      length-part high,
    )

pub length-synced : (part : SimulatedPart) → length (synced_of part) ≡ PART_SIZE
length-synced part =
    length-padded 0 part.synced.items PART_SIZE
    (omega (arith, part.tracks.fits, part.tracks.synced_size))

pub length-written : (part : SimulatedPart) → length (written_of part) ≡ PART_SIZE
length-written part =
    length-padded false part.written PART_SIZE
    (omega (arith, part.tracks.fits, part.tracks.written_size))

pub length-both_written : (low high : SimulatedPart) → length (both_written low high) ≡ DISK_SIZE
length-both_written low high =
    omega (
      arith,
      length-append (written_of low)
          (written_of high),
      length-written low,
      length-written high,
    )
