-- What a part of a disk in memory shows.
use Rattle.std.specs.Prelude.{◌≡◌, ℕ, Bool, false, List}
use Rattle.syn_disk.specs.Padded.{padded}
use Rattle.syn_disk.specs.Written.{is_written}
use Rattle.syn_disk.specs.declared.simulated.part.SimulatedPart.{SimulatedPart}
use Rattle.syn_disk.specs.declared.disk.TheConstants.{PART_SIZE}

-- what a read gives
abbrev pub content_of : SimulatedPart → List ℕ
content_of part = padded part.content.items PART_SIZE 0

-- what the last sync, or the last restart, kept
abbrev pub synced_of : SimulatedPart → List ℕ
synced_of part = padded part.synced.items PART_SIZE 0

-- which bytes were written since then
abbrev pub written_of : SimulatedPart → List Bool
written_of part = padded part.written PART_SIZE false

abbrev pub IsClean : SimulatedPart → Type 0
IsClean part = (i : ℕ) → is_written (written_of part) i ≡ false
