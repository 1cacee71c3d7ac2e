-- A world that starts from formatted disks.
use Rattle.std.specs.Prelude.{ℕ}
use Rattle.syn_disk.specs.declared.disk.Disk.{Ghosts}
use Rattle.syn_runs.specs.Headline.{formatted}
use Rattle.syn_world.specs.Starts.{IsFromOutside}
use Rattle.syn_simulate.specs.declared.error.SimulateError.{SimulateError}
use Rattle.syn_simulate.specs.declared.error.SimulateError.TheVariants.{Memory, Refused, Script}
use Rattle.syn_world.specs.Openings.{OpensFrom, StandFor, shown_on}
use Rattle.syn_world.specs.declared.world.Disks.{Disks}
use Rattle.syn_world.specs.declared.world.World.{World}

-- The disks are those of two replicas of a pair with no events, and of its archive with no session.
-- Nothing is armed at them
abbrev pub AreFormatted : {D : Type 0} → Ghosts D → ℕ → Disks D → Type 0
AreFormatted disk pair disks = StandFor disk.seen disk.arms pair disks formatted

-- The world was opened from such disks
pub record StartsFormatted {D : Type 0} {disk : Ghosts D} (pair : ℕ) (world : World D disk)
    : Type 0 where
  pub disks : Disks D
  pub stand : AreFormatted disk pair disks
  pub opens : OpensFrom pair (shown_on disk.seen disks) formatted world

-- the causes that lie outside: a device call failed, or memory was refused
abbrev pub IsOutside : SimulateError → Type 0
IsOutside (Script line) = ⊥
IsOutside (Refused refusal) = IsFromOutside refusal
IsOutside Memory = Unit {0}
