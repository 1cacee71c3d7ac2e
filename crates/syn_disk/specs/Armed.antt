-- What it does to a disk to be told which calls to refuse.
use Rattle.std.specs.Prelude.{Some, if◌then◌else◌}
use Rattle.syn_disk.specs.Arms.{Arms, is_stopped}
use Rattle.syn_disk.specs.declared.simulated.limit.Arm.{Arm}
use Rattle.syn_disk.specs.declared.simulated.limit.Arm.TheVariants.{Fail, Stop}

-- an arm takes the place of one of its kind that is still to come
abbrev pub armed : Arms → Arm → Arms
armed arms (Fail call) = record arms { failure = call }
armed arms (Stop calls) = if is_stopped arms then arms else record arms { stop = Some calls }
