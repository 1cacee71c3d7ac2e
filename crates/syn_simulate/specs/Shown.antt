-- What is printed of a world.
use Rattle.std.specs.Prelude.{ℕ, List, ◌++◌, codes, flat_map, Option, Some, None}
use Rattle.syn_disk.specs.declared.disk.Disk.{Ghosts}
use Rattle.syn_archive.specs.declared.archive.Archive.{Archive}
use Rattle.syn_path.specs.declared.side.Side.TheVariants.{Left, Right}
use Rattle.syn_replica.specs.declared.replica.Replica.{Replica}
use Rattle.syn_session.specs.Reports.{report_model}
use Rattle.syn_session.specs.declared.report.Report.{Report}
use Rattle.syn_print.specs.Reports.{report_lines}
use Rattle.syn_print.specs.Images.{archive_shown, replica_shown}
use Rattle.syn_world.specs.Worlds.{archive_in, replica_in, reports_in}
use Rattle.syn_world.specs.declared.world.World.{World}

-- the line of a machine that is down
abbrev pub down_shown : List ℕ
down_shown = codes "down\n"

-- what a side's replica shows while its machine is up
abbrev pub replica_or_down : {D : Type 0} → {disk : Ghosts D} → Option (Replica D disk) → List ℕ
replica_or_down (Some replica) = replica_shown replica
replica_or_down None = down_shown

-- and what the coordinator's archive shows
abbrev pub archive_or_down : {D : Type 0} → {disk : Ghosts D} → Option (Archive D disk) → List ℕ
archive_or_down (Some archive) = archive_shown archive
archive_or_down None = down_shown

-- reports, each with the number of what was acknowledged up to it, which is not printed
abbrev pub reports_shown : List (Report × ℕ) → List ℕ
reports_shown reports = flat_map (λ one. report_lines (report_model one.0)) reports

-- the reports in order, and then each of the three machines after its name
abbrev pub world_shown : {D : Type 0} → {disk : Ghosts D} → World D disk → List ℕ
world_shown world = reports_shown (reports_in world)
    ++ (codes "left\n" ++ (replica_or_down (replica_in world Left)
    ++ (codes "right\n" ++ (replica_or_down (replica_in world Right)
    ++ (codes "archive\n" ++ archive_or_down (archive_in world))))))
