use Rattle.std.proofs.Common.{ap, codes, subst}
use Rattle.std.proofs.lemmas.Result.{on_ok_weaker}
use Rattle.std.specs.Io.KnownBytes.{Appends}
use Rattle.syn_path.specs.declared.side.Side.TheVariants.{Left, Right}
use Rattle.syn_simulate.specs.Shown.{archive_or_down, replica_or_down, reports_shown}
use Rattle.syn_world.specs.Worlds.{archive_in, replica_in, reports_in}
use Rattle.std.proofs.KnownBytes.{Appends-trans}
use Rattle.syn_simulate.proofs.show.show_world.Goals as goal

pub returns : goal.returns
returns g c =
    let world = c.args.world.now in
    let held = g.W.Write.contents in
    let reports = reports_shown (reports_in world) in
    let left = replica_or_down (replica_in world Left) in
    let right = replica_or_down (replica_in world Right) in
    let archive = archive_or_down (archive_in world) in
    let s0 = held c.args.output.now in
    let s1 = held c.show_reports.new.output in
    let s2 = held c.write_all.new.self in
    let s3 = held c.show_side.new.output in
    let s4 = held c.write_all-2.new.self in
    let s5 = held c.show_side-2.new.output in
    let s6 = held c.write_all-3.new.self in
    let s7 = held c.show_coordinator.new.output in
    let wrote_reports = subst (Appends s0 s1) (ap reports_shown c.reports.ensures)
    c.in_ok-show_reports.ensures in
    let wrote_left = subst (Appends s2 s3) (ap replica_or_down c.replica.ensures)
    c.in_ok-show_side.ensures in
    let wrote_right = subst (Appends s4 s5) (ap replica_or_down c.replica-2.ensures)
    c.in_ok-show_side-2.ensures in
    on_ok_weaker c.show_coordinator.result
    (λ shown.
    Appends-trans s0 s1 s7 reports _ wrote_reports
    (Appends-trans s1 s2 s7 (codes "left\n") _ c.in_ok-write_all.ensures.bytes
    (Appends-trans s2 s3 s7 left _ wrote_left
    (Appends-trans s3 s4 s7 (codes "right\n") _ c.in_ok-write_all-2.ensures.bytes
    (Appends-trans s4 s5 s7 right _ wrote_right
    (Appends-trans s5 s6 s7 (codes "archive\n") archive c.in_ok-write_all-3.ensures.bytes
    (subst (Appends s6 s7) (ap archive_or_down c.archive.ensures) shown)))))))
    c.show_coordinator.ensures
