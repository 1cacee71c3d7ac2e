use Rattle.std.proofs.Common.{[], ap, sym, ◌∙◌}
use Rattle.syn_archive.specs.Archive.{disk_of}
use Rattle.syn_disk.specs.Arms.{is_stopped}
use Rattle.syn_sync.proofs.RunLemmas.{calls_none, calls_twice, stands_of}
use Rattle.syn_sync.proofs.driver.end_if_running.Goals as goal

pub loop-init : goal.loop-init
loop-init g c = record {
  calls = λ pair machine stands. calls_none _ pair machine stands;
  calm = sym c.is_cut.ensures ∙ c.if-is_cut.false;
}

pub loop-preserved : goal.loop-preserved
loop-preserved g c = record {
  calls = λ pair machine stands.
      let here = c.loop.invariant.calls pair machine stands in
      let calm = c.loop.invariant.calm in
      calls_twice c.loop.coordinator c.tick.new.coordinator pair machine [] [] here calm
      (c.tick.ensures.calls pair here.reached
      (stands_of c.loop.coordinator pair here.reached here.ends calm));
  calm = ap (λ a. is_stopped (g.D.Disk.arms (disk_of a))) c.tick.ensures.archive
      ∙ c.loop.invariant.calm;
}
