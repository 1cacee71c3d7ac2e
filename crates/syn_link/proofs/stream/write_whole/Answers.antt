use Rattle.std.proofs.Common.{◌++◌, take}
use Rattle.std.proofs.KnownBytes.{Appends-trans}
use Rattle.syn_link.proofs.WriteLemmas.{moves_front}
use Rattle.syn_link.proofs.stream.write_whole.Goals as goal

pub loop-preserved : goal.loop-preserved
loop-preserved g c =
    let (done, split, appended) = c.loop.invariant in
    let rest = c.loop.rest.now in
    let n = c.in_ok-count.count in (
      done ++ take n rest,
      moves_front _ done rest n split,
      Appends-trans _ _ _ _ _ appended c.in_ok-count.ensures.written,
    )
