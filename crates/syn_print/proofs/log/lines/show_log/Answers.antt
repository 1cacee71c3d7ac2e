use Rattle.std.proofs.Common.{◌≡◌, ◌-◌, drop, length, reverse, subst, arith}
use Rattle.std.specs.Io.KnownBytes.{Appends}
use Rattle.syn_print.specs.Events.{lines_of}
use Rattle.syn_print.proofs.log.lines.show_log.Goals as goal

pub returns : goal.returns
returns g c =
    let all = c.args.logged.now in
    let old = g.W.Write.contents c.args.output.now in
    let new = g.W.Write.contents c.loop-index.output in
    let last : c.loop-index.index ≡ length all - c.args.most =
    omega (
      arith,
      c.loop-index-test.false,
      c.loop-index.invariant.above,
      c.saturating_sub-first.ensures,
    )
    in
    let shown = c.loop-index.invariant.shown in
    subst (λ at. Appends old new (lines_of (reverse (drop at all)))) last shown
