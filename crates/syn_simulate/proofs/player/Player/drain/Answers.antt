use Rattle.std.proofs.Common.{◌≡◌, [], arith, refl, subst}
use Rattle.syn_simulate.specs.declared.player.TheConstants.{MOST_DRAINED}
use Rattle.syn_simulate.proofs.LoopLemmas.{HasDrained, drained_all, drained_cut, drained_most}
use Rattle.syn_simulate.proofs.LoopLemmas.{drained_on, drained_from}
use Rattle.syn_simulate.proofs.player.Player.drain.Goals as goal

pub loop-drained-init : goal.loop-drained-init
loop-drained-init g c state is =
    record { made = []; new = state; lowest = refl; counted = refl; is = is }

pub loop-drained-preserved : goal.loop-drained-preserved
loop-drained-preserved g c state is =
    let had = c.loop-drained.invariant state is in
    let low = c.in-Some.ensures had.new had.is in
    let from = drained_from state c.loop-drained._drained c.in-Some.number c.loop-drained.player
    had low in
    drained_on state c.loop-drained._drained c.in-Some.number _ c.in-Ok.next from low
    (c.in-Ok.ensures from.new from.is)

pub returns-in_default : goal.returns-in_default
returns-in_default g c state is =
    let had = c.loop-drained.invariant state is in
    drained_all state c.loop-drained._drained c.loop-drained.player had
    (omega (arith, c.loop-drained-test.true)) (c.in_default.ensures had.new had.is)

pub returns-in-Err : goal.returns-in-Err
returns-in-Err g c state is =
    let had = c.loop-drained.invariant state is in
    let low = c.in-Some.ensures had.new had.is in
    let from = drained_from state c.loop-drained._drained c.in-Some.number c.loop-drained.player
    had low in
    drained_cut state c.loop-drained._drained c.in-Some.number _ c.in-Err.disks from
    c.loop-drained-test.true low (c.in-Err.ensures from.new from.is)

pub returns : goal.returns
returns g c state is =
    let all : c.loop-drained._drained ≡ MOST_DRAINED =
    omega (arith, c.loop-drained-test.false, c.loop-drained.auto._drained-end) in
    drained_most state c.loop-drained.player
    (subst (λ n. HasDrained state n c.loop-drained.player) all (c.loop-drained.invariant state is))
