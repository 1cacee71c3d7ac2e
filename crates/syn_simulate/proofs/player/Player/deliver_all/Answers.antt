use Rattle.std.proofs.Common.{◌≡◌, ◌-◌, ◌+◌, arith, inl, inr, map, refl, subst, sym}
use Rattle.std.specs.List.{range_with_len}
use Rattle.syn_runs.specs.World.{Deliver}
use Rattle.syn_simulate.specs.States.{Moves}
use Rattle.syn_simulate.proofs.LoopLemmas.{number_cut, number_end, number_on, number_unsent}
use Rattle.syn_simulate.specs.Lines.{Says, deliveries}
use Rattle.syn_simulate.specs.Players.{HasPlayed}
use Rattle.syn_simulate.proofs.player.Player.deliver_all.Goals as goal
use Rattle.syn_simulate.proofs.player.Player.deliver_all.Goals.{else-loop-number-test}
use Rattle.syn_simulate.proofs.player.Player.deliver_all.Goals.{then-loop-number-test+else-is_unsent+in-Ok+else-number-last}

pub loop-number-init : goal.loop-number-init
loop-number-init g c = record {
  from = omega arith;
  upto = inl refl;
  has = λ state is.
      let none : 0 ≡ c.args.first - c.args.first = omega arith in
      record {
        new = state;
        moves = subst (λ n. Moves state (map Deliver (range_with_len c.args.first n)) state)
            none refl;
        is = is;
      };
}

pub loop-number-preserved : goal.loop-number-preserved
loop-number-preserved g c = record {
  from = omega (arith, c.loop-number.invariant.from);
  upto = inr (omega (arith, c.loop-number-test.true));
  has = λ state is.
      let had = c.loop-number.invariant.has state is in
      number_on state c.args.first c.loop-number.number c.args.last c.loop-number.player had
      c.loop-number.invariant.from c.in-Ok.next (c.in-Ok.ensures had.new had.is);
}

pub returns-then-is_unsent : goal.returns-then-is_unsent
returns-then-is_unsent g c state is =
    let had = c.loop-number.invariant.has state is in
    let past = c.is_unsent.ensures.0 c.if-is_unsent.true in
    number_unsent state c.args.first c.loop-number.number c.args.last c.loop-number.player had
    c.loop-number.invariant.from (omega (arith, c.loop-number-test.true))
    past

pub returns-in-Err : goal.returns-in-Err
returns-in-Err g c state is =
    let had = c.loop-number.invariant.has state is in
    number_cut state c.args.first c.loop-number.number c.args.last c.loop-number.player had
    c.loop-number.invariant.from (omega (arith, c.loop-number-test.true)) c.in-Err.disks
    (c.in-Err.ensures had.new had.is)

pub returns : goal.returns
returns g c state is =
    let had = c.loop-number.invariant.has state is in
    elim c.loop-number-test.branch as (λ _. HasPlayed
    (Says (deliveries c.args.first c.args.last)) state c.loop-number-test.player) [
      | else-loop-number-test w ↦
          subst (λ p. HasPlayed (Says (deliveries c.args.first c.args.last)) state p)
          (sym w.player-is)
          (number_end state c.args.first c.loop-number.number c.args.last c.loop-number.player had
          (elim c.loop-number.invariant.upto [
            | inl same ↦ omega (arith, same, w.loop-number-test.false)
            | inr upto ↦ omega (arith, upto, c.loop-number.invariant.from, w.loop-number-test.false)
          ]))
      | then-loop-number-test+else-is_unsent+in-Ok+else-number-last w ↦
          subst (λ p. HasPlayed (Says (deliveries c.args.first c.args.last)) state p)
          (sym w.player-is)
          (number_end state c.args.first (c.loop-number.number + 1) c.args.last w.in-Ok.next
          (number_on state c.args.first c.loop-number.number c.args.last c.loop-number.player had
          c.loop-number.invariant.from w.in-Ok.next (w.in-Ok.ensures had.new had.is))
          (omega (arith, c.loop-number.invariant.from)))
    ]
