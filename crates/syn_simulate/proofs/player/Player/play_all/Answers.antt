use Rattle.std.proofs.Common.{◌≡◌, ◌∙◌, ◌++◌, [], arith, ap, refl, subst, sym}
use Rattle.std.proofs.lemmas.Grind.{common_steps}
use Rattle.syn_simulate.specs.Players.{EndsIn, HasPlayedAll}
use Rattle.syn_simulate.proofs.LoopLemmas.{all_cut, all_played}
use Rattle.syn_simulate.proofs.player.Player.play_all.Goals as goal

pub loop-line-init : goal.loop-line-init
loop-line-init g c = record {
  whole = grind (arith, common_steps);
  has = λ state is.
      record { steps = []; new = state; plays = (refl, refl); runs = refl; is = is };
}

pub loop-line-preserved : goal.loop-line-preserved
loop-line-preserved g c = record {
  whole = grind (arith, common_steps);
  has = λ state is.
      let had = c.loop-line.invariant.has state is in
      all_played state c.loop-line.yielded c.in-Some.line c.loop-line.player c.in-Ok.next had
      (c.in-Ok.ensures had.new had.is);
}

pub returns-in-Err : goal.returns-in-Err
returns-in-Err g c state is =
    let had = c.loop-line.invariant.has state is in
    let rest = c.next.new.self.rest.items in
    let whole = c.loop-line.invariant.whole
    ∙ ap (λ l. c.loop-line.yielded ++ l) c.in-Some.ensures.steps.0 in
    subst (λ l. EndsIn g.D.Disk l state c.in-Err.disks) (sym whole)
    (all_cut state c.loop-line.yielded c.in-Some.line rest c.loop-line.player c.in-Err.disks had
    (c.in-Err.ensures had.new had.is))

pub returns : goal.returns
returns g c state is =
    let all : c.args.lines.items ≡ c.loop-line.yielded = grind (arith, common_steps) in
    subst (λ l. HasPlayedAll l state c.loop-line.player) (sym all)
    (c.loop-line.invariant.has state is)
