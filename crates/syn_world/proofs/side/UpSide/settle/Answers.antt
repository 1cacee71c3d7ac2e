use Rattle.std.proofs.Common.{◌≡◌, ◌∙◌, true, refl, sym}
use Rattle.std.proofs.lemmas.Bool.{false≢true}
use Rattle.syn_world.specs.Sides.{HasStopped}
use Rattle.syn_world.proofs.side.UpSide.settle.Goals as goal

pub returns-then-is_cut : goal.returns-then-is_cut
returns-then-is_cut g c =
    let stopped : HasStopped c.args.self ≡ true = cc in
    record {
      goes_on = λ runs. absurd (false≢true (sym runs ∙ stopped));
      stops = λ _. (refl, λ pair machine is. c.stop_at.ensures.rests pair machine is);
      counted = c.stop_at.ensures.count;
    }
