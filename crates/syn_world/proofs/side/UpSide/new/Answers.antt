use Rattle.std.proofs.Common.{◌∙◌, sym}
use Rattle.syn_world.proofs.SideLemmas.{none_not_some}
use Rattle.syn_world.proofs.side.UpSide.new.Goals as goal

pub returns-clause-runs : goal.returns-clause-runs
returns-clause-runs g c pair machine agent none is idle = record {
  is = record { keeps = is.keeps; staging = is.staging ∙ (none ∙ sym c.new.ensures) };
  idle = λ _. idle;
  tries = λ told writing. absurd (none_not_some told (sym idle ∙ writing));
}
