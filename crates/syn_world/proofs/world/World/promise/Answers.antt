use Rattle.syn_world.proofs.PromiseLemmas.{keeps_promise}
use Rattle.syn_world.proofs.world.World.promise.Goals as goal

pub returns : goal.returns
returns g c = record {
  kept = λ pair before bytes old new steps opened same runs is.
      keeps_promise c.disk_laws.ensures.recovered c.promise.ensures.kept pair before bytes old new
      steps opened same runs c.args.self.now is;
}
