use Rattle.std.proofs.Common.{◌≡◌, true, subst}
use Rattle.std.specs.Prelude.{IfSome}
use Rattle.syn_world.specs.Outcomes.{Tells}
use Rattle.syn_world.proofs.ListLemmas.{is_listed}
use Rattle.syn_world.proofs.running.Running.told.Goals as goal

pub returns-then-take-clause-ends : goal.returns-then-take-clause-ends
returns-then-take-clause-ends g c old new made refusals runs listed told goes =
    let kept : c.take.result ≡ true = cc in
    record {
      machines = record {
        pair = runs.pair;
        left = runs.left;
        right = runs.right;
        coordinator = runs.coordinator;
      };
      lists = is_listed c.args.self.lists c.take.new.self old new c.in-Some.outcome made refusals
          (c.take.ensures kept) listed
          (subst (λ o. IfSome o (λ told. Tells told made refusals)) c.in-Some.is told) goes;
    }
