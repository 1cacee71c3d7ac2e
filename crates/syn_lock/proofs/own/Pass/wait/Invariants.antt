use Rattle.std.proofs.Common.{◌≡◌, ℕ, []}
use Rattle.syn_lock.specs.Views.{refused_times}
use Rattle.syn_lock.specs.inner.Rule.{known}
use Rattle.syn_lock.proofs.own.Pass.wait.Given as goal

abbrev pub invariant-loop : goal.invariant-loop
invariant-loop g l =
    let k = l.fn.self.seat.me.0 in
    record {
      same : l.self.seat.table_id
          ≡ l.fn.self.seat.table_id;
      waited : (times : ℕ) × (l.self.seat.me
          ≡ (known (refused_times k.view times) k.told k.watched k.inside k.passes, []));
    }
