use Rattle.std.proofs.Common.{◌-◌, ◌≡◌, ◌≤◌, [], Some}
use Rattle.syn_lock.specs.inner.Rule.{counting, witness}
use Rattle.syn_lock.specs.Locks.{id_of, origin_of}
use Rattle.syn_lock.proofs.own.Own.pass.Given as goal

abbrev pub invariant-loop-given : goal.invariant-loop-given
invariant-loop-given g l =
    record {
      ours : l.seat.table_id ≡ id_of l.fn.self;
      counted : l.seat.me
          ≡ (counting (witness (Some (origin_of l.fn.self)) []) l.given, []);
      few : l.given ≤ 63;
    }

abbrev pub decreases-loop-given : goal.decreases-loop-given
decreases-loop-given g l = 63 - l.given
