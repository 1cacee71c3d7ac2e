use Rattle.std.proofs.Common.{rules, ap, refl}
use Rattle.syn_lock.specs.Locks.{origin_of}
use Rattle.syn_replica.specs.Growth.{IsGrown}
use Rattle.syn_shared.specs.Reads.{Tells}
use Rattle.syn_shared.proofs.HoldLemmas.{held_reading, still, later_still}
use Rattle.syn_shared.proofs.shared.SharedReplica.status.Goals as goal

pub leave-requires-clause-grown : goal.leave-requires-clause-grown
leave-requires-clause-grown g c = still _ _ c.enter-guard.result c.enter-guard.ensures.entered.1

pub returns-clause-held : goal.returns-clause-held
returns-clause-held g c = (
  c.enter-guard.ensures.entered.0,
  held_reading IsGrown _ (origin_of c.own-own.result.now) (ap origin_of c.own-own.ensures) _ _
      c.enter-guard.result c.deref.result.now (Tells c.args.place c.status-status.result)
      c.enter-guard.ensures.entered.1 c.deref.ensures (search rules) (record {
        same = refl;
        told = c.status-status.ensures.told;
        halted = c.status-status.ensures.halted;
        lawful = c.status-status.ensures.lawful;
        refusals = c.status-status.ensures.memory;
      }),
)

pub returns-clause-later : goal.returns-clause-later
returns-clause-later g c =
    later_still _ _ _ (origin_of c.own-own.result.now) (ap origin_of c.own-own.ensures)
    c.enter-guard.result c.enter-guard.ensures.later (search rules)
