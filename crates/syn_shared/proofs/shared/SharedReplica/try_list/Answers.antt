use Rattle.std.proofs.Common.{rules, ap, refl}
use Rattle.syn_lock.specs.Locks.{origin_of}
use Rattle.syn_replica.specs.Growth.{IsGrown}
use Rattle.syn_shared.specs.Reads.{Lists}
use Rattle.syn_shared.proofs.HoldLemmas.{held_reading, still, held_answer, later_still, later_none}
use Rattle.syn_shared.proofs.shared.SharedReplica.try_list.Goals as goal

pub leave-requires-clause-grown : goal.leave-requires-clause-grown
leave-requires-clause-grown g c = still _ _ c.in-Ok.guard c.in-Ok.ensures.entered

pub returns-clause-held : goal.returns-clause-held
returns-clause-held g c =
    held_answer c.answered.result _ _ _ c.answered.ensures
    (held_reading IsGrown _ (origin_of c.own-own.result.now) (ap origin_of c.own-own.ensures) _ _
    c.in-Ok.guard c.deref.result.now (Lists c.args.path.now c.list-answer.result)
    c.in-Ok.ensures.entered c.deref.ensures (search rules) (record {
      same = refl;
      names = c.list-answer.ensures.names;
      absent = c.list-answer.ensures.absent;
      halted = c.list-answer.ensures.halted;
      refusals = c.list-answer.ensures.refusals;
    }))

pub returns-clause-later : goal.returns-clause-later
returns-clause-later g c =
    later_still _ _ _ (origin_of c.own-own.result.now)
    (ap origin_of c.own-own.ensures) c.in-Ok.guard c.in-Ok.ensures.later (search rules)

pub returns-in_default-clause-later : goal.returns-in_default-clause-later
returns-in_default-clause-later g c = later_none _ _ _ (search rules)
