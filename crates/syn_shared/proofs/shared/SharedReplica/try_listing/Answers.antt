use Rattle.std.proofs.Common.{rules, ap, refl}
use Rattle.syn_lock.specs.Locks.{origin_of}
use Rattle.syn_replica.specs.Growth.{IsGrown}
use Rattle.syn_shared.specs.Reads.{ListsMarks}
use Rattle.syn_shared.proofs.HoldLemmas.{held_reading, still, held_answer, later_still, later_none}
use Rattle.syn_shared.proofs.shared.SharedReplica.try_listing.Goals as goal

pub leave-requires-clause-grown : goal.leave-requires-clause-grown
leave-requires-clause-grown g c = still _ _ c.in-Ok.guard c.in-Ok.ensures.entered

pub returns-clause-held : goal.returns-clause-held
returns-clause-held g c =
    held_answer c.answered.result _ _ _ c.answered.ensures
    (held_reading IsGrown _ (origin_of c.own-own.result.now) (ap origin_of c.own-own.ensures) _ _
    c.in-Ok.guard c.deref.result.now (ListsMarks c.args.path.now c.listing-answer.result)
    c.in-Ok.ensures.entered c.deref.ensures (search rules) (record {
      same = refl;
      marks = c.listing-answer.ensures.marks;
      position = c.listing-answer.ensures.position;
      absent = c.listing-answer.ensures.absent;
      halted = c.listing-answer.ensures.halted;
      refusals = c.listing-answer.ensures.refusals;
    }))

pub returns-clause-later : goal.returns-clause-later
returns-clause-later g c =
    later_still _ _ _ (origin_of c.own-own.result.now)
    (ap origin_of c.own-own.ensures) c.in-Ok.guard c.in-Ok.ensures.later (search rules)

pub returns-in_default-clause-later : goal.returns-in_default-clause-later
returns-in_default-clause-later g c = later_none _ _ _ (search rules)
