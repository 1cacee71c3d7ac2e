use Rattle.std.proofs.Common.{◌↔◌, ◌∙◌, ap, refl, rules, subst, sym}
use Rattle.std.specs.Prelude.{IsTrue}
use Rattle.syn_lock.specs.Locks.{origin_of}
use Rattle.syn_replica.specs.Growth.{IsGrown}
use Rattle.syn_replica.specs.Replica.{IsHalted}
use Rattle.syn_shared.proofs.checkpointer.journal_health.Goals as goal
use Rattle.syn_shared.specs.Checkpointer.{ShowsHealth}
use Rattle.syn_shared.proofs.HoldLemmas.{held_reading, later_none, later_still, still}

pub returns-in_default-clause-later : goal.returns-in_default-clause-later
returns-in_default-clause-later g c = later_none _ _ _ (search rules)

pub leave-requires-clause-grown : goal.leave-requires-clause-grown
leave-requires-clause-grown g c = still _ _ c.in-Ok.guard c.in-Ok.ensures.entered

pub returns-clause-held : goal.returns-clause-held
returns-clause-held g c =
    held_reading IsGrown _ (origin_of c.own-own.result.now) (ap origin_of c.own-own.ensures) _ _
    c.in-Ok.guard c.deref.result.now
    (ShowsHealth (record { room = c.room.result; is_halted = c.is_halted.result }))
    c.in-Ok.ensures.entered c.deref.ensures (search rules) (record {
      same = refl;
      room = c.room.ensures;
      halted = subst (λ x. IsTrue c.is_halted.result ↔ IsHalted x)
          (c.deref-2.ensures ∙ sym c.deref.ensures) c.is_halted.ensures;
    })

pub returns-clause-later : goal.returns-clause-later
returns-clause-later g c =
    later_still _ _ _ (origin_of c.own-own.result.now) (ap origin_of c.own-own.ensures)
    c.in-Ok.guard c.in-Ok.ensures.later (search rules)
