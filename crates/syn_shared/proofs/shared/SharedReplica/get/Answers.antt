use Rattle.std.proofs.Common.{◌∙◌, rules, ap, refl, subst, sym}
use Rattle.syn_lock.specs.Locks.{origin_of}
use Rattle.syn_replica.specs.Growth.{IsGrown}
use Rattle.syn_replica.specs.Replica.{tree_shown}
use Rattle.syn_shared.specs.Reads.{EachFits, Gets}
use Rattle.syn_shared.proofs.LimitLemmas.{read_fits}
use Rattle.syn_shared.proofs.HoldLemmas.{held_reading, still, later_still}
use Rattle.syn_shared.proofs.shared.SharedReplica.get.Goals as goal

pub leave-requires-clause-grown : goal.leave-requires-clause-grown
leave-requires-clause-grown g c = still _ _ c.enter-guard.result c.enter-guard.ensures.entered.1

pub returns-clause-held : goal.returns-clause-held
returns-clause-held g c = (
  c.enter-guard.ensures.entered.0,
  held_reading IsGrown _ (origin_of c.own-own.result.now) (ap origin_of c.own-own.ensures) _ _
      c.enter-guard.result c.deref-2.result.now (Gets c.args.path.now c.get-content.result)
      c.enter-guard.ensures.entered.1 c.deref-2.ensures (search rules) (record {
        same = refl;
        content = c.get-content.ensures.found;
        fits =
            read_fits _ _ c.get-content.result c.get-content.ensures.found
            (subst (λ x. EachFits (tree_shown x))
            (c.deref.ensures ∙ sym c.deref-2.ensures) c.limit_laws.ensures);
        absent = c.get-content.ensures.absent;
        halted = c.get-content.ensures.halted;
        refusals = c.get-content.ensures.refusals;
      }),
)

pub returns-clause-later : goal.returns-clause-later
returns-clause-later g c =
    later_still _ _ _ (origin_of c.own-own.result.now) (ap origin_of c.own-own.ensures)
    c.enter-guard.result c.enter-guard.ensures.later (search rules)
