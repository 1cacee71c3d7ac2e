use Rattle.std.proofs.Common.{rules, ap}
use Rattle.syn_lock.specs.Locks.{origin_of}
use Rattle.syn_replica.specs.Growth.{IsGrown}
use Rattle.syn_shared.specs.Upkeep.{Reopens}
use Rattle.syn_shared.proofs.UpkeepLemmas.{reopen_world}
use Rattle.syn_shared.proofs.HoldLemmas.{held_now, held_answer, later_now, later_none}
use Rattle.syn_shared.proofs.shared.SharedReplica.try_reopen.Goals as goal

pub returns-clause-held : goal.returns-clause-held
returns-clause-held g c =
    held_answer c.answered.result _ _ _ c.answered.ensures
    (held_now IsGrown _ (origin_of c.own-own.result.now) (ap origin_of c.own-own.ensures) _ _
    c.in-Ok.guard c.deref_mut.result.now c.reopen-answer.new.self (Reopens c.reopen-answer.result)
    c.in-Ok.ensures.entered c.deref_mut.ensures.value (search rules) (record {
      world =
          λ pair agent machine is. reopen_world pair _ c.reopen-answer.new.self agent machine is
          c.reopen-answer.result
          (c.reopen-answer.ensures.world pair machine.journal is.keeps);
      given = c.reopen-answer.ensures.given;
      each = c.reopen-answer.ensures.each;
      before_or_after = c.reopen-answer.ensures.before_or_after;
      keeps_up = c.reopen-answer.ensures.keeps_up;
      lawful = c.reopen-answer.ensures.lawful;
      refusals = c.reopen-answer.ensures.refusals;
      unchanged = c.reopen-answer.ensures.unchanged;
      machine = c.reopen-answer.ensures.machine;
    }))

pub returns-clause-later : goal.returns-clause-later
returns-clause-later g c =
    later_now _ _ _ (origin_of c.own-own.result.now)
    (ap origin_of c.own-own.ensures) c.in-Ok.guard c.deref_mut.result.now c.reopen-answer.new.self
    c.in-Ok.ensures.later c.deref_mut.ensures.value (search rules)
    c.reopen-answer.ensures.machine.grown

pub returns-in_default-clause-later : goal.returns-in_default-clause-later
returns-in_default-clause-later g c = later_none _ _ _ (search rules)
