use Rattle.std.proofs.Common.{◌≡◌, ◌∙◌, arith, false, sym, true}
use Rattle.syn_shared.proofs.HoldLemmas.{later_twice}
use Rattle.syn_shared.proofs.checkpointer.keep_up.Goals as goal
use Rattle.syn_shared.specs.Checkpointer.{busy, compacts, reopens, rests}

pub returns-in_default-clause-keeps : goal.returns-in_default-clause-keeps
returns-in_default-clause-keeps g c = busy c.in_default.ensures.held

pub returns-then-health-clause-keeps : goal.returns-then-health-clause-keeps
returns-then-health-clause-keeps g c =
    reopens c.in-Some.health c.journal_health.new.pass c.try_reopen.result c.in-Some.ensures.held
    c.if-health.true c.try_reopen.ensures.held

pub returns-then-health-clause-later : goal.returns-then-health-clause-later
returns-then-health-clause-later g c =
    later_twice _ _ _ _ c.in-Some.ensures.later c.try_reopen.ensures.later

pub returns-then-health-least-clause-keeps : goal.returns-then-health-least-clause-keeps
returns-then-health-least-clause-keeps g c =
    let room = c.if-health-least.true in
    compacts c.in-Some.health c.journal_health.new.pass c.try_checkpoint.result
    c.in-Some.ensures.held
    (λ halted. let k : false ≡ true = sym c.if-health.false ∙ halted in cc) (omega (arith, room))
    c.try_checkpoint.ensures.held

pub returns-then-health-least-clause-later : goal.returns-then-health-least-clause-later
returns-then-health-least-clause-later g c =
    later_twice _ _ _ _ c.in-Some.ensures.later c.try_checkpoint.ensures.later

pub returns-clause-keeps : goal.returns-clause-keeps
returns-clause-keeps g c =
    let room = c.if-health-least.false in
    rests c.in-Some.health c.in-Some.ensures.held
    (λ halted. let k : false ≡ true = sym c.if-health.false ∙ halted in cc) (omega (arith, room))
