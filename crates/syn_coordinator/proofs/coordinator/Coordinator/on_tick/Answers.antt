use Rattle.std.proofs.Common.{refl, sym, ap, ◌∙◌, inl, inr}
use Rattle.syn_session.specs.Sendings.{messages_of}
use Rattle.syn_coordinator.proofs.TickLemmas.{tick_none, tick_again, tick_ends}
use Rattle.syn_coordinator.proofs.coordinator.Coordinator.on_tick.Goals as goal

pub returns-in_default-clause-step : goal.returns-in_default-clause-step
returns-in_default-clause-step g c pair machine stands =
    tick_none c.args.self.now _ pair machine stands refl _ c.in_default.is c.in_default.is
    (ap messages_of c.new.ensures.items)

pub returns-then-is_worn-clause-step : goal.returns-then-is_worn-clause-step
returns-then-is_worn-clause-step g c pair machine stands =
    tick_ends c.args.self.now _ pair machine stands c.end.ensures.plan_runner _
    c.in-Some.session c.in-Some.is _ (inl (sym c.is_worn.ensures ∙ c.if-is_worn.true, refl))
    c.end.ensures.running (λ running tells. c.end.ensures.report _ running refl tells)
    (ap messages_of c.end.ensures.silent)

pub returns-in-Ok-clause-step : goal.returns-in-Ok-clause-step
returns-in-Ok-clause-step g c pair machine stands =
    tick_again c.args.self.now _ pair machine stands refl _ c.in-Some.session c.in-Some.is _
    (sym c.is_worn.ensures ∙ c.if-is_worn.false) refl c.count_resend.ensures c.in-Ok.ensures.ok

pub returns-in-Err-clause-step : goal.returns-in-Err-clause-step
returns-in-Err-clause-step g c pair machine stands =
    tick_ends c.args.self.now _ pair machine stands c.end-in-Err.ensures.plan_runner _
    c.in-Some.session c.in-Some.is _
    (inr (sym c.is_worn.ensures ∙ c.if-is_worn.false, refl)) c.end-in-Err.ensures.running
    (λ running tells. c.end-in-Err.ensures.report _ running refl tells)
    (ap messages_of c.end-in-Err.ensures.silent)
