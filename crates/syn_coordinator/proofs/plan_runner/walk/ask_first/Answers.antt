use Rattle.std.proofs.Common.{refl, subst, sym}
use Rattle.syn_machine.specs.Side.{Staged}
use Rattle.syn_propagate.specs.Transfers.{Follows}
use Rattle.syn_session.specs.Carrying.{AsksOne}
use Rattle.syn_session.specs.declared.session.Asks.TheVariants.{One}
use Rattle.syn_session.specs.Stages.{Carries, plan_in}
use Rattle.syn_coordinator.proofs.FreshLemmas.{asked_past}
use Rattle.syn_session.proofs.CarryingLemmas.{carries_on}
use Rattle.syn_coordinator.proofs.SettleLemmas.{fresh_for}
use Rattle.syn_coordinator.proofs.plan_runner.walk.ask_first.Goals as goal

pub returns-in-Ok-Ask-clause-step : goal.returns-in-Ok-Ask-clause-step
returns-in-Ok-Ask-clause-step c archive left right all before planned is at carries asked =
    let progress = c.args.progress.now in
    let fresh = fresh_for c.plan_laws.ensures.orderly archive progress left right before is planned
    at
    c.args.carrying carries all asked in
    subst (λ carrying. Carries archive (record progress { carrying = carrying }) left right all
    before
    (λ transfer. AsksOne transfer all (One c.in-Ok-Ask.ask)))
    (sym c.replace.ensures.after)
    (carries_on archive progress left right before is planned at c.args.carrying
    (record c.args.carrying
    { transfer = c.step.new.self }) c.step.ensures.spec refl carries all
    (asked_past (plan_in progress left right) progress.cursor all asked)
    (λ transfer. AsksOne transfer all (One c.in-Ok-Ask.ask))
    (subst (λ next. Follows c.step.new.self all Staged next) c.in-Ok-Ask.field-0-is
    (c.in-Ok-Ask.ensures.starts all refl c.requires fresh Staged)))
