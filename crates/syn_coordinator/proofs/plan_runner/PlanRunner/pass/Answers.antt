use Rattle.std.proofs.Common.{refl, sym, subst, []}
use Rattle.std.proofs.lemmas.List.{append-nil}
use Rattle.syn_session.specs.Doings.{IsDoing}
use Rattle.syn_session.specs.Passing.{past_at}
use Rattle.syn_coordinator.specs.inner.Settling.{AsksSo, EndsSo}
use Rattle.syn_coordinator.proofs.EndedLemmas.{match_of_memory}
use Rattle.syn_coordinator.proofs.PassLemmas.{ends_here, ends_settled, further_so, on_past}
use Rattle.syn_coordinator.proofs.PassLemmas.{past_here}
use Rattle.syn_coordinator.proofs.SettleLemmas.{at_walk}
use Rattle.syn_coordinator.proofs.WalkLemmas.{passes_conflict}
use Rattle.syn_coordinator.proofs.BreakLemmas.{none_breaks, nothing_breaks}
use Rattle.syn_model.proofs.ExitLemmas.{match_of_exit}
use Rattle.syn_coordinator.proofs.plan_runner.PlanRunner.pass.Goals as goal

pub returns-in-Nothing-clause-step : goal.returns-in-Nothing-clause-step
returns-in-Nothing-clause-step g c pair journal taken all before is quiet at = (
  [],
  sym (append-nil _),
  ends_settled pair taken journal before c.args.left.now c.args.right.now c.args.self.now.archive
      c.args.self.now.tried is quiet.0 quiet.1 c.args.progress.now at.progress_is
      (subst (IsDoing c.args.progress.now c.args.left.now c.args.right.now) c.in-Nothing.is
      (c.in_ok-doing.ensures.ok before at.progress_is)),
)

pub returns-in_ok-pass_conflict-in-Conflict-clause-step :
    goal.returns-in_ok-pass_conflict-in-Conflict-clause-step
returns-in_ok-pass_conflict-in-Conflict-clause-step g c pair journal taken all before is quiet
    at =
    let left = c.args.left.now in
    let right = c.args.right.now in
    let progress = c.args.progress.now in
    let doing = subst (IsDoing progress left right) c.in-Conflict.is
    (c.in_ok-doing.ensures.ok before at.progress_is) in
    on_past pair taken journal before left right c.args.self.now c.args.self.now progress
    c.pass_conflict.new.self all at
    (past_here pair taken journal before left right c.args.self.now is quiet
    c.pass_conflict.new.self (past_at before) refl
    (passes_conflict pair taken journal before doing.0
    (at_walk before progress left right at.progress_is doing.0 doing.1) c.in-Conflict.path doing.2)
    (c.in_ok-pass_conflict-in-Conflict.ensures.passes left right before doing.0 at.progress_is
    doing.1
    doing.2))

pub returns-in_err-pass_conflict-in-Conflict-clause-step :
    goal.returns-in_err-pass_conflict-in-Conflict-clause-step
returns-in_err-pass_conflict-in-Conflict-clause-step g c pair journal taken all before is quiet
    at =
    let left = c.args.left.now in
    let right = c.args.right.now in
    match_of_memory c.from_residual-in_err-pass_conflict-in-Conflict.result _ _
    c.from_residual-in_err-pass_conflict-in-Conflict.ensures.1
    (ends_here pair taken journal before left right c.args.self.now is quiet
    c.pass_conflict.new.self c.pass_conflict.new.self
    (c.in_err-pass_conflict-in-Conflict.ensures.stays left right before at.progress_is) refl _ refl)

pub returns-in_ok-record_item-in-Mark-clause-step :
    goal.returns-in_ok-record_item-in-Mark-clause-step
returns-in_ok-record_item-in-Mark-clause-step g c pair journal taken all before is quiet at =
    let left = c.args.left.now in
    let right = c.args.right.now in
    let progress = c.args.progress.now in
    let doing = subst (IsDoing progress left right) c.in-Mark.is
    (c.in_ok-doing.ensures.ok before at.progress_is) in
    on_past pair taken journal before left right c.args.self.now c.record_item.new.self progress
    c.record_item.new.progress all at
    (c.in_ok-record_item-in-Mark.ensures.step pair journal left right taken before doing.0 is quiet
    at.progress_is doing.1 (doing.3 taken))

pub returns-in_err-record_item-in-Mark-clause-step :
    goal.returns-in_err-record_item-in-Mark-clause-step
returns-in_err-record_item-in-Mark-clause-step g c pair journal taken all before is quiet at =
    let left = c.args.left.now in
    let right = c.args.right.now in
    let doing = subst (IsDoing c.args.progress.now left right) c.in-Mark.is
    (c.in_ok-doing.ensures.ok before at.progress_is) in
    match_of_exit c.from_residual-in_err-record_item-in-Mark.result _ _ _
    c.from_residual-in_err-record_item-in-Mark.ensures.1
    (c.in_err-record_item-in-Mark.ensures.step pair journal left right taken before doing.0 is quiet
    at.progress_is doing.1 (doing.3 taken))

pub returns-in-Carry-clause-step : goal.returns-in-Carry-clause-step
returns-in-Carry-clause-step g c pair journal taken all before is quiet at =
    let left = c.args.left.now in
    let right = c.args.right.now in
    let progress = c.args.progress.now in
    let doing = subst (IsDoing progress left right) c.in-Carry.is
    (c.in_ok-doing.ensures.ok before at.progress_is) in
    further_so (AsksSo c.args.self.now c.args.self.now pair taken journal before
    c.carry.new.progress
    left right all) (EndsSo c.args.self.now c.args.self.now pair taken journal before
    c.carry.new.progress left right)
    (on_past pair taken journal before left right c.args.self.now c.args.self.now progress
    c.carry.new.progress all at) c.carry.result
    (c.carry.ensures.step pair journal left right taken all before doing.0 is quiet at doing.1
    doing.2 doing.3)

pub returns-in_err-doing-clause-step : goal.returns-in_err-doing-clause-step
returns-in_err-doing-clause-step g c pair journal taken all before is quiet at =
    match_of_memory c.from_residual.result _ _ c.from_residual.ensures.1
    (ends_here pair taken journal before c.args.left.now c.args.right.now c.args.self.now is quiet
    c.args.progress.now c.args.progress.now at.progress_is refl _ refl)

pub returns-in-Nothing-clause-breaks : goal.returns-in-Nothing-clause-breaks
returns-in-Nothing-clause-breaks g c = none_breaks c.args.self.now

pub returns-in-Carry-clause-breaks : goal.returns-in-Carry-clause-breaks
returns-in-Carry-clause-breaks g c = nothing_breaks c.args.self.now c.args.self.now
    c.carry.result c.carry.ensures.memory (none_breaks c.args.self.now)

pub returns-in_err-pass_conflict-in-Conflict-clause-breaks :
    goal.returns-in_err-pass_conflict-in-Conflict-clause-breaks
returns-in_err-pass_conflict-in-Conflict-clause-breaks g c =
    match_of_memory c.from_residual-in_err-pass_conflict-in-Conflict.result _ _
    c.from_residual-in_err-pass_conflict-in-Conflict.ensures.1 (none_breaks c.args.self.now)

pub returns-in_err-doing-clause-breaks : goal.returns-in_err-doing-clause-breaks
returns-in_err-doing-clause-breaks g c =
    match_of_memory c.from_residual.result _ _ c.from_residual.ensures.1
    (none_breaks c.args.self.now)
