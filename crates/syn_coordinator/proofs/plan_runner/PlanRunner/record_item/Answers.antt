use Rattle.std.proofs.Common.{◌∙◌, sym, [], ◌∷◌, inl, inr, refl}
use Rattle.syn_coordinator.specs.declared.session_end.SessionEnd.TheVariants.{Early, Failed}
use Rattle.syn_coordinator.specs.inner.Advancing.{kept_by}
use Rattle.syn_coordinator.proofs.AdvanceLemmas.{record_due}
use Rattle.syn_session.proofs.ProgressLemmas.{no_conflict}
use Rattle.syn_coordinator.proofs.EndedLemmas.{match_of_memory}
use Rattle.syn_coordinator.proofs.SettleLemmas.{ends_for_memory, is_cut_off, is_ended, is_kept}
use Rattle.syn_coordinator.proofs.SettleLemmas.{is_refused, still_is}
use Rattle.syn_coordinator.specs.declared.due.RecordOutcome.TheVariants as due
use Rattle.syn_image.specs.Archives.{kept_for}
use Rattle.syn_coordinator.proofs.BreakLemmas.{cut_breaks}
use Rattle.syn_coordinator.proofs.plan_runner.PlanRunner.record_item.Goals as goal

pub returns-then-is_cut-clause-step : goal.returns-then-is_cut-clause-step
returns-then-is_cut-clause-step g c pair journal left right taken before planned is quiet
    progress_is at is_due = (
      kept_by (kept_for c.args.item_record) c.keep-outcome.result,
      c.keep-outcome.ensures.written,
      is_cut_off c.keep-outcome.new.self.archive c.keep-outcome.new.self.tried pair taken journal
          before
          c.args.progress.now left right progress_is planned at
          (kept_for c.args.item_record) is_due quiet.1 c.args.self.now.tried quiet.0
          c.keep-outcome.result
          (c.keep-outcome.ensures.settles pair journal is) c.keep-outcome.ensures.tried
          (sym c.is_cut.ensures ∙ c.if-is_cut.true) c.args.progress.now Failed,
    )

pub returns-in-Recorded-clause-step : goal.returns-in-Recorded-clause-step
returns-in-Recorded-clause-step g c pair journal left right taken before planned is quiet
    progress_is
    at is_due =
    let what = kept_for c.args.item_record in
    let later = c.pass_kept.ensures.passes left right before planned what progress_is at
    (record_due c.args.progress.now.cursor planned taken what is_due) in (
      what ∷ [],
      c.in-Recorded.ensures.written,
      later.cursor,
      is_kept c.keep-outcome.new.self.archive c.keep-outcome.new.self.tried pair taken journal
          before
          c.args.progress.now left right progress_is planned at what is_due quiet.1
          (sym c.is_cut.ensures ∙ c.if-is_cut.false)
          (c.in-Recorded.ensures.settles pair journal is)
          (c.in-Recorded.ensures.tried ∙ quiet.0) c.pass_kept.new.self later,
      c.in-Recorded.ensures.tried ∙ quiet.0,
    )

pub returns-in_ok-refuse-in-Refused-clause-step : goal.returns-in_ok-refuse-in-Refused-clause-step
returns-in_ok-refuse-in-Refused-clause-step g c pair journal left right taken before planned is
    quiet progress_is at is_due =
    let what = kept_for c.args.item_record in
    let later = c.in_ok-refuse-in-Refused.ensures.passes left right before planned progress_is at
    (no_conflict planned planned.item what (record_due c.args.progress.now.cursor planned taken what
    is_due)) in (
      [],
      c.in-Refused.ensures.written,
      later.cursor,
      is_refused c.keep-outcome.new.self.archive c.keep-outcome.new.self.tried pair taken journal
          before
          c.args.progress.now left right progress_is planned at what is_due quiet.1
          (sym c.is_cut.ensures ∙ c.if-is_cut.false)
          c.in-Refused.why (c.in-Refused.ensures.settles pair journal is)
          (c.in-Refused.ensures.tried ∙ quiet.0) c.refuse.new.self later,
      c.in-Refused.ensures.tried ∙ quiet.0,
    )

pub returns-in_err-refuse-in-Refused-clause-step :
    goal.returns-in_err-refuse-in-Refused-clause-step
returns-in_err-refuse-in-Refused-clause-step g c pair journal left right taken before planned is
    quiet progress_is at is_due =
    let what = kept_for c.args.item_record in
    match_of_memory c.from_residual.result _ _ c.from_residual.ensures.1 (
      [],
      c.in-Refused.ensures.written,
      ends_for_memory c.keep-outcome.new.self.archive c.keep-outcome.new.self.tried pair taken
          journal
          before c.refuse.new.self left right
          (still_is c.keep-outcome.new.self.archive c.keep-outcome.new.self.tried pair taken
          journal before
          c.args.progress.now left right progress_is planned at what is_due quiet.1
          (sym c.is_cut.ensures ∙ c.if-is_cut.false)
          c.in-Refused.why (c.in-Refused.ensures.settles pair journal is)
          (c.in-Refused.ensures.tried ∙ quiet.0)) (c.in-Refused.ensures.tried ∙ quiet.0) quiet.1
          (c.in_err-refuse-in-Refused.ensures.stays left right before progress_is),
    )

pub returns-in-Ends-clause-step : goal.returns-in-Ends-clause-step
returns-in-Ends-clause-step g c pair journal left right taken before planned is quiet progress_is at
    is_due = (
      [],
      c.in-Ends.ensures.written,
      is_ended c.keep-outcome.new.self.archive c.keep-outcome.new.self.tried pair taken journal
          before
          c.args.progress.now left right progress_is planned at
          (kept_for c.args.item_record) is_due quiet.1 c.args.self.now.tried quiet.0
          (due.Ends c.in-Ends.why) (Early c.in-Ends.why) refl
          (c.in-Ends.ensures.settles pair journal is) c.in-Ends.ensures.tried,
    )

pub returns-in-Unsent-clause-step : goal.returns-in-Unsent-clause-step
returns-in-Unsent-clause-step g c pair journal left right taken before planned is quiet progress_is
    at
    is_due = (
      [],
      c.in-Unsent.ensures.written,
      is_ended c.keep-outcome.new.self.archive c.keep-outcome.new.self.tried pair taken journal
          before
          c.args.progress.now left right progress_is planned at
          (kept_for c.args.item_record) is_due quiet.1 c.args.self.now.tried quiet.0 due.Unsent
          Failed
          refl (c.in-Unsent.ensures.settles pair journal is) c.in-Unsent.ensures.tried,
    )

pub returns-in-Tried-clause-step : goal.returns-in-Tried-clause-step
returns-in-Tried-clause-step g c pair journal left right taken before planned is quiet
    progress_is at
    is_due = (
      [],
      c.in-Tried.ensures.written,
      is_ended c.keep-outcome.new.self.archive c.keep-outcome.new.self.tried pair taken journal
          before
          c.args.progress.now left right progress_is planned at
          (kept_for c.args.item_record) is_due quiet.1 c.args.self.now.tried quiet.0 due.Tried
          Failed
          refl (c.in-Tried.ensures.settles pair journal is) c.in-Tried.ensures.tried,
    )

pub returns-then-is_cut-clause-breaks : goal.returns-then-is_cut-clause-breaks
returns-then-is_cut-clause-breaks g c = cut_breaks c.args.self.now c.keep-outcome.new.self
    c.keep-outcome.result (sym c.is_cut.ensures ∙ c.if-is_cut.true) c.keep-outcome.ensures.breaks

pub returns-in-Recorded-clause-breaks : goal.returns-in-Recorded-clause-breaks
returns-in-Recorded-clause-breaks g c = c.in-Recorded.ensures.breaks

pub returns-in_ok-refuse-in-Refused-clause-breaks :
    goal.returns-in_ok-refuse-in-Refused-clause-breaks
returns-in_ok-refuse-in-Refused-clause-breaks g c = c.in-Refused.ensures.breaks

pub returns-in_err-refuse-in-Refused-clause-breaks :
    goal.returns-in_err-refuse-in-Refused-clause-breaks
returns-in_err-refuse-in-Refused-clause-breaks g c =
    match_of_memory c.from_residual.result _ _ c.from_residual.ensures.1 c.in-Refused.ensures.breaks

pub returns-in-Ends-clause-breaks : goal.returns-in-Ends-clause-breaks
returns-in-Ends-clause-breaks g c = c.in-Ends.ensures.breaks

pub returns-in-Unsent-clause-breaks : goal.returns-in-Unsent-clause-breaks
returns-in-Unsent-clause-breaks g c = inl c.in-Unsent.ensures.breaks

pub returns-in-Tried-clause-breaks : goal.returns-in-Tried-clause-breaks
returns-in-Tried-clause-breaks g c = inr c.in-Tried.ensures.breaks
