use Rattle.std.proofs.Common.{Some, ap, refl, sym, ◌∙◌}
use Rattle.syn_model.specs.Archive.{kept_refusal}
use Rattle.syn_model.proofs.ExitLemmas.{if_err_of_exit, match_of_exit}
use Rattle.syn_refusal.specs.Refusals.{cause_of}
use Rattle.syn_session.specs.Passing.{refused_at}
use Rattle.syn_session.proofs.ProgressLemmas.{no_conflict}
use Rattle.syn_coordinator.proofs.EndedLemmas.{match_of_memory, memory_alone}
use Rattle.syn_coordinator.proofs.PassLemmas.{asks_here, carried_unfit, ends_here, past_here}
use Rattle.syn_image.specs.Archives.{kept_for}
use Rattle.syn_coordinator.proofs.plan_runner.PlanRunner.carry.Goals as goal

pub returns-in-Err : goal.returns-in-Err
returns-in-Err g c = record {
  step =
      λ pair journal left right taken all before planned is quiet at there spec record_is.
      past_here pair taken journal before left right c.args.self.now is quiet c.refuse.new.self
      (refused_at before (cause_of c.refusal.result) planned) refl
      (carried_unfit pair taken journal before left right c.args.self.now.archive is
      c.args.progress.now at.progress_is planned there c.args.carrying spec record_is
      c.refusal.result
      (ap (λ w. Some w) c.refusal.ensures ∙ c.in-Err.ensures))
      (c.in_ok-refuse.ensures.passes left right before planned at.progress_is there
      (no_conflict planned planned.item _ record_is));
  memory = tt;
}

pub returns-in_err-refuse : goal.returns-in_err-refuse
returns-in_err-refuse g c = record {
  step =
      λ pair journal left right taken all before planned is quiet at there spec record_is.
      match_of_memory c.from_residual.result _ _ c.from_residual.ensures.1
      (ends_here pair taken journal before left right c.args.self.now is quiet c.refuse.new.self
      c.refuse.new.self (c.in_err-refuse.ensures.stays left right before at.progress_is) refl _
      refl);
  memory = memory_alone c.from_residual.result c.from_residual.ensures.1;
}

pub returns : goal.returns
returns g c = record {
  step =
      λ pair journal left right taken all before planned is quiet at there spec record_is.
      asks_here pair taken journal before left right c.args.self.now is quiet
      c.ask_first.new.progress
      all c.in_ok-ask_first.field-0
      (c.in_ok-ask_first.ensures.step journal.value left right all before planned at.progress_is
      there
      (record {
        spec = spec;
        record_is = record_is;
        can = ap (λ a. kept_refusal a (kept_for
            c.args.carrying.item_record)) (sym is.remembers) ∙ sym c.in_default.ensures;
      }) at.asked);
  memory = tt;
}

pub returns-in_err-ask_first : goal.returns-in_err-ask_first
returns-in_err-ask_first g c = record {
  step =
      λ pair journal left right taken all before planned is quiet at there spec record_is.
      match_of_exit c.from_residual-in_err-ask_first.result _ _ _
      c.from_residual-in_err-ask_first.ensures.1
      (ends_here pair taken journal before left right c.args.self.now is quiet c.args.progress.now
      c.ask_first.new.progress at.progress_is c.in_err-ask_first.ensures.stays _
      c.in_err-ask_first.ensures.memory);
  memory = if_err_of_exit c.from_residual-in_err-ask_first.result _ _
      c.from_residual-in_err-ask_first.ensures.1 c.in_err-ask_first.ensures.memory;
}
