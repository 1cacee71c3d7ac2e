use Rattle.std.proofs.Common.{not, refl, ap, ◌∙◌}
use Rattle.syn_machine.specs.Report.{is_carrying, is_marking}
use Rattle.syn_session.proofs.ProgressLemmas.{record_is, count_fits, counts_none, counts_one}
use Rattle.syn_session.proofs.ProgressLemmas.{progress_recorded, cursor_fits, marks_else}
use Rattle.syn_session.proofs.ProgressLemmas.{no_conflict}
use Rattle.syn_session.proofs.plan_progress.PlanProgress.pass_marked.Goals as goal

pub returns : goal.returns
returns c = record {
  passes = λ left right reached planned what is at due other.
      let of = record_is planned planned.item what due in
      let marks = marks_else planned planned.item what due ∙ ap not other in
      let fits = count_fits c.args.self.now left right reached is planned at
      c.plan_laws.ensures.orderly what of is_marking c.args.self.now.marked is.marked marks in
      progress_recorded c.args.self.now _ left right reached is planned at refl
      (c.one_more-self-2.ensures (cursor_fits c.args.self.now left right reached is planned at))
      c.plan_laws.ensures.orderly what of (no_conflict planned planned.item what due)
      (counts_none c.args.self.now.done (is_carrying planned.item) other)
      (c.one_more-self.ensures fits
      ∙ counts_one c.args.self.now.marked (is_marking planned.item) marks) refl refl;
}
