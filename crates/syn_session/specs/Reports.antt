-- What a session reports, as the model has it.
use Rattle.std.specs.Prelude.{map, option_map}
use Rattle.syn_machine.specs.Report as model
use Rattle.syn_refusal.specs.Refusals.{cause_of}
use Rattle.syn_session.specs.declared.report.End.{End}
use Rattle.syn_session.specs.declared.report.End.TheVariants.{Complete, Incomplete}
use Rattle.syn_session.specs.declared.report.Report.{Report}

abbrev pub end_of : End → model.End
end_of Complete = model.Complete
end_of Incomplete = model.Incomplete

abbrev pub report_model : Report → model.Report
report_model report = record {
  session = report.session;
  end = end_of report.end;
  ended = option_map cause_of report.ended;
  done = report.done;
  marked = report.marked;
  conflicts = report.conflicts.items;
  refused = map (λ one. (cause_of one.0, one.1)) report.refused.items;
}
