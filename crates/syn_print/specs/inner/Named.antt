-- The items of a report, as the code holds them.
use Rattle.std.specs.Prelude.{option_map}
use Rattle.syn_refusal.specs.Refusals.{cause_of}
use Rattle.syn_print.specs.Reports as model
use Rattle.syn_print.specs.declared.report.named.Named.{Named}

abbrev pub named_of : Named → model.Named
named_of one = record { path = one.path.now; refused = option_map cause_of one.refused }
