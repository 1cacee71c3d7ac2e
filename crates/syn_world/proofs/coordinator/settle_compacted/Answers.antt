use Rattle.std.proofs.Common.{◌∙◌, ap, map, option_map}
use Rattle.syn_machine.specs.Coordinator.{no_call}
use Rattle.syn_world.specs.Outcomes.{causes_in}
use Rattle.syn_machine.specs.MachineSteps.{refused_by}
use Rattle.syn_coordinator.specs.Coordinators.{in_report}
use Rattle.syn_session.specs.Reports.{report_model}
use Rattle.syn_session.specs.Sendings.{messages_of}
use Rattle.syn_image.specs.Archives.{kept_of}
use Rattle.syn_world.proofs.coordinator.settle_compacted.Goals as goal

pub returns : goal.returns
returns g c =
    let told = c.refused_with-outcome.ensures in
    c.settle.ensures no_call refused_by (record {
      kept = ap (map kept_of) told.kept;
      sent = ap messages_of told.sent;
      reports = ap (λ r. in_report (option_map report_model r)) told.ended;
      refusals = λ pair machine stands. ap causes_in told.refused_is
          ∙ c.halted-refused.ensures pair machine stands;
    })
