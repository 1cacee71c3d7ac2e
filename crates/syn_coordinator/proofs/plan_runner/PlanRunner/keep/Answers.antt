use Rattle.std.proofs.Common.{refl, sym, ap, map, ◌∙◌}
use Rattle.std.proofs.lemmas.List.{append-nil}
use Rattle.syn_image.specs.Archives.{kept_of}
use Rattle.syn_coordinator.specs.RecordOutcome.{no_memory}
use Rattle.syn_coordinator.proofs.plan_runner.PlanRunner.keep.Goals as goal

pub returns-then-is_err-clause-settles : goal.returns-then-is_err-clause-settles
returns-then-is_err-clause-settles g c pair journal is = no_memory is

pub returns-then-is_err-clause-written : goal.returns-then-is_err-clause-written
returns-then-is_err-clause-written g c =
    ap (map kept_of) c.reserve.ensures.items ∙ sym (append-nil _)

pub returns-then-is_err-clause-tried : goal.returns-then-is_err-clause-tried
returns-then-is_err-clause-tried g c = refl
