use Rattle.syn_replica.specs.Edits.{event_by}
use Rattle.syn_tree.specs.Edits.{edit_of}
use Rattle.syn_shared.proofs.WorldLemmas.{edit_world}
use Rattle.syn_shared.proofs.StepLemmas.{step_by}
use Rattle.syn_shared.proofs.parts.edit_once.Goals as goal

pub returns-clause-edits : goal.returns-clause-edits
returns-clause-edits g c = record {
  world =
      λ pair agent machine is. edit_world pair _ c.edit.new.self agent machine is c.args.user
      (edit_of c.args.edit) c.edit.result c.edit.ensures.acknowledged c.edit.ensures.cause
      c.edit.ensures.refused c.edit.ensures.machine
      (c.edit.ensures.world pair machine.journal is.keeps);
  step =
      λ history stands. step_by _ c.edit.new.self history (event_by c.args.user c.args.edit) _
      stands c.edit.result (c.edit.ensures.acknowledged history stands)
      (c.edit.ensures.cause history stands) (c.edit.ensures.unchanged history stands)
      c.edit.ensures.machine;
  acknowledged = c.edit.ensures.acknowledged;
  any_moment = c.edit.ensures.any_moment;
  cause = c.edit.ensures.cause;
  refused = c.edit.ensures.refused;
  refusals = c.edit.ensures.refusals;
  unchanged = c.edit.ensures.unchanged;
  machine = c.edit.ensures.machine;
}

pub returns-clause-grown : goal.returns-clause-grown
returns-clause-grown g c = c.edit.ensures.machine.grown
