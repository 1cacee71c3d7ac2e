use Rattle.std.proofs.Common.{option_map, subst, sym}
use Rattle.syn_mark.specs.Marks.{or_absent}
use Rattle.syn_model.specs.Mark.{IsMarks}
use Rattle.syn_coordinator.proofs.DueLemmas.{nothing_marks}
use Rattle.syn_coordinator.proofs.due.are_lawful.Goals as goal

pub returns-in-None : goal.returns-in-None
returns-in-None c =
    subst (λ o. IsMarks (or_absent (option_map (λ there. there.now) o)))
    (sym c.in-None.is) nothing_marks
