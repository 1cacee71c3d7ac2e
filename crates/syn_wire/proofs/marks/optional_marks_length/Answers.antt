use Rattle.std.proofs.Common.{length, option_map, sym, ap, ◌∙◌}
use Rattle.syn_model.specs.MarkSpelling.{mark_spelling}
use Rattle.syn_model.specs.Version.{current_version}
use Rattle.syn_mark.specs.Marks.{or_absent}
use Rattle.syn_wire.proofs.MarkLemmas.{no_marks}
use Rattle.syn_wire.proofs.marks.optional_marks_length.Goals as goal

pub returns-in-None-clause-length : goal.returns-in-None-clause-length
returns-in-None-clause-length c =
    sym (ap (λ o. length (mark_spelling (or_absent (option_map (λ there. there.now) o))))
    c.in-None.is ∙ ap length (no_marks current_version))
