use Rattle.std.proofs.Common.{◌++◌, option_map, sym, ap, ◌∙◌}
use Rattle.syn_model.specs.MarkSpelling.{mark_spelling}
use Rattle.syn_model.specs.Version.{current_version}
use Rattle.syn_mark.specs.Marks.{or_absent}
use Rattle.syn_wire.proofs.MarkLemmas.{no_marks}
use Rattle.syn_wire.proofs.marks.write_optional_marks.Goals as goal

pub returns-in_ok-push-in-None-clause-added : goal.returns-in_ok-push-in-None-clause-added
returns-in_ok-push-in-None-clause-added c =
    c.in_ok-push-in-None.ensures.items ∙ ap (λ b. c.args.out.now.items ++ b)
    (sym (no_marks current_version)
    ∙ ap (λ o. mark_spelling (or_absent (option_map (λ there. there.now) o))) (sym c.in-None.is))
