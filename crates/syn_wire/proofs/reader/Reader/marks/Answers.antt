use Rattle.std.proofs.Common.{◌++◌, ap, subst, sym, ◌∙◌}
use Rattle.syn_model.specs.MarkSpelling.{mark_spelling_in}
use Rattle.syn_wire.specs.Marks.{IsMarkTreeIn}
use Rattle.syn_wire.specs.Reads.{NothingStands}
use Rattle.syn_wire.specs.Versions.{version_of}
use Rattle.syn_wire.proofs.MarkLemmas.{no_marks}
use Rattle.syn_wire.proofs.MarkTreeLemmas.{no_marks_there, nothing_lawful}
use Rattle.syn_wire.proofs.Sequences.{failed}
use Rattle.syn_wire.proofs.reader.Reader.marks.Goals as goal

pub returns-then-passes : goal.returns-then-passes
returns-then-passes c = record {
  lawful = nothing_lawful;
  spelled =
      c.passes.ensures.passed c.if-passes.true
      ∙ sym (ap (λ b. b ++ c.passes.new.self) (no_marks (version_of c.args.version)));
}

pub returns-in_err-mark_tree : goal.returns-in_err-mark_tree
returns-in_err-mark_tree c =
    let version = version_of c.args.version in
    failed _ _ _ _ _ c.from_residual.result _ c.from_residual.ensures.1 (λ e same malformed.
    no_marks_there version c.args.self.now (c.passes.ensures.other c.if-passes.false)
    (subst (λ b. NothingStands (IsMarkTreeIn version) (mark_spelling_in version) b)
    (c.passes.ensures.kept c.if-passes.false) (c.in_err-mark_tree.ensures (rw (← same) malformed))))
