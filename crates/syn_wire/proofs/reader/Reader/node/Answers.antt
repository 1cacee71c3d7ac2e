use Rattle.std.proofs.Common.{◌∷◌, ◌++◌, ap, arith, subst, sym, ◌∙◌}
use Rattle.syn_model.specs.Spelling.{spelling_in}
use Rattle.syn_wire.specs.Reads.{NothingStands}
use Rattle.syn_wire.specs.Trees.{IsOptionalTreeIn}
use Rattle.syn_wire.specs.Versions.{version_of}
use Rattle.syn_wire.proofs.MadeLemmas.{absent_lawful, directory_none, none_without_kind}
use Rattle.syn_wire.proofs.MadeLemmas.{none_of_other_kind}
use Rattle.syn_wire.proofs.NodeLemmas.{absent_spelled}
use Rattle.syn_wire.proofs.Sequences.{failed}
use Rattle.syn_wire.proofs.reader.Reader.node.Goals as goal

pub returns-in_err-byte : goal.returns-in_err-byte
returns-in_err-byte c =
    let version = version_of c.args.version in
    failed _ _ _ _ _ c.from_residual.result _ c.from_residual.ensures.1 (λ e same malformed.
    none_without_kind version (IsOptionalTreeIn version) c.args.self.now c.in_err-byte.ensures.end)

pub returns-in_err-entries-in-2 : goal.returns-in_err-entries-in-2
returns-in_err-entries-in-2 c =
    let version = version_of c.args.version in
    failed _ _ _ _ _ c.from_residual-in_err-entries-in-2.result _
    c.from_residual-in_err-entries-in-2.ensures.1 (λ e same malformed.
    subst (λ b. NothingStands (IsOptionalTreeIn version) (spelling_in version) b)
    (sym (c.in_ok-byte.ensures.read ∙ ap (λ k. k ∷ c.byte.new.self) c.in-2.is))
    (directory_none version c.byte.new.self
    (c.in_err-entries-in-2.ensures (rw (← same) malformed))))

pub returns-in-0 : goal.returns-in-0
returns-in-0 c = record {
  lawful = absent_lawful;
  spelled =
      c.in_ok-byte.ensures.read ∙ (ap (λ k. k ∷ c.byte.new.self) c.in-0.is
      ∙ sym (ap (λ b. b ++ c.byte.new.self) (absent_spelled (version_of c.args.version))));
}

pub returns-in_default : goal.returns-in_default
returns-in_default c =
    let version = version_of c.args.version in
    λ malformed. none_of_other_kind version (IsOptionalTreeIn version) c.args.self.now
    c.byte.new.self c.in_ok-byte.field-0 c.in_ok-byte.ensures.read (omega arith)
