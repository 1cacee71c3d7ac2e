use Rattle.std.proofs.Common.{◌≡◌, ◌≢◌, ◌∷◌, ap, arith, subst, sym, ◌∙◌}
use Rattle.syn_model.specs.Spelling.{spelling_in}
use Rattle.syn_tree.specs.declared.error.TreeError.TheVariants.{Full, Memory}
use Rattle.syn_wire.specs.Reads.{NothingStands}
use Rattle.syn_wire.specs.Trees.{IsWholeTreeIn}
use Rattle.syn_wire.specs.Versions.{version_of}
use Rattle.syn_wire.proofs.MadeLemmas.{full_whole, no_whole_of_kind, none_without_kind}
use Rattle.syn_wire.proofs.Sequences.{failed}
use Rattle.syn_wire.proofs.reader.Reader.tree.Goals as goal

full_only : Full ≢ Memory
full_only e = cc

pub returns-in_err-byte : goal.returns-in_err-byte
returns-in_err-byte c =
    let version = version_of c.args.version in
    failed _ _ _ _ _ c.from_residual.result _ c.from_residual.ensures.1 (λ e same malformed.
    none_without_kind version (IsWholeTreeIn version) c.args.self.now c.in_err-byte.ensures.end)

pub returns-then-branch-ne-DIRECTORY : goal.returns-then-branch-ne-DIRECTORY
returns-then-branch-ne-DIRECTORY c =
    λ malformed. no_whole_of_kind (version_of c.args.version) c.args.self.now c.byte.new.self
    c.in_ok-byte.field-0 c.in_ok-byte.ensures.read
    (λ two. omega (arith, two, c.if-branch-ne-DIRECTORY.true))

pub returns-in-Err-Full : goal.returns-in-Err-Full
returns-in-Err-Full c =
    let version = version_of c.args.version in
    let kind : c.in_ok-byte.field-0 ≡ 2 = omega (arith, c.if-branch-ne-DIRECTORY.false) in
    λ malformed. subst (λ b. NothingStands (IsWholeTreeIn version) (spelling_in version) b)
    (sym (c.in_ok-byte.ensures.read ∙ ap (λ k. k ∷ c.byte.new.self) kind))
    (full_whole c.spelling_laws.ensures.tree version c.byte.new.self c.entries.new.self
    c.in_ok-entries.entries c.in_ok-entries.ensures (c.in-Err-Full.ensures.refused
    (λ memory. full_only (sym c.in-Err-Full.field-0-is ∙ memory))).1)
