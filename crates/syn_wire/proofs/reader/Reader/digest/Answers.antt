use Rattle.std.proofs.Common.{rules}
use Rattle.syn_tree.specs.Modes.{mode_of}
use Rattle.syn_wire.specs.Versions.{version_of}
use Rattle.syn_wire.proofs.ByteLemmas.{of_slice}
use Rattle.syn_wire.proofs.ContentLemmas.{digest_found, digest_none}
use Rattle.syn_wire.proofs.Sequences.{failed}
use Rattle.syn_wire.proofs.reader.Reader.digest.Goals as goal

pub returns-in_err-digest-clause-read : goal.returns-in_err-digest-clause-read
returns-in_err-digest-clause-read c =
    failed _ _ _ _ _ c.from_residual-in_err-digest.result _ c.from_residual-in_err-digest.ensures.1
    (λ e same malformed. digest_none (version_of c.args.version) c.args.self.now
    c.mode_in.new.self (mode_of c.in_ok-mode.mode) c.in_ok-mode.ensures.read
    c.in_err-digest.ensures.short)

pub returns-clause-read : goal.returns-clause-read
returns-clause-read c =
    digest_found (version_of c.args.version) c.args.self.now c.mode_in.new.self
    (mode_of c.in_ok-mode.mode) c.in_ok-mode.ensures.read c.in_ok-digest.digest c.array.new.self
    c.in_ok-digest.ensures.read (of_slice c.in_ok-digest.digest (λ i. search rules)) (search rules)
