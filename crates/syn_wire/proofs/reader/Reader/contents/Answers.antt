use Rattle.syn_tree.specs.Modes.{mode_of}
use Rattle.syn_wire.specs.Versions.{version_of}
use Rattle.syn_wire.proofs.ContentLemmas.{contents_none}
use Rattle.syn_wire.proofs.Sequences.{failed}
use Rattle.syn_wire.proofs.reader.Reader.contents.Goals as goal

pub returns-in_err-file-clause-read : goal.returns-in_err-file-clause-read
returns-in_err-file-clause-read c =
    failed _ _ _ _ _ c.from_residual-in_err-file.result _ c.from_residual-in_err-file.ensures.1
    (λ e same malformed. contents_none (version_of c.args.version) c.args.self.now
    c.mode_in.new.self (mode_of c.in_ok-mode.mode) c.in_ok-mode.ensures.read
    (c.in_err-file.ensures.read (rw (← same) malformed)))
