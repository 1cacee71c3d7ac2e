use Rattle.std.proofs.Common.{ap, arith, length, subst, sym}
use Rattle.syn_model.specs.Contents.{contents_spelling_in, contents_with}
use Rattle.syn_tree.specs.Modes.{mode_of}
use Rattle.syn_wire.specs.Contents.{IsBriefFileIn}
use Rattle.syn_wire.specs.Reads.{BeginsWith}
use Rattle.syn_wire.specs.Versions.{version_of}
use Rattle.syn_wire.proofs.MadeLemmas.{no_file_read, long_file_read, file_read}
use Rattle.syn_wire.proofs.Sequences.{failed}
use Rattle.syn_wire.proofs.reader.Reader.file_node.Goals as goal

pub returns-in_err-mode : goal.returns-in_err-mode
returns-in_err-mode c =
    failed _ _ _ _ _ c.from_residual.result _ c.from_residual.ensures.1 (λ e same malformed.
    no_file_read (version_of c.args.version) c.args.self.now
    (c.in_err-mode.ensures.read (rw (← same) malformed)))

pub returns-then-bytes-gt-LONGEST_FILE : goal.returns-then-bytes-gt-LONGEST_FILE
returns-then-bytes-gt-LONGEST_FILE c =
    λ malformed. long_file_read (version_of c.args.version) c.args.self.now
    (contents_with (mode_of c.in_ok-mode.mode) c.in_ok-mode.bytes.now) c.contents.new.self
    c.in_ok-mode.ensures.read c.if-bytes-gt-LONGEST_FILE.true

pub returns : goal.returns
returns c =
    let version = version_of c.args.version in
    let whole = c.in_ok-to_vec.ensures.items_if_clones_equal (λ x y same. same) in
    file_read version c.args.self.now
    (contents_with (mode_of c.in_ok-mode.mode) c.in_ok-to_vec.field-0.items) c.contents.new.self
    (subst (λ file. BeginsWith (IsBriefFileIn version) (contents_spelling_in version)
    c.args.self.now (contents_with (mode_of c.in_ok-mode.mode) file) c.contents.new.self)
    (sym whole) c.in_ok-mode.ensures.read)
    (omega (arith, c.if-bytes-gt-LONGEST_FILE.false, ap length whole))
