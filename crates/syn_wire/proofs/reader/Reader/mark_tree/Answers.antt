use Rattle.syn_wire.specs.Versions.{version_of}
use Rattle.syn_wire.proofs.MarkTreeLemmas.{no_part_read, not_marks, marks_made}
use Rattle.syn_wire.proofs.Sequences.{failed}
use Rattle.syn_wire.proofs.reader.Reader.mark_tree.Goals as goal

pub returns-in_err-read_part : goal.returns-in_err-read_part
returns-in_err-read_part c =
    failed _ _ _ _ _ c.from_residual.result _ c.from_residual.ensures.1 (λ e same malformed.
    no_part_read (version_of c.args.version) c.args.self.now c.root.result c.new-list.result.items
    c.read_part.new.list.items c.root.ensures c.new-list.ensures.items
    (c.in_err-read_part.ensures.reads (rw (← same) malformed)))

pub returns-in_default : goal.returns-in_default
returns-in_default c =
    λ malformed. not_marks (version_of c.args.version) c.args.self.now c.root.result
    c.new-list.result.items c.read_part.new.list.items c.root.ensures c.new-list.ensures.items
    c.read_part.new.reader c.in_ok-read_part.ensures.reads c.in_default.ensures.none

pub returns : goal.returns
returns c =
    let kept = c.as_slice.ensures in
    marks_made (version_of c.args.version) c.args.self.now c.root.result c.new-list.result.items
    c.read_part.new.list.items c.root.ensures c.new-list.ensures.items c.read_part.new.reader
    c.in-Some.marks c.in_ok-read_part.ensures.spelled c.in-Some.ensures.some
    (record { optional = record { marks = kept.marks; fits = kept.fits }; present = kept.present })
