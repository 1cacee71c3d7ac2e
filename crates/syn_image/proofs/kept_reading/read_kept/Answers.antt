use Rattle.syn_wire.specs.Versions.{version_of}
use Rattle.syn_wire.proofs.Sequences.{at_kind}
use Rattle.syn_image.proofs.kept_reading.read_kept.Goals as goal

pub returns-in-1 : goal.returns-in-1
returns-in-1 c =
    at_kind _ _ _ _ c.byte.new.self _ c.in_ok-byte.field-0 1 c.read_session.result
    c.in_ok-byte.ensures.read c.in-1.is (c.read_session.ensures (version_of c.args.version))

pub returns-in-3 : goal.returns-in-3
returns-in-3 c =
    at_kind _ _ _ _ c.byte.new.self _ c.in_ok-byte.field-0 3 c.read_dir.result
    c.in_ok-byte.ensures.read c.in-3.is (c.read_dir.ensures (version_of c.args.version))
