use Rattle.syn_wire.specs.Versions.{version_of}
use Rattle.syn_wire.proofs.Sequences.{at_kind}
use Rattle.syn_wire.proofs.reader.Reader.event.Goals as goal

pub returns-in-1 : goal.returns-in-1
returns-in-1 c =
    at_kind _ _ _ _ c.byte.new.self _ c.in_ok-byte.field-0 1 c.put.result
    c.in_ok-byte.ensures.read c.in-1.is (c.put.ensures (version_of c.args.version))

pub returns-in-2 : goal.returns-in-2
returns-in-2 c =
    at_kind _ _ _ _ c.byte.new.self _ c.in_ok-byte.field-0 2 c.make_dir.result
    c.in_ok-byte.ensures.read c.in-2.is (c.make_dir.ensures (version_of c.args.version))

pub returns-in-3 : goal.returns-in-3
returns-in-3 c =
    at_kind _ _ _ _ c.byte.new.self _ c.in_ok-byte.field-0 3 c.remove.result
    c.in_ok-byte.ensures.read c.in-3.is (c.remove.ensures (version_of c.args.version))

pub returns-in-4 : goal.returns-in-4
returns-in-4 c =
    at_kind _ _ _ _ c.byte.new.self _ c.in_ok-byte.field-0 4 c.began.result
    c.in_ok-byte.ensures.read c.in-4.is (c.began.ensures (version_of c.args.version))
