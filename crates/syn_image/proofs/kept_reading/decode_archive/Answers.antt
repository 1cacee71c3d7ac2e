use Rattle.syn_wire.proofs.Sequences.{at_border}
use Rattle.syn_image.proofs.kept_reading.decode_archive.Goals as goal

pub returns : goal.returns
returns c =
    at_border _ _ _ c.args.bytes.now c.new-reader.result c.read_archive-image.new.reader
    c.read_archive-image.result c.front.result c.new-reader.ensures c.read_archive-image.ensures
    c.front.ensures
