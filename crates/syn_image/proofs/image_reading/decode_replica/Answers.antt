use Rattle.syn_wire.proofs.Sequences.{at_border}
use Rattle.syn_image.proofs.image_reading.decode_replica.Goals as goal

pub returns : goal.returns
returns c =
    at_border _ _ _ c.args.bytes.now c.new-reader.result c.read_image-image.new.reader
    c.read_image-image.result c.front.result c.new-reader.ensures c.read_image-image.ensures
    c.front.ensures
