use Rattle.std.proofs.Common.{◌<◌, ◌-◌, ap, arith, length}
use Rattle.syn_model.specs.Limits.{greatest_old_spelling}
use Rattle.syn_wire.specs.Versions.{version_of}
use Rattle.syn_image.proofs.ImageLemmas.{too_long}
use Rattle.syn_image.proofs.image_reading.read_tree.Goals as goal

pub returns-in-One : goal.returns-in-One
returns-in-One c =
    let long : greatest_old_spelling < length c.args.reader.now - length c.tree.new.self =
    omega (
      arith,
      c.if-taken-gt-LONGEST_OLD_TREE.true,
      ap length c.rest-before.ensures,
      ap length c.rest.ensures,
    ) in
    λ malformed. too_long c.spelling_laws.ensures.tells (version_of c.args.version)
    c.args.reader.now c.tree.new.self c.in_ok-tree.tree (ap version_of c.in-One.is)
    long c.in_ok-tree.ensures
