use Rattle.syn_model.proofs.ContentsLemmas.{with_are_lawful}
use Rattle.syn_tree.specs.Modes.{mode_of}
use Rattle.syn_wire.proofs.ByteLemmas.{of_slice}
use Rattle.syn_wire.proofs.contents.write_front.Goals as goal

pub returns-clause-lawful : goal.returns-clause-lawful
returns-clause-lawful c =
    with_are_lawful (mode_of c.args.mode) c.args.file.now c.write_mode.ensures.lawful
    (of_slice c.args.file.now c.type_inv.file)
