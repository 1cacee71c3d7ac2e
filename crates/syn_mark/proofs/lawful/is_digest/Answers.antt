use Rattle.std.proofs.Common.{subst}
use Rattle.syn_model.specs.Event.{AreBytes}
use Rattle.syn_model.specs.Contents.{IsMode}
use Rattle.syn_model.proofs.ContentsLemmas.{with_are_lawful}
use Rattle.syn_tree.specs.Modes.{mode_of}
use Rattle.syn_mark.proofs.lawful.is_digest.Goals as goal

pub returns-clause-lawful : goal.returns-clause-lawful
returns-clause-lawful c =
    with_are_lawful (mode_of c.args.mode) c.args.digest
    (subst IsMode c.bits.ensures.same c.bits.ensures.lawful)
    (subst AreBytes c.as_slice.ensures c.are_bytes.ensures)
