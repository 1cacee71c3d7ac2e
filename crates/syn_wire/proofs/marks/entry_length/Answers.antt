use Rattle.std.proofs.Common.{arith}
use Rattle.syn_wire.proofs.marks.entry_length.Goals as goal
use Rattle.syn_wire.proofs.marks.entry_length.Goals.{in-File, in-Dir}

pub returns-clause-brief : goal.returns-clause-brief
returns-clause-brief c = elim c.match-content.branch [
  | in-File w ↦ omega
      (arith, w.mark-is, w.digest_length.ensures.brief, c.last_name_length.ensures.brief)
  | in-Dir w ↦ omega (arith, w.mark-is, c.last_name_length.ensures.brief)
]
