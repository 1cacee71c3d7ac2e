use Rattle.syn_command.proofs.AskedLemmas.{AskedTimes}
use Rattle.syn_user.specs.Sides.{side_state}
use Rattle.syn_command.proofs.preview.scan_side.Given as goal

abbrev pub invariant-loop : goal.invariant-loop
invariant-loop g l =
    AskedTimes (side_state g.R.Read.remaining g.W.Write.contents l.initial.side) l.scan
    (side_state g.R.Read.remaining g.W.Write.contents l.side) l.counter
