use Rattle.syn_scan.proofs.PositionLemmas.{none_yet}
use Rattle.syn_scan.proofs.positions.Positions.new.Goals as goal

pub invariant_of-result : goal.invariant_of-result
invariant_of-result c = (none_yet c.new.result.items c.new.ensures.items).0

pub returns : goal.returns
returns c = (none_yet c.new.result.items c.new.ensures.items).1
