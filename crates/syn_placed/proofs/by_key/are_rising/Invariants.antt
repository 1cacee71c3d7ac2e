use Rattle.std.proofs.Common.{take}
use Rattle.syn_placed.specs.Pairs.{rooted}
use Rattle.syn_placed.proofs.RisingLemmas.{Rising}
use Rattle.syn_placed.proofs.LastLemmas.{IsLast}
use Rattle.syn_placed.proofs.by_key.are_rising.Given as goal

abbrev pub invariant-loop-entry : goal.invariant-loop-entry
invariant-loop-entry g l =
    IsLast (rooted (take l.entry-index l.list)) l.last × Rising (rooted (take l.entry-index l.list))
