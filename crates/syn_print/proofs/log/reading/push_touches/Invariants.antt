use Rattle.std.proofs.Common.{◌≡◌, ◌++◌, take}
use Rattle.syn_print.specs.Known.{entries_of, touched}
use Rattle.syn_print.proofs.log.reading.push_touches.Given as goal

abbrev pub invariant-loop-touch : goal.invariant-loop-touch
invariant-loop-touch l =
    entries_of l.logged.items
    ≡ entries_of l.initial.logged.items ++ touched (take l.touch-index l.touches)
