use Rattle.std.proofs.Common.{take}
use Rattle.syn_recon.specs.Items.{item_of}
use Rattle.syn_reconcile.specs.Strangers.{LeavesAlone}
use Rattle.syn_reconcile.proofs.strangers.leaves_alone.Given as goal

abbrev pub invariant-loop-stranger : goal.invariant-loop-stranger
invariant-loop-stranger l =
    LeavesAlone (take l.stranger-index l.strangers) l.replica (item_of l.item)
