use Rattle.std.proofs.Common.{rules, ap}
use Rattle.syn_lock.specs.Locks.{origin_of}
use Rattle.syn_replica.specs.Growth.{IsGrown}
use Rattle.syn_tree.specs.Nodes.{part_of}
use Rattle.syn_shared.specs.Parts.{Puts}
use Rattle.syn_shared.proofs.HoldLemmas.{held_now, later_now}
use Rattle.syn_shared.proofs.shared.SharedReplica.put_part.Goals as goal

pub returns-clause-held : goal.returns-clause-held
returns-clause-held g c = (
  c.enter-guard.ensures.entered.0,
  held_now IsGrown _ (origin_of c.own-own.result.now) (ap origin_of c.own-own.ensures) _ _
      c.enter-guard.result c.deref_mut.result.now c.put_within-put.new.replica
      (Puts c.args.user c.args.path.now c.args.since (part_of c.args.new) c.put_within-put.result)
      c.enter-guard.ensures.entered.1 c.deref_mut.ensures.value (search rules)
      c.put_within-put.ensures.puts,
)

pub returns-clause-later : goal.returns-clause-later
returns-clause-later g c =
    later_now _ _ _ (origin_of c.own-own.result.now) (ap origin_of c.own-own.ensures)
    c.enter-guard.result c.deref_mut.result.now c.put_within-put.new.replica
    c.enter-guard.ensures.later c.deref_mut.ensures.value (search rules)
    c.put_within-put.ensures.grown
