use Rattle.std.proofs.Common.{rules}
use Rattle.syn_lock.specs.Locks.{origin_of}
use Rattle.syn_lock.proofs.Gives.{give_keeps}
use Rattle.syn_lock.proofs.own.Own.give.Goals as goal

pub store-requires : goal.store-requires
store-requires g c = let last = c.requires.last in (
  search rules,
  search rules,
  give_keeps g.S.Grows.position g.S.Grows.grows
      (origin_of c.args.self.now) _ _ _ (origin_of c.args.self.now) last.0 last.1 last.2
      c.requires.inside c.requires.origin c.requires.far,
)
