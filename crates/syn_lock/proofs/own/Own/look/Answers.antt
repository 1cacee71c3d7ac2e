use Rattle.std.proofs.Common.{rules}
use Rattle.syn_lock.specs.Locks.{origin_of}
use Rattle.syn_lock.proofs.Keeps.{look_keeps, look_far_keeps}
use Rattle.syn_lock.proofs.own.Own.look.Goals as goal

pub load-near-requires : goal.load-near-requires
load-near-requires g c = (
  search rules,
  search rules,
  look_keeps g.S.Grows.position g.S.Grows.grows (origin_of c.args.self.now) _ _ _,
)

pub load-far-requires : goal.load-far-requires
load-far-requires g c =
    let laws = g.met.S.Grows in (
      search rules,
      search rules,
      look_far_keeps g.S.Grows.position g.S.Grows.grows
          (origin_of c.args.self.now) laws.reflexive laws.transitive laws.advances _ _ _,
    )
