use Rattle.std.proofs.Common.{refl, ap, inr}
use Rattle.syn_replica.proofs.GrowthLemmas.{not_read}
use Rattle.syn_replica.proofs.replica.Replica.arm.Goals as goal

pub returns-clause-grown : goal.returns-clause-grown
returns-clause-grown g c =
    not_read c.args.self.now
    (record c.args.self.now { journaled = c.arm.new.self })
    (ap (λ m. m.pair) c.arm.ensures.state) (ap (λ m. m.standing) c.arm.ensures.state) refl
    c.arm.ensures.seen
    (inr (record { readings = c.arm.ensures.readings; stands = c.arm.ensures.stands }))
