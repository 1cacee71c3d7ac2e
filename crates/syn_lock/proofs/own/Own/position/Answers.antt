use Rattle.std.proofs.Common.{ℕ, ◌≤◌, subst, sym}
use Rattle.syn_lock.specs.History.{end_of}
use Rattle.syn_lock.specs.Locks.{origin_of}
use Rattle.syn_lock.proofs.Histories.{prefix_grows}
use Rattle.syn_lock.proofs.own.Own.position.Goals as goal

pub returns-clause-later : goal.returns-clause-later
returns-clause-later g c =
    let o = origin_of c.args.self.now in
    let laws = g.met.S.Grows in
    let sees = c.look.ensures.seen.0 in
    subst (λ (n : ℕ). g.S.Grows.position (end_of o c.args.pass.now.seat.me.0.view.seen) ≤ n)
    (sym c.look.ensures.position)
    (laws.advances _ _
    (prefix_grows g.S.Grows.grows laws.reflexive laws.transitive o _ _ sees.0 sees.1))
