use Rattle.std.proofs.Common.{rules, ◌≡◌, subst, Some, ap, sym, ◌∙◌, ◌∷◌}
use Rattle.atomic_table.specs.Table.{rest}
use Rattle.syn_lock.specs.inner.Rule.{Sat}
use Rattle.syn_lock.specs.History.{end_of}
use Rattle.syn_lock.specs.Locks.{origin_of}
use Rattle.syn_lock.proofs.Histories.{prefix_grows}
use Rattle.syn_lock.proofs.Keeps.{take_keeps}
use Rattle.syn_lock.proofs.own.Own.take.Goals as goal

pub fetch_or-found-requires : goal.fetch_or-found-requires
fetch_or-found-requires g c = let p = c.requires in (
  search rules,
  search rules,
  take_keeps g.S.Grows.position g.S.Grows.grows
      (origin_of c.args.self.now) _ _ _ (origin_of c.args.self.now) p.1 p.3 p.2 p.4,
)

pub exchange-requires : goal.exchange-requires
exchange-requires g c =
    let won = c.fetch_or-found.ensures.2.0 c.if-found-ne0.false
    (origin_of c.args.self.now) c.requires.4 in
    let seats = ap (λ (m : Sat g.row.S.Denot). m.1) won.4 in
    (search rules, (_, seats ∙ ap (λ l. (0, Some won.2) ∷ rest l) (sym seats)))

pub returns-clause-later : goal.returns-clause-later
returns-clause-later g c =
    let o = origin_of c.args.self.now in
    let laws = g.met.S.Grows in
    let won = c.fetch_or-found.ensures.2.0 c.if-found-ne0.false o c.requires.4 in
    let same : c.unwrap.result.value ≡ end_of o won.0 = search rules in
    subst (g.S.Grows.grows (end_of o c.args.pass.now.seat.me.0.view.seen)) (sym same)
    (prefix_grows g.S.Grows.grows laws.reflexive laws.transitive o _ _ won.1.0 won.1.1)
