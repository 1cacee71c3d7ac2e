use Rattle.std.proofs.Common.{rules, ◌≡◌, ap, sym, refl, subst, arith, ◌+◌, ◌<◌, false, eqb, []}
use Rattle.std.proofs.Common.{Some}
use Rattle.atomic_table.specs.Table.{Allows, step}
use mathlib.Core.Option.{none}
use prog.Atomic.{either}
use Rattle.syn_lock.specs.History.{IsHistory, holds_by}
use Rattle.syn_lock.specs.inner.Rule.{Sat, Lawful, admits}
use Rattle.syn_lock.specs.Locks.{id_of, origin_of}
use Rattle.syn_lock.proofs.Arrivals.{arrive_keeps, admit_keeps}
use Rattle.syn_lock.proofs.own.Own.pass.Goals as goal

pub load_new_seat-given-requires : goal.load_new_seat-given-requires
load_new_seat-given-requires g c =
    (search rules, arrive_keeps g.S.Grows.position g.S.Grows.grows (origin_of c.args.self.now) _)

pub compare_exchange-found-requires : goal.compare_exchange-found-requires
compare_exchange-found-requires g c =
    let own = c.args.self.now in
    let slots = (id_of own).slots in
    let given = c.loop-given.given in (
      search rules,
      search rules,
      subst (λ (m : Sat g.row.S.Denot). Allows (Lawful g.S.Grows.position g.S.Grows.grows
          (origin_of own)) slots c.loop-given.seat.id m 2 (λ r. either (eqb r given) (given + 1) r)
          (admits g.S.Grows.grows (step slots 2 given (given + 1) none) m))
          (sym c.loop-given.invariant.counted)
          (admit_keeps g.S.Grows.position g.S.Grows.grows (origin_of own) c.loop-given.seat.id slots
          given (omega (arith, c.loop-given-test.true))),
    )

pub returns-then-found-given-clause-of : goal.returns-then-found-given-clause-of
returns-then-found-given-clause-of g c =
    let o = origin_of c.args.self.now in
    let sat = c.compare_exchange-found.ensures.2.2 c.if-found-given.true o
    (ap (λ (m : Sat g.row.S.Denot). m.0.view.origin) c.loop-given.invariant.counted) in
    let table : c.compare_exchange-found.new.seat.table_id ≡ id_of c.args.self.now = search rules in
    subst (λ (m : Sat g.row.S.Denot).
    (c.compare_exchange-found.new.seat.table_id ≡ id_of c.args.self.now) × (m.1 ≡ [])
    × (m.0.inside ≡ false) × (0 < m.0.view.number) × (m.0.view.origin ≡ Some o)) (sym sat.4)
    (table, refl, refl, sat.2, refl)

pub returns-then-found-given-clause-new : goal.returns-then-found-given-clause-new
returns-then-found-given-clause-new g c =
    let o = origin_of c.args.self.now in
    let sat = c.compare_exchange-found.ensures.2.2 c.if-found-given.true o
    (ap (λ (m : Sat g.row.S.Denot). m.0.view.origin) c.loop-given.invariant.counted) in
    subst (λ (m : Sat g.row.S.Denot). IsHistory g.S.Grows.grows o m.0.view.seen
    × (holds_by m.0.view.number m.0.view.seen ≡ []) × (m.0.view.own ≡ []) × (m.0.view.turns ≡ []))
    (sym sat.4)
    (sat.3.1, sat.3.2, refl, refl)
