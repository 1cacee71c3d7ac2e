use Rattle.std.proofs.Common.{rules, ap}
use Rattle.syn_lock.specs.inner.Rule.{Sat}
use Rattle.syn_lock.specs.Locks.{origin_of}
use Rattle.syn_lock.proofs.Arrivals.{tell_keeps, hear_keeps}
use Rattle.syn_lock.proofs.own.Own.hear.Goals as goal

pub split_seat-note-requires : goal.split_seat-note-requires
split_seat-note-requires g c = (
  search rules,
  search rules,
  tell_keeps g.S.Grows.position g.S.Grows.grows (origin_of c.args.self.now) _ _,
)

pub join_seat-requires : goal.join_seat-requires
join_seat-requires g c = (
  search rules,
  search rules,
  search rules,
  search rules,
  hear_keeps g.S.Grows.position g.S.Grows.grows (origin_of c.args.self.now) _ _ _ _
      (ap (λ (m : Sat g.row.S.Denot). m.0.view.number) c.split_seat-note.ensures.4),
)
