use Rattle.std.proofs.Common.{rules, ap, sym, List, subst}
use mathlib.Core.List.{IsPrefix}
use Rattle.syn_lock.specs.inner.Rule.{Sat}
use Rattle.syn_lock.specs.declared.view.Hold.{Hold}
use Rattle.syn_lock.specs.Locks.{origin_of}
use Rattle.syn_lock.proofs.Keeps.{confirm_keeps}
use Rattle.syn_lock.proofs.Arrivals.{tell_keeps, agree_keeps}
use Rattle.syn_lock.proofs.own.Own.agree.Goals as goal

pub split_seat-note-requires : goal.split_seat-note-requires
split_seat-note-requires g c = (
  search rules,
  search rules,
  tell_keeps g.S.Grows.position g.S.Grows.grows (origin_of c.args.self.now) _ _,
)

pub join_seat-requires : goal.join_seat-requires
join_seat-requires g c =
    let note = c.split_seat-note.ensures.4 in (
      search rules,
      search rules,
      search rules,
      search rules,
      agree_keeps g.S.Grows.position g.S.Grows.grows (origin_of c.args.self.now) _ _ _ _
          (ap (λ (m : Sat g.row.S.Denot). m.0.view.number) note)
          (subst (λ (seen : List (Hold g.row.S.Denot)). IsPrefix c.args.pass.now.seat.me.0.view.seen
          seen) (sym (ap (λ (m : Sat g.row.S.Denot). m.0.view.seen) note)) c.requires.further)
          c.requires.pass.2,
    )

pub load-requires : goal.load-requires
load-requires g c = (
  search rules,
  search rules,
  confirm_keeps g.S.Grows.position g.S.Grows.grows (origin_of c.args.self.now) _ _ _,
)
