use Rattle.std.proofs.Common.{sym, ap, ◌∙◌, subst, arith}
use Rattle.std.specs.FinMap as map
use Rattle.syn_model.specs.Path.{path_cmp}
use Rattle.syn_placed.specs.Keyed.{IsRising, StandsAt, WouldStandAt}
use Rattle.syn_placed.proofs.KeyedLemmas.{removed_at, rising_removed, absent_removed}
use Rattle.syn_placed.proofs.key_map.KeyMap.remove.Goals as goal
use Rattle.syn_model.proofs.BaseLemmas.{holds}

pub invariant_of-self : goal.invariant_of-self
invariant_of-self g c =
    let es = c.self.inside.slots.items in
    let n = c.in-Ok.place in
    let rising = c.self.invariant.rising in
    let stands = subst (StandsAt c.args.at.now n) c.deref.ensures.value c.in-Ok.ensures.there in
    record {
      rising = subst IsRising (sym c.remove.ensures.items)
          (rising_removed n es c.remove.result rising stands.within);
      room_there = omega (arith, c.remove.ensures.capacity, c.self.invariant.room_there);
    }

pub returns-in-Ok : goal.returns-in-Ok
returns-in-Ok g c =
    let at = c.args.at.now in
    let es = c.self.inside.slots.items in
    let n = c.in-Ok.place in
    let stands = subst (StandsAt at n) c.deref.ensures.value c.in-Ok.ensures.there in
    ap map.from_sorted c.remove.ensures.items
    ∙ (removed_at at n es c.remove.result c.self.invariant.rising stands
    ∙ ap (λ m. map.remove m at) c.self.view_is)

pub returns-in_default : goal.returns-in_default
returns-in_default g c =
    let at = c.args.at.now in
    let es = c.self.inside.slots.items in
    let stands = subst (WouldStandAt at c.in_default.field-0) c.deref.ensures.value
    c.in_default.ensures.absent in
    let none = ap (λ m. map.get m at) (sym c.self.view_is)
    ∙ (map.get-from_sorted path_cmp es at (holds _ c.self.invariant.rising) ∙ stands.absent) in
    sym (absent_removed c.args.self.now at none)
