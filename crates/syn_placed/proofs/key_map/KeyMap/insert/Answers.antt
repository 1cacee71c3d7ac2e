use Rattle.std.proofs.Common.{length, sym, ap, ◌∙◌, subst, arith, slice_set}
use Rattle.std.specs.FinMap as map
use Rattle.syn_model.specs.Path.{path_cmp}
use Rattle.syn_placed.specs.Keyed.{StandsAt, WouldStandAt}
use Rattle.syn_placed.proofs.KeyedLemmas.{place_within, set_value, put_in_at, put_map, rising_put}
use Rattle.syn_placed.proofs.key_map.KeyMap.insert.Goals as goal
use Rattle.syn_model.proofs.BaseLemmas.{holds}

pub invariant_of-self : goal.invariant_of-self
invariant_of-self g c =
    let slot = c.args.slot in
    let es = c.self.inside.slots.items in
    let n = c.in-Ok.place in
    let rising = c.self.invariant.rising in
    let stands = subst (λ at. StandsAt at n es) c.key.ensures
    (subst (StandsAt c.key.result.now n) c.deref.ensures.value c.in-Ok.ensures.there) in
    record {
      rising =
          rising_put es (slice_set es n slot) slot.0 slot.1 rising
          (set_value slot.0 slot.1 n es rising stands);
      room_there = c.self.invariant.room_there;
    }

pub returns-in-Ok : goal.returns-in-Ok
returns-in-Ok g c =
    let slot = c.args.slot in
    let es = c.self.inside.slots.items in
    let n = c.in-Ok.place in
    let rising = c.self.invariant.rising in
    let stands = subst (λ at. StandsAt at n es) c.key.ensures
    (subst (StandsAt c.key.result.now n) c.deref.ensures.value c.in-Ok.ensures.there) in
    let is = set_value slot.0 slot.1 n es rising stands in
    put_map es (slice_set es n slot) slot.0 slot.1 rising is
    (rising_put es (slice_set es n slot) slot.0 slot.1 rising is)
    ∙ ap (λ m. map.insert m slot.0 slot.1) c.self.view_is

pub put_in-requires-clause-bounds : goal.put_in-requires-clause-bounds
put_in-requires-clause-bounds g c =
    let es = c.self.inside.slots.items in
    let n = c.in-Err.place in
    let stands = subst (WouldStandAt c.key.result.now n) c.deref.ensures.value
    c.in-Err.ensures.absent in
    omega (
      arith,
      place_within c.key.result.now n es c.self.invariant.rising stands.before,
      c.self.inside.slots.ok,
    )

pub put_in-requires-clause-room : goal.put_in-requires-clause-room
put_in-requires-clause-room g c =
    let es = c.self.inside.slots.items in
    let count = ap map.len (sym c.self.view_is) ∙ (map.len-entries (map.from_sorted es)
    ∙ ap length (map.entries-from_sorted path_cmp es (holds _ c.self.invariant.rising))) in
    omega (arith, count, c.requires, c.self.inside.slots.ok, c.self.invariant.room_there)

pub invariant_of-self-in-Err : goal.invariant_of-self-in-Err
invariant_of-self-in-Err g c =
    let slot = c.args.slot in
    let es = c.self.inside.slots.items in
    let n = c.in-Err.place in
    let rising = c.self.invariant.rising in
    let stands = subst (λ at. WouldStandAt at n es) c.key.ensures
    (subst (WouldStandAt c.key.result.now n) c.deref.ensures.value c.in-Err.ensures.absent) in
    record {
      rising =
          rising_put es c.put_in.new.slots.items slot.0 slot.1 rising
          (c.put_in.ensures.items ∙ put_in_at slot.0 slot.1 n es rising stands);
      room_there = omega (arith, c.put_in.ensures.room, c.self.invariant.room_there);
    }

pub returns-in-Err : goal.returns-in-Err
returns-in-Err g c =
    let slot = c.args.slot in
    let es = c.self.inside.slots.items in
    let new = c.put_in.new.slots.items in
    let n = c.in-Err.place in
    let rising = c.self.invariant.rising in
    let stands = subst (λ at. WouldStandAt at n es) c.key.ensures
    (subst (WouldStandAt c.key.result.now n) c.deref.ensures.value c.in-Err.ensures.absent) in
    let is = c.put_in.ensures.items ∙ put_in_at slot.0 slot.1 n es rising stands in
    put_map es new slot.0 slot.1 rising is (rising_put es new slot.0 slot.1 rising is)
    ∙ ap (λ m. map.insert m slot.0 slot.1) c.self.view_is
