use Rattle.std.proofs.Common.{◌≡◌, ◌≤◌, ◌+◌, ◌-◌, not, ◌==◌, ◌||◌, nat_lt, length, None, sym, ap}
use Rattle.std.proofs.Common.{ap₂}
use Rattle.std.proofs.Common.{◌∙◌, subst, arith}
use Rattle.syn_model.specs.Path.{parent}
use Rattle.syn_model.specs.Tree.{replace}
use Rattle.syn_model.specs.Limits.{fits_replica}
use Rattle.syn_model.specs.Refusal.{first_cause}
use Rattle.syn_model.specs.Standing.{place_causes}
use Rattle.syn_placed.specs.Pairs.{within, spelling_length}
use Rattle.syn_placed.proofs.CountLemmas.{kids}
use Rattle.syn_tree.proofs.MeasureLemmas.{kept_size, measured, part_within}
use Rattle.syn_tree.proofs.tree.TreeLimited.fits.Goals as goal
use Rattle.syn_tree.proofs.tree.TreeLimited.fits.Goals.{After-part_at-part}

part_is : (c : After-part_at-part) →
    c.part_at-part.result.now ≡ within c.args.path.now c.self.inside.list.items
part_is c = c.part_at-part.ensures ∙ ap₂ within c.key.ensures c.deref.ensures.value

small : (c : After-part_at-part) →
    (length c.part_at-part.result.now ≤ length c.self.inside.list.items)
    × (spelling_length c.part_at-part.result.now ≤ c.self.inside.spelled)
small c =
    part_within c.self.inside.list.items c.self.inside.spelled _ c.args.path.now c.args.self.now
    c.part_at-part.result.now c.self.invariant c.self.view_is c.requires.place (part_is c)

pub overflow_sub-count : goal.overflow_sub-count
overflow_sub-count c =
    omega (
      arith,
      (small (goal.at.overflow_sub-count c).After-part_at-part).0,
      c.len.ensures,
      c.self.inside.list.ok,
    )

pub spelled-requires : goal.spelled-requires
spelled-requires c =
    omega (
      arith,
      (small (goal.at.spelled-requires c).After-part_at-part).1,
      kept_size c.self.inside.list.items c.self.inside.spelled _ c.self.invariant,
    )

pub overflow_sub-length : goal.overflow_sub-length
overflow_sub-length c =
    omega (
      arith,
      (small (goal.at.overflow_sub-length c).After-part_at-part).1,
      c.spelled.ensures,
    )

pub overflow_add-length : goal.overflow_add-length
overflow_add-length c =
    omega (
      arith,
      kept_size c.self.inside.list.items c.self.inside.spelled _ c.self.invariant,
      c.requires.size,
    )

pub returns : goal.returns
returns c new of =
    let ds = c.self.inside.list.items in
    let at = c.args.path.now in
    let part = part_is (goal.at.returns c).After-part_at-part in
    let place = subst (λ t. first_cause (place_causes t at) ≡ None)
    (sym c.self.view_is) c.requires.place in
    let count = c.len.result - length c.part_at-part.result.now + c.args.nodes in
    let long = c.self.inside.spelled - c.spelled.result + c.args.size in
    let same = c.len.ensures in
    let counts : count ≡ length ds - length (within at ds) + c.args.nodes =
    omega (arith, ap length part, same, c.self.inside.list.ok) in
    let longs : long ≡ c.self.inside.spelled - spelling_length (within at ds) + c.args.size =
    omega (arith, ap spelling_length part, c.spelled.ensures) in
    let rooms = c.has_room-room.ensures
    ∙ ap₂ (λ b xs. not b || (not (nat_lt 0 c.args.nodes) || nat_lt (kids (parent at) xs) 256))
    (c.is_empty.ensures ∙ ap (λ xs. length xs == 0) part) c.deref-2.ensures.value in
    c.is_within_limits.ensures ∙ (measured ds c.self.inside.spelled _ at new c.args.nodes
    c.args.size count long c.has_room-room.result c.self.invariant place of counts longs rooms
    ∙ ap (λ t. fits_replica (replace t at new)) c.self.view_is)
