use Rattle.std.proofs.Common.{◌≡◌, ◌+◌, ◌-◌, refl, sym, ap, ap₂, ◌∙◌, subst, arith, vec_capacity}
use Rattle.syn_model.specs.Path.{Path}
use Rattle.syn_placed.specs.Pairs.{Pairs, tree_with, within, spelling_length}
use Rattle.syn_tree.specs.Change.{Replacement, taken_from, IsPreparedFor, after_change}
use Rattle.syn_tree.proofs.MeasureLemmas.{kept_size, part_size}
use Rattle.syn_tree.proofs.MakeLemmas.{made_kept, made_tree, made_room}
use Rattle.syn_tree.proofs.tree.Tree.make.Goals as goal
use Rattle.syn_tree.proofs.tree.Tree.make.Goals.{After-part_at}

-- the change with its parts
same_change : (at : Path) (added : Pairs) (change : Replacement) → at ≡ change.at →
    taken_from at added ≡ change.new →
    ◌≡◌ {A = Replacement} (record { at = at; new = taken_from at added }) change
same_change at added change e k = λ i. record { at = e i; new = k i }

ready : (c : After-part_at) → IsPreparedFor (tree_with c.self.inside.list.items) (record {
  at = c.into_parts-at.result.0;
  new = taken_from c.into_parts-at.result.0 c.into_parts-at.result.1.items;
})
ready c =
    let at = c.into_parts-at.result.0 in
    let added = c.into_parts-at.result.1.items in
    subst (λ t. IsPreparedFor t (record { at = at; new = taken_from at added }))
    (sym c.self.view_is) (subst (IsPreparedFor c.args.self.now)
    (sym (same_change at added c.args.change c.into_parts-at.ensures.at
    c.into_parts-at.ensures.new)) c.requires)

pub spelled-removed-requires : goal.spelled-removed-requires
spelled-removed-requires c =
    let ds = c.self.inside.list.items in
    let at = c.into_parts-at.result.0 in
    let prepared = ready (goal.at.spelled-removed-requires c).After-part_at in
    omega (
      arith,
      ap spelling_length (c.part_at.ensures ∙ ap (within at) c.deref.ensures.value),
      part_size ds c.self.inside.spelled _ at c.self.invariant prepared.below,
      kept_size ds c.self.inside.spelled _ c.self.invariant,
    )

pub replace_part-requires-clause-room : goal.replace_part-requires-clause-room
replace_part-requires-clause-room c =
    let ds = c.self.inside.list.items in
    let at = c.into_parts-at.result.0 in
    let added = c.into_parts-at.result.1.items in
    let change : Replacement = record { at = at; new = taken_from at added } in
    let prepared = ready (goal.at.replace_part-requires-clause-room c).After-part_at in
    let room = made_room ds c.self.inside.spelled (vec_capacity c.self.inside.list) change added
    c.into_parts-at.result.2 c.self.invariant prepared c.into_parts-at.ensures.placed refl in
    omega (arith, room, c.into_parts-at.result.1.ok)

pub overflow_sub-self : goal.overflow_sub-self
overflow_sub-self c =
    let ds = c.self.inside.list.items in
    let at = c.into_parts-at.result.0 in
    let prepared = ready (goal.at.overflow_sub-self c).After-part_at in
    omega (
      arith,
      part_size ds c.self.inside.spelled _ at c.self.invariant prepared.below,
      c.spelled-removed.ensures,
      ap spelling_length (c.part_at.ensures ∙ ap (within at) c.deref.ensures.value),
    )

pub overflow_add-self : goal.overflow_add-self
overflow_add-self c =
    let ds = c.self.inside.list.items in
    let at = c.into_parts-at.result.0 in
    let added = c.into_parts-at.result.1.items in
    let change : Replacement = record { at = at; new = taken_from at added } in
    let prepared = ready (goal.at.overflow_add-self c).After-part_at in
    let kept = made_kept ds c.self.inside.spelled (vec_capacity c.self.inside.list) change added
    c.into_parts-at.result.2 c.self.invariant prepared c.into_parts-at.ensures.placed refl _ _
    (vec_capacity c.self.inside.list) refl refl (omega arith) in
    omega (
      arith,
      kept_size _ _ _ kept,
      c.spelled-removed.ensures,
      ap spelling_length (c.part_at.ensures ∙ ap (within at) c.deref.ensures.value),
    )

pub returns : goal.returns
returns c =
    let ds = c.self.inside.list.items in
    let at = c.into_parts-at.result.0 in
    let added = c.into_parts-at.result.1.items in
    let change : Replacement = record { at = at; new = taken_from at added } in
    let prepared = ready (goal.at.returns c).After-part_at in
    made_tree ds c.self.inside.spelled (vec_capacity c.self.inside.list) change added
    c.into_parts-at.result.2 c.self.invariant prepared c.into_parts-at.ensures.placed
    refl c.replace_part.new.list.items c.replace_part.ensures.items
    ∙ ap₂ after_change c.self.view_is
    (same_change at added c.args.change c.into_parts-at.ensures.at c.into_parts-at.ensures.new)

pub invariant_of-self : goal.invariant_of-self
invariant_of-self c =
    let ds = c.self.inside.list.items in
    let at = c.into_parts-at.result.0 in
    let added = c.into_parts-at.result.1.items in
    let change : Replacement = record { at = at; new = taken_from at added } in
    let prepared = ready (goal.at.invariant_of-self c).After-part_at in
    made_kept ds c.self.inside.spelled
    (vec_capacity c.self.inside.list) change added c.into_parts-at.result.2 c.self.invariant
    prepared c.into_parts-at.ensures.placed refl c.replace_part.new.list.items _ _
    c.replace_part.ensures.items (ap (λ n. c.self.inside.spelled - n + c.into_parts-at.result.2)
    (c.spelled-removed.ensures ∙ ap spelling_length
    (c.part_at.ensures ∙ ap (within at) c.deref.ensures.value))) c.replace_part.ensures.room
