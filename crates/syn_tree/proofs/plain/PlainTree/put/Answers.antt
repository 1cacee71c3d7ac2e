use Rattle.std.proofs.Common.{◌≡◌, ◌+◌, ◌-◌, true, false, refl, sym, ap, ap₂, ◌∙◌, subst, arith}
use Rattle.std.proofs.Common.{vec_capacity}
use Rattle.syn_model.specs.Path.{Path, is_root, parent}
use Rattle.syn_model.specs.Tree.{Tree, is_directory, replace}
use Rattle.syn_model.specs.Limits.{fits_replica}
use Rattle.syn_placed.specs.Pairs.{Pairs, tree_with, within, spelling_length}
use Rattle.syn_tree.specs.Change.{Replacement, taken_from, IsPreparedFor, after_change}
use Rattle.syn_tree.proofs.MeasureLemmas.{kept_size, part_size}
use Rattle.syn_tree.proofs.MakeLemmas.{made_kept, made_tree, made_room}
use Rattle.syn_tree.proofs.plain.PlainTree.put.Goals as goal

abbrev change_of : Path → Pairs → Replacement
change_of at added = record { at = at; new = taken_from at added }

-- the tree is seen as its list
ready : (t u : Tree) (at : Path) (added : Pairs) → t ≡ u → is_root at ≡ false →
    is_directory u (parent at) ≡ true →
    fits_replica (replace u at (taken_from at added)) ≡ true →
    IsPreparedFor t (change_of at added)
ready t u at added is below above fits =
    subst (λ w. IsPreparedFor w (change_of at added)) (sym is)
    (record { below = below; parent = above; fits = fits })

pub spelled-removed-requires : goal.spelled-removed-requires
spelled-removed-requires c =
    let ds = c.self.inside.list.items in
    let part = c.part_at.ensures ∙ ap₂ within c.names.ensures.names c.deref.ensures.value in
    omega (
      arith,
      ap spelling_length part,
      part_size ds c.self.inside.spelled _ c.args.path.now c.self.invariant c.requires.below,
      kept_size ds c.self.inside.spelled _ c.self.invariant,
    )

pub replace_part-requires-clause-room : goal.replace_part-requires-clause-room
replace_part-requires-clause-room c =
    let ds = c.self.inside.list.items in
    let at = c.args.path.now in
    let added = c.args.added.items in
    let prepared = ready (tree_with ds) c.args.self.now at added c.self.view_is c.requires.below
    c.requires.parent c.requires.fits in
    let room = made_room ds c.self.inside.spelled (vec_capacity c.self.inside.list)
    (change_of at added) added c.args.size c.self.invariant prepared c.requires.placed refl in
    omega (arith, room, c.args.added.ok)

pub overflow_sub-self : goal.overflow_sub-self
overflow_sub-self c =
    let ds = c.self.inside.list.items in
    let part = c.part_at.ensures ∙ ap₂ within c.names.ensures.names c.deref.ensures.value in
    omega (
      arith,
      ap spelling_length part,
      part_size ds c.self.inside.spelled _ c.args.path.now c.self.invariant c.requires.below,
      c.spelled-removed.ensures,
    )

pub overflow_add-self : goal.overflow_add-self
overflow_add-self c =
    let ds = c.self.inside.list.items in
    let at = c.args.path.now in
    let added = c.args.added.items in
    let part = c.part_at.ensures ∙ ap₂ within c.names.ensures.names c.deref.ensures.value in
    let prepared = ready (tree_with ds) c.args.self.now at added c.self.view_is c.requires.below
    c.requires.parent c.requires.fits in
    let kept = made_kept ds c.self.inside.spelled (vec_capacity c.self.inside.list)
    (change_of at added) added c.args.size c.self.invariant prepared c.requires.placed refl _ _
    (vec_capacity c.self.inside.list) refl refl (omega arith) in
    omega (arith, kept_size _ _ _ kept, c.spelled-removed.ensures, ap spelling_length part)

pub returns : goal.returns
returns c =
    let ds = c.self.inside.list.items in
    let at = c.args.path.now in
    let added = c.args.added.items in
    let prepared = ready (tree_with ds) c.args.self.now at added c.self.view_is c.requires.below
    c.requires.parent c.requires.fits in
    made_tree ds c.self.inside.spelled (vec_capacity c.self.inside.list) (change_of at added) added
    c.args.size c.self.invariant prepared c.requires.placed refl c.replace_part.new.list.items
    c.replace_part.ensures.items
    ∙ ap (λ t. after_change t (change_of at added)) c.self.view_is

pub invariant_of-self : goal.invariant_of-self
invariant_of-self c =
    let ds = c.self.inside.list.items in
    let at = c.args.path.now in
    let added = c.args.added.items in
    let part = c.part_at.ensures ∙ ap₂ within c.names.ensures.names c.deref.ensures.value in
    let prepared = ready (tree_with ds) c.args.self.now at added c.self.view_is c.requires.below
    c.requires.parent c.requires.fits in
    made_kept ds c.self.inside.spelled (vec_capacity c.self.inside.list) (change_of at added) added
    c.args.size c.self.invariant prepared c.requires.placed refl c.replace_part.new.list.items _ _
    c.replace_part.ensures.items (ap (λ n. c.self.inside.spelled - n + c.args.size)
    (c.spelled-removed.ensures ∙ ap spelling_length part)) c.replace_part.ensures.room
