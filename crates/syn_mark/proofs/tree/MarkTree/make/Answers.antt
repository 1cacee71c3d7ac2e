use Rattle.std.proofs.Common.{◌≡◌, ◌≤◌, ◌+◌, ◌++◌, length, sym, ap, ap₂, ◌∙◌, subst, vec_len}
use Rattle.std.proofs.Common.{vec_capacity, if◌then◌else◌, arith}
use Rattle.std.specs.FinMap.{entries, len-entries}
use Rattle.syn_model.specs.Path.{root}
use Rattle.syn_model.specs.Tree.{is_present}
use Rattle.syn_model.specs.Mark.{IsMarks}
use Rattle.syn_placed.specs.Pairs.{Pairs, before, beyond}
use Rattle.syn_mark.specs.Changes.{after_change}
use Rattle.syn_mark.specs.Marks.{AreMarks}
use Rattle.syn_mark.proofs.MarkLemmas.{entries_are, marks_same}
use Rattle.syn_mark.proofs.ChangeLemmas.{made_entries, made_marks, made_room, placed_change}
use Rattle.syn_mark.proofs.tree.MarkTree.make.Goals as goal
use Rattle.syn_mark.proofs.tree.MarkTree.make.Goals.{After-append}

same : (c : After-append) → c.self.inside.list.items ≡ entries c.args.self.now
same c = entries_are c.self.inside.list.items c.args.self.now c.self.invariant c.self.view_is

-- the whole list stands in the space for the change
joined : (c : After-append) → c.append.new.self.items ≡ c.self.inside.list.items
joined c =
    let ds = c.self.inside.list.items in
    let space = c.into_parts-at.result.2 in
    let fits : vec_len space + vec_len c.self.inside.list ≤ vec_capacity space =
    omega (
      arith,
      c.requires.room,
      c.into_parts-at.ensures.room,
      ap length c.into_parts-at.ensures.spaced.empty,
      space.ok,
      c.self.inside.list.ok,
      len-entries c.args.self.now,
      ap length (same c),
    ) in
    c.append.ensures.items ∙ (ap (λ b. if b then space.items ++ ds else space.items)
    (c.append.ensures.succeeds fits)
    ∙ ap (λ xs. xs ++ ds) c.into_parts-at.ensures.spaced.empty)

-- there is room for the change, and what it makes of the list are the marks after it
made : (c : After-append) →
    (length (before c.into_parts-at.result.0 c.append.new.self.items)
    + length (beyond c.into_parts-at.result.0 c.append.new.self.items)
    + length c.into_parts-at.result.1.items ≤ c.args.change.room)
    × ((items : Pairs) → items ≡ before c.into_parts-at.result.0 c.append.new.self.items
    ++ (c.into_parts-at.result.1.items
    ++ beyond c.into_parts-at.result.0 c.append.new.self.items) →
    AreMarks items × (items ≡ entries (after_change c.args.self.now c.args.change)))
made c =
    let t = c.args.self.now in
    let change = c.args.change in
    let ds = c.self.inside.list.items in
    let added = c.into_parts-at.result.1.items in
    let at = c.into_parts-at.ensures.at in
    let present = ap (λ u. is_present u root) (sym c.self.view_is) ∙ c.self.invariant.present in
    let marks = subst IsMarks c.self.view_is c.self.invariant.marks in
    let placed = placed_change c.into_parts-at.result.0 added c.into_parts-at.result.2.items change
    at c.into_parts-at.ensures.new c.into_parts-at.ensures.spaced in
    let parts = ap₂ (λ p xs. before p xs ++ (added ++ beyond p xs)) at (joined c) in
    let room = made_room t change ds added (same c) present marks c.requires placed in (
      omega (
        arith,
        room,
        ap₂ (λ p xs. length (before p xs)) at (joined c),
        ap₂ (λ p xs. length (beyond p xs)) at (joined c),
      ),
      λ items is. (
        made_marks t change ds added (same c) present marks c.requires placed items (is ∙ parts),
        made_entries t change ds added (same c) present marks c.requires placed items (is ∙ parts),
      ),
    )

pub replace_part-requires-clause-room : goal.replace_part-requires-clause-room
replace_part-requires-clause-room c =
    omega (
      arith,
      (made (goal.at.replace_part-requires-clause-room c).After-append).0,
      c.into_parts-at.result.1.ok,
      c.into_parts-at.ensures.room,
      c.append.ensures.capacity,
    )

pub invariant_of-self : goal.invariant_of-self
invariant_of-self c =
    ((made (goal.at.invariant_of-self c).After-append).1 _ c.replace_part.ensures.items).0

pub returns : goal.returns
returns c =
    marks_same (after_change c.args.self.now c.args.change) c.replace_part.new.list.items
    ((made (goal.at.returns c).After-append).1 _ c.replace_part.ensures.items).1
