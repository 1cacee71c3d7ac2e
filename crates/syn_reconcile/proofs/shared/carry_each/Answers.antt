use Rattle.std.proofs.Common.{◌≡◌, ◌∙◌, ◌++◌, ◌∷◌, [], ap, append-nil, append_assoc, arith, List}
use Rattle.std.proofs.Common.{refl, subst, sym}
use Rattle.std.proofs.lemmas.List.{map-append, nil_from_length}
use Rattle.std.specs.Prelude.{IfNone}
use Rattle.syn_archive.specs.Archive.{Stands as Keeps, disk_of, marks_shown, pair_of}
use Rattle.syn_disk.specs.Stops.{LeavesOnly}
use Rattle.syn_folder.specs.declared.stranger.Stranger.{Stranger}
use Rattle.syn_model.specs.Archive.{Archive as Kept}
use Rattle.syn_recon.specs.Items.{item_of, items_of}
use Rattle.syn_reconcile.proofs.RunLemmas.{part_then}
use Rattle.syn_reconcile.proofs.SharedLemmas.{alone_more, beside_more, cut_short, hold_more}
use Rattle.syn_reconcile.proofs.SharedLemmas.{if_err_any, seen_first, step_seen, unwritten}
use Rattle.syn_reconcile.proofs.CarryLemmas.{with_settled}
use Rattle.syn_reconcile.specs.Settlings.{here, items_in}
use Rattle.syn_reconcile.specs.Shared.{HasSeenMarks, HoldInTurn, IsBeside, LeaveAlone}
use Rattle.syn_reconcile.specs.Shared.{after_all_seen}
use Rattle.syn_reconcile.specs.Shared as shared
use Rattle.syn_reconcile.specs.Strangers.{LeavesAlone}
use Rattle.syn_reconcile.specs.declared.report.Settled.{Settled}
use Rattle.syn_reconcile.proofs.shared.carry_each.Given.{Over}
use Rattle.syn_reconcile.proofs.shared.carry_each.Goals as goal
use Rattle.syn_reconcile.proofs.shared.carry_each.Goals.{After-carry_one, In_ok-refused}

pub loop-item-init : goal.loop-item-init
loop-item-init g c =
    let tree = g.F.EditedFolder.tree in
    let found = here (tree c.args.folder.now) c.args.side.now.seen.now.tree
    (marks_shown c.args.archive.now)
    in
    let none = c.new-settled.ensures.items in
    record {
      whole = sym c.into_iter-item-iterator.ensures.into_iter_gives.0;
      items = ap items_in none;
      of = c.requires;
      carried = λ kept keeps.
          subst (λ (xs : List Settled). IsBeside (after_all_seen found xs)
          (tree c.args.folder.now) c.args.archive.now) (sym none)
          (record { folder = refl; marks = record { kept = kept; keeps = keeps; are = refl } });
      holds = λ kept keeps.
          subst (λ (xs : List Settled). HoldInTurn c.args.side.now.shared.now c.args.side.now.user
          c.args.side.now.seen.now.position found xs c.args.pass.now c.args.pass.now) (sym none)
          (shared.none c.args.pass.now);
      marks = λ kept keeps.
          unwritten g.met.A.Disk.only_now c.args.archive.now kept keeps _
          (λ bytes has. seen_first c.args.side.now.shared.now c.args.side.now.user
          c.args.side.now.seen.now.position
          (items_of c.args.items.items) found c.args.pass.now (pair_of c.args.archive.now)
          (marks_shown c.args.archive.now) bytes refl has);
      marked = refl;
      apart = subst (LeaveAlone (g.F.EditedFolder.strangers c.args.folder.now)
          c.args.side.now.seen.now.tree) (sym none) tt;
      strangers = refl;
    }

-- the items of the plan: those that were settled, this one, and the others
are : (g : Over) (c : After-carry_one g) → items_of c.args.items.items
    ≡ items_in c.loop-item.settled.items ++ item_of c.in-Some.item
    ∷ items_of c.next.new.self.rest.items
are g c = with_settled c.args.items.items c.loop-item.yielded c.next.new.self.rest.items
    c.loop-item.settled.items c.in-Some.item
    (c.loop-item.invariant.whole
    ∙ ap (λ xs. c.loop-item.yielded ++ xs) c.in-Some.ensures.steps.0) c.loop-item.invariant.items

-- what a stop leaves of the archive up to the end of the item
any_mark : (g : Over) (c : After-carry_one g) (kept : Kept) → Keeps c.args.archive.now kept →
    LeavesOnly g.A.Disk.moment g.A.Disk.left_since (disk_of c.args.archive.now)
    (disk_of c.carry_one.new.archive) (HasSeenMarks c.args.side.now.shared.now c.args.side.now.user
    c.args.side.now.seen.now.position (pair_of c.args.archive.now) (items_of c.args.items.items)
    (here (g.F.EditedFolder.tree c.args.folder.now) c.args.side.now.seen.now.tree
    (marks_shown c.args.archive.now)) c.args.pass.now)
any_mark g c kept keeps =
    let tree = g.F.EditedFolder.tree in
    let seen = c.args.side.now.seen.now in
    let on = c.loop-item.invariant.carried kept keeps in
    step_seen c.args.side.now.shared.now c.args.side.now.user seen.position
    (items_of c.args.items.items)
    (here (tree c.args.folder.now) seen.tree (marks_shown c.args.archive.now)) c.args.pass.now
    c.loop-item.settled.items c.in-Some.item (items_of c.next.new.self.rest.items) (are g c)
    (tree c.loop-item.folder) c.loop-item.archive on c.loop-item.pass c.carry_one.new.pass
    (c.loop-item.invariant.holds kept keeps) (pair_of c.args.archive.now)
    c.loop-item.invariant.marked (disk_of c.args.archive.now) (disk_of c.carry_one.new.archive)
    (c.loop-item.invariant.marks kept keeps)
    (c.carry_one.ensures.any_mark on.marks.kept on.marks.keeps)

-- the item goes on from what the ones before it left, and so do the holds of the lock
goes_on : (g : Over) (c : In_ok-refused g) (kept : Kept) → Keeps c.args.archive.now kept →
    (IsBeside (after_all_seen (here (g.F.EditedFolder.tree c.args.folder.now)
    c.args.side.now.seen.now.tree (marks_shown c.args.archive.now)) (c.loop-item.settled.items
    ++ record { item = c.in-Some.item; refused = c.in_ok-refused.refused } ∷ []))
    (g.F.EditedFolder.tree c.carry_one.new.folder) c.carry_one.new.archive)
    × HoldInTurn c.args.side.now.shared.now c.args.side.now.user c.args.side.now.seen.now.position
    (here (g.F.EditedFolder.tree c.args.folder.now) c.args.side.now.seen.now.tree
    (marks_shown c.args.archive.now)) (c.loop-item.settled.items
    ++ record { item = c.in-Some.item; refused = c.in_ok-refused.refused } ∷ [])
    c.args.pass.now c.carry_one.new.pass
goes_on g c kept keeps =
    let tree = g.F.EditedFolder.tree in
    let seen = c.args.side.now.seen.now in
    let settled = c.loop-item.settled.items in
    let one : Settled = record { item = c.in-Some.item; refused = c.in_ok-refused.refused } in
    let found = here (tree c.args.folder.now) seen.tree (marks_shown c.args.archive.now) in
    let on = c.loop-item.invariant.carried kept keeps in (
      beside_more found settled (tree c.loop-item.folder) c.loop-item.archive on one
          (tree c.carry_one.new.folder) c.carry_one.new.archive
          (c.in_ok-refused.ensures.carried on.marks.kept on.marks.keeps),
      hold_more found settled (tree c.loop-item.folder) c.loop-item.archive on
          c.args.side.now.shared.now c.args.side.now.user seen.position one c.args.pass.now
          c.loop-item.pass
          c.carry_one.new.pass (c.loop-item.invariant.holds kept keeps)
          c.in_ok-refused.ensures.holds,
    )

pub loop-item-preserved : goal.loop-item-preserved
loop-item-preserved g c =
    let k = goal.at.loop-item-preserved g c in
    let strange = g.F.EditedFolder.strangers c.args.folder.now in
    let made = c.loop-item.yielded in
    let item = c.in-Some.item in
    let others = c.next.new.self.rest.items in
    let one : Settled = record { item = item; refused = c.in_ok-refused.refused } in
    let settled = c.loop-item.settled.items in
    let seen = c.args.side.now.seen.now in
    let found = here (g.F.EditedFolder.tree c.args.folder.now) seen.tree
    (marks_shown c.args.archive.now) in
    let noted = c.in_ok-note.ensures in
    record {
      whole =
          c.loop-item.invariant.whole ∙ ap (λ xs. made ++ xs) c.in-Some.ensures.steps.0
          ∙ sym (append_assoc made (item ∷ []) others);
      items =
          ap items_in noted ∙ (map-append (λ (s : Settled). item_of s.item) settled (one ∷ [])
          ∙ (ap (λ xs. xs ++ item_of item ∷ []) c.loop-item.invariant.items
          ∙ sym (map-append item_of made (item ∷ []))));
      of = c.carry_one.ensures.of;
      carried = λ kept keeps.
          subst (λ (xs : List Settled). IsBeside (after_all_seen found xs)
          (g.F.EditedFolder.tree c.carry_one.new.folder) c.carry_one.new.archive) (sym noted)
          (goes_on g k.In_ok-refused kept keeps).0;
      holds = λ kept keeps.
          subst (λ (xs : List Settled). HoldInTurn c.args.side.now.shared.now c.args.side.now.user
          seen.position found
          xs c.args.pass.now c.carry_one.new.pass) (sym noted)
          (goes_on g k.In_ok-refused kept keeps).1;
      marks = any_mark g k.After-carry_one;
      marked = c.carry_one.ensures.marked ∙ c.loop-item.invariant.marked;
      apart =
          subst (LeaveAlone strange seen.tree) (sym noted)
          (alone_more strange seen.tree settled one c.loop-item.invariant.apart
          (subst (λ (s : List Stranger). IfNone one.refused (LeavesAlone s seen.tree
          (item_of item))) c.loop-item.invariant.strangers c.in_ok-refused.ensures.apart));
      strangers = c.carry_one.ensures.strangers ∙ c.loop-item.invariant.strangers;
    }

pub returns-clause-items : goal.returns-clause-items
returns-clause-items g c =
    let rest = c.loop-item.item-iterator.rest in
    let none : rest.items ≡ [] =
    nil_from_length rest.items (omega (arith, c.in-None.ensures.steps.0, rest.ok)) in
    let all = c.loop-item.invariant.whole
    ∙ (ap (λ xs. c.loop-item.yielded ++ xs) none ∙ append-nil c.loop-item.yielded) in
    c.loop-item.invariant.items ∙ ap items_of (sym all)

pub returns-in_err-refused-clause-stopped : goal.returns-in_err-refused-clause-stopped
returns-in_err-refused-clause-stopped g c kept keeps =
    let tree = g.F.EditedFolder.tree in
    let seen = c.args.side.now.seen.now in
    let on = c.loop-item.invariant.carried kept keeps in
    let mark = c.carry_one.ensures.any_mark on.marks.kept on.marks.keeps in
    if_err_any _ _
    (cut_short c.args.side.now.shared.now c.args.side.now.user seen.position
    (items_of c.args.items.items)
    (here (tree c.args.folder.now) seen.tree (marks_shown c.args.archive.now)) c.args.pass.now
    c.loop-item.settled.items c.in-Some.item (items_of c.next.new.self.rest.items)
    (are g (goal.at.returns-in_err-refused-clause-stopped g c).After-carry_one)
    (tree c.loop-item.folder) c.loop-item.archive on c.loop-item.pass c.carry_one.new.pass
    (c.loop-item.invariant.holds kept keeps) (pair_of c.args.archive.now)
    c.loop-item.invariant.marked (tree c.carry_one.new.folder) c.carry_one.new.archive
    (λ bytes may. mark.each bytes (g.met.A.Disk.counts_now (disk_of c.carry_one.new.archive)
    (g.A.Disk.moment (disk_of c.loop-item.archive)) bytes mark.later may))
    c.in_err-refused.ensures.stopped)

pub returns-in_err-refused-clause-any_mark : goal.returns-in_err-refused-clause-any_mark
returns-in_err-refused-clause-any_mark g c =
    any_mark g (goal.at.returns-in_err-refused-clause-any_mark g c).After-carry_one

pub returns-in_err-note-clause-stopped : goal.returns-in_err-note-clause-stopped
returns-in_err-note-clause-stopped g c kept keeps =
    let k = goal.at.returns-in_err-note-clause-stopped g c in
    let settled = c.loop-item.settled.items in
    let one : Settled = record { item = c.in-Some.item; refused = c.in_ok-refused.refused } in
    let now = goes_on g k.In_ok-refused kept keeps in
    if_err_any _ _
    (shared.IsCutShort.between (settled ++ one ∷ [])
    (part_then (items_of c.args.items.items) settled one (items_of c.next.new.self.rest.items)
    (are g k.After-carry_one)) now.0 now.1)

pub returns-in_err-note-clause-any_mark : goal.returns-in_err-note-clause-any_mark
returns-in_err-note-clause-any_mark g c =
    any_mark g (goal.at.returns-in_err-note-clause-any_mark g c).After-carry_one
