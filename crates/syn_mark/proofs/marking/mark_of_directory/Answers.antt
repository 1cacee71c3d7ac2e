use Rattle.std.proofs.Common.{◌≡◌, ◌≤◌, [], ◌∷◌, ◌++◌, length, refl, sym, ap, ap₂, ◌∙◌, is_some}
use Rattle.std.proofs.Common.{arith}
use Rattle.std.specs.FinMap.{entries, len, len-entries}
use Rattle.syn_model.specs.Mark.{mark}
use Rattle.syn_model.specs.Path.{Path}
use Rattle.syn_model.specs.Tree.{Directory}
use Rattle.syn_mark.specs.Placings.{marked}
use Rattle.syn_mark.proofs.MarkLemmas.{are_marks, marks_same, entries-mark, mark_is_marks}
use Rattle.syn_mark.proofs.MarkLemmas.{mark_present, mark_fits}
use Rattle.syn_mark.proofs.marking.mark_of_directory.Goals as goal

pub returns-then-len-ge-MOST_NODES-clause-full : goal.returns-then-len-ge-MOST_NODES-clause-full
returns-then-len-ge-MOST_NODES-clause-full c other = (
  refl,
  omega (
    arith,
    len-entries c.args.entries.now,
    ap length (sym c.iter-below.ensures.all),
    c.if-len-ge-MOST_NODES.true,
  ),
)

marks_are : (c : goal.In_ok-push_marks) →
    c.push_marks.new.list.items ≡ entries (mark c.args.entries.now)
marks_are c =
    let first = c.in_ok-push.ensures.items ∙ ap₂ (λ xs x. xs ++ x ∷ []) c.in_ok-list.ensures.items
    (c.new.ensures ∙ ap (λ (p : Path). (p, Directory)) c.root.ensures) in
    c.in_ok-push_marks.ensures ∙ (ap (λ xs. xs ++ marked c.iter-below.result) first
    ∙ (ap marked c.iter-below.ensures.all ∙ sym (entries-mark c.args.entries.now)))

pub from_marks-requires : goal.from_marks-requires
from_marks-requires c =
    let t = c.args.entries.now in
    let count : len t ≤ 4096 = omega (
      arith,
      len-entries t,
      ap length (sym c.iter-below.ensures.all),
      c.if-len-ge-MOST_NODES.false,
    ) in
    are_marks (mark t) c.push_marks.new.list.items (marks_are c)
    (mark_present t (ap is_some c.iter-below.ensures.tree.rooted))
    (mark_is_marks t c.iter-below.ensures.tree.part)
    (mark_fits t count c.iter-below.ensures.paths)

pub returns-clause-ok : goal.returns-clause-ok
returns-clause-ok c =
    c.from_marks.ensures
    ∙ marks_same (mark c.args.entries.now) c.push_marks.new.list.items (marks_are c.before)
