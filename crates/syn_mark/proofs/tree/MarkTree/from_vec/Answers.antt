use Rattle.std.proofs.Common.{◌≡◌, ◌∷◌, [], Some, length, sym, ap, ◌∙◌, subst, true≢false, arith}
use Rattle.syn_model.specs.Tree.{at_root, is_directory_content}
use Rattle.syn_placed.specs.Pairs.{AreRising, rooted}
use Rattle.syn_mark.specs.Marks.{AreMarks}
use Rattle.syn_mark.proofs.MarkLemmas.{entries_of, are_marks, one_entries, one_marks, one_present}
use Rattle.syn_mark.proofs.MarkLemmas.{one_fits}
use Rattle.syn_mark.proofs.PlacingLemmas.{some_first, first_root, not_many, marks_placed}
use Rattle.syn_mark.proofs.PlacingLemmas.{placed_marks, items_are, none_of, empty_of, others}
use Rattle.syn_mark.proofs.PlacingLemmas.{rooted_is, rooted_directory, not_below_file}
use Rattle.syn_mark.proofs.tree.MarkTree.from_vec.Goals as goal
use Rattle.syn_mark.proofs.tree.MarkTree.from_vec.Goals.{After-are_rising, After-is_root}

pub returns-in_default-clause-none : goal.returns-in_default-clause-none
returns-in_default-clause-none c marks =
    some_first (subst AreMarks
    (sym c.as_slice.ensures.value ∙ none_of c.as_slice.result.now c.in_default.len_below) marks)

whole : (c : After-is_root) →
    c.args.list.items ≡ c.first-item.result ∷ others c.as_slice.result.now
whole c =
    items_are c.args.list.items c.as_slice.result.now c.first-item.result c.as_slice.ensures.value
    c.in-len1-up.len_at_least c.first-item.is

pub returns-then-not-is_root-clause-none : goal.returns-then-not-is_root-clause-none
returns-then-not-is_root-clause-none c marks =
    first_root c.first-item.result (others c.as_slice.result.now)
    (subst AreMarks (whole (goal.at.returns-then-not-is_root-clause-none c).After-is_root) marks)
    (sym c.is_root.ensures ∙ c.if-not-is_root.true)

pub returns-then-len-gt-MOST_NODES-clause-none : goal.returns-then-len-gt-MOST_NODES-clause-none
returns-then-len-gt-MOST_NODES-clause-none c marks =
    not_many c.args.list.items marks
    (omega (arith, c.if-len-gt-MOST_NODES.true, c.len.ensures, c.args.list.ok))

pub invariant_of-result : goal.invariant_of-result
invariant_of-result c =
    let part = c.as_slice.result.now in
    let first = c.first-item.result in
    let alone = whole (goal.at.invariant_of-result c).After-is_root ∙ (ap (λ xs. first ∷ xs)
    (empty_of (others part) (sym c.is_empty.ensures ∙ c.if-is_empty.true))
    ∙ ap (λ e. e ∷ []) (rooted_is first (sym c.is_root.ensures ∙ c.if-not-is_root.false))) in
    are_marks (at_root first.1) c.args.list.items (alone ∙ one_entries first.1)
    (one_present first.1) (one_marks first.1 c.is_entry.ensures.1) (one_fits first.1)

pub returns-then-is_empty-clause-some : goal.returns-then-is_empty-clause-some
returns-then-is_empty-clause-some c = sym (entries_of c.args.list.items (invariant_of-result c))

pub returns-then-not-is_directory-clause-none : goal.returns-then-not-is_directory-clause-none
returns-then-not-is_directory-clause-none c marks =
    not_below_file c.first-item.result (others c.as_slice.result.now)
    (sym c.is_root.ensures ∙ c.if-not-is_root.false)
    (sym c.is_empty.ensures ∙ c.if-is_empty.false)
    (ap (λ x. is_directory_content (Some x)) (sym c.content.ensures)
    ∙ (sym c.is_directory.ensures ∙ c.if-not-is_directory.true)) (subst AreMarks
    (whole (goal.at.returns-then-not-is_directory-clause-none c).After-is_root) marks)

-- where something is below the root, the root is a directory
below_root : (c : After-are_rising) → c.args.list.items ≡ rooted (others c.as_slice.result.now)
below_root c =
    whole (goal.at.After-are_rising c).After-is_root
    ∙ ap (λ e. e ∷ others c.as_slice.result.now) (rooted_directory c.first-item.result
    (sym c.is_root.ensures ∙ c.if-not-is_root.false)
    (ap (λ x. is_directory_content (Some x)) (sym c.content.ensures)
    ∙ (sym c.is_directory.ensures ∙ c.if-not-is_directory.false)))

pub returns-then-not-are_rising-clause-none : goal.returns-then-not-are_rising-clause-none
returns-then-not-are_rising-clause-none c marks =
    let all = below_root (goal.at.returns-then-not-are_rising-clause-none c).After-are_rising in
    let rising : AreRising (rooted (others c.as_slice.result.now)) =
    (subst AreMarks all marks).rising in
    absurd (true≢false (sym (c.are_rising.ensures.1 rising) ∙ c.if-not-are_rising.true))

pub returns-then-not-all_placed-clause-none : goal.returns-then-not-all_placed-clause-none
returns-then-not-all_placed-clause-none c marks =
    let all = below_root (goal.at.returns-then-not-all_placed-clause-none c).After-are_rising in
    absurd (true≢false (sym (marks_placed (others c.as_slice.result.now) (subst AreMarks all marks))
    ∙ (sym c.all_placed.ensures.value ∙ c.if-not-all_placed.true)))

pub invariant_of-result-2 : goal.invariant_of-result-2
invariant_of-result-2 c =
    let all = below_root (goal.at.invariant_of-result-2 c).After-are_rising in
    subst AreMarks (sym all) (placed_marks (others c.as_slice.result.now)
    (c.are_rising.ensures.0 c.if-not-are_rising.false) (sym c.all_placed.ensures.value
    ∙ c.if-not-all_placed.false) (c.all_placed.ensures.lawful c.if-not-all_placed.false)
    (omega (arith, ap length all, c.if-len-gt-MOST_NODES.false, c.len.ensures, c.args.list.ok)))

pub returns-clause-some : goal.returns-clause-some
returns-clause-some c = sym (entries_of c.args.list.items (invariant_of-result-2 c))
