use Rattle.std.proofs.Common.{◌≡◌, ◌≤◌, ◌++◌, length, take, flat_map, sym, ap, ◌∙◌, append-nil}
use Rattle.std.proofs.Common.{arith}
use Rattle.std.proofs.Math.Seq.{take-length}
use Rattle.syn_model.specs.Limits.{children}
use Rattle.syn_model.specs.Contents.{digest_spelling}
use Rattle.syn_model.specs.Version.{current_version}
use Rattle.syn_wire.specs.Trees.{pair_by}
use Rattle.syn_model.proofs.ExitLemmas.{on_ok_of_exit}
use Rattle.syn_wire.proofs.ByteLemmas.{begins_further}
use Rattle.syn_wire.proofs.MarkLemmas.{few_names, marks_walk}
use Rattle.syn_wire.proofs.WritingLemmas.{pairs_more}
use Rattle.syn_wire.proofs.marks.write_marks.Goals as goal

pub loop-entry-init : goal.loop-entry-init
loop-entry-init c = sym (append-nil c.args.out.now.items)

pub write_mark-requires : goal.write_mark-requires
write_mark-requires c =
    let few : length (children c.args.marks.now c.entry-item.result.0) ≤ 4096 =
    few_names c.args.marks.now c.entry-item.result.0 c.as_slice-list.ensures.fits in
    omega (arith, few, c.count_in_marks.ensures.few)

pub loop-entry-preserved : goal.loop-entry-preserved
loop-entry-preserved c =
    pairs_more digest_spelling c.args.marks.now c.as_slice-list.result.now c.loop-entry.entry-index
    c.entry-item.result c.count_in_marks.result c.args.out.now.items c.loop-entry.out.items
    c.write_mark.new.out.items
    c.loop-entry-test.true c.entry-item.is c.count_in_marks.ensures.spelled c.loop-entry.invariant
    c.in_ok-write_mark.ensures.added

pub returns-clause-added : goal.returns-clause-added
returns-clause-added c =
    let t = c.args.marks.now in
    let list = c.as_slice-list.result.now in
    let ended : c.loop-entry.entry-index ≡ length list =
    omega (arith, c.loop-entry-test.false, c.loop-entry.auto.entry-index-end) in
    c.loop-entry.invariant
    ∙ ap (λ b. c.args.out.now.items ++ b) (ap (flat_map (pair_by digest_spelling t))
    (ap (λ n. take n list) ended ∙ (take-length list ∙ c.as_slice-list.ensures.all))
    ∙ sym (marks_walk current_version t c.as_slice-list.ensures.marks.part.parents
    c.as_slice-list.ensures.present))

pub returns-clause-kept : goal.returns-clause-kept
returns-clause-kept c = (_, c.loop-entry.invariant)

pub returns-in_err-write_mark-clause-added : goal.returns-in_err-write_mark-clause-added
returns-in_err-write_mark-clause-added c =
    on_ok_of_exit c.from_residual.result _ _ c.from_residual.ensures.1

pub returns-in_err-write_mark-clause-kept : goal.returns-in_err-write_mark-clause-kept
returns-in_err-write_mark-clause-kept c =
    begins_further c.args.out.now.items c.loop-entry.out.items c.write_mark.new.out.items
    (_, c.loop-entry.invariant) c.write_mark.ensures.kept
