use Rattle.std.proofs.Common.{◌≡◌, ◌+◌, length, take, flat_map, refl, sym, ap, ◌∙◌, arith}
use Rattle.std.specs.FinMap.{len-entries}
use Rattle.std.proofs.Math.Seq.{take-length}
use Rattle.syn_model.specs.Limits.{children}
use Rattle.syn_model.specs.Contents.{digest_spelling}
use Rattle.syn_model.specs.Version.{current_version}
use Rattle.syn_wire.specs.Trees.{pair_by}
use Rattle.syn_wire.proofs.MarkLemmas.{few_nodes, marks_walk, measured_more}
use Rattle.syn_wire.proofs.marks.marks_length.Goals as goal

pub loop-entry-preserved : goal.loop-entry-preserved
loop-entry-preserved c =
    let t = c.args.marks.now in
    let x = c.entry-item.result in
    record {
      so_far =
          measured_more t c.as_slice-list.result.now c.loop-entry.entry-index x
          c.entry_length-length.result c.loop-entry.length
          (c.loop-entry.length + c.entry_length-length.result)
          c.loop-entry-test.true c.entry-item.is (c.entry_length-length.ensures.length
          (length (children t x.0))) c.loop-entry.invariant.so_far refl;
      small = omega (arith, c.loop-entry.invariant.small, c.entry_length-length.ensures.brief);
    }

pub returns-clause-length : goal.returns-clause-length
returns-clause-length c =
    let t = c.args.marks.now in
    let list = c.as_slice-list.result.now in
    let ended : c.loop-entry.entry-index ≡ length list =
    omega (arith, c.loop-entry-test.false, c.loop-entry.auto.entry-index-end) in
    c.loop-entry.invariant.so_far ∙ ap length (ap (flat_map (pair_by digest_spelling t))
    (ap (λ n. take n list) ended ∙ (take-length list ∙ c.as_slice-list.ensures.all))
    ∙ sym (marks_walk current_version t c.as_slice-list.ensures.marks.part.parents
    c.as_slice-list.ensures.present))

pub returns-clause-brief : goal.returns-clause-brief
returns-clause-brief c =
    let few = few_nodes c.args.marks.now c.as_slice-list.ensures.fits in
    let count = len-entries c.args.marks.now in
    omega (
      arith,
      c.loop-entry.invariant.small,
      c.loop-entry.auto.entry-index-end,
      ap length c.as_slice-list.ensures.all,
      few,
      count,
    )
