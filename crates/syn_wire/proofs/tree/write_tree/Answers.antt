use Rattle.std.proofs.Common.{◌≡◌, ◌<◌, ◌^◌, ◌++◌, ◌∷◌, [], length, flat_map, sym, ap, ◌∙◌, subst}
use Rattle.std.proofs.Common.{append_assoc, append-nil, arith}
use Rattle.std.specs.FinMap.{entries}
use Rattle.syn_model.specs.Contents.{contents_spelling}
use Rattle.syn_model.specs.Limits.{children}
use Rattle.syn_placed.specs.Pairs.{rooted}
use Rattle.syn_wire.specs.Trees.{pair_spelling}
use Rattle.syn_model.proofs.ExitLemmas.{on_ok_of_exit}
use Rattle.syn_wire.proofs.ByteLemmas.{begins_more, begins_further}
use Rattle.syn_wire.proofs.WritingLemmas.{pair_more, whole_written, root_few, pair_fits}
use Rattle.syn_wire.proofs.WritingLemmas.{whole_fits_part}
use Rattle.syn_wire.proofs.tree.write_tree.Goals as goal

pub loop-pair-init : goal.loop-pair-init
loop-pair-init c = record {
  whole = ap rooted c.into_iter-pair-iterator.ensures.into_iter_gives ∙ c.entries-pairs.ensures.all;
  written = sym (append-nil c.write_count.new.out.items);
}

pub loop-pair-preserved : goal.loop-pair-preserved
loop-pair-preserved c =
    let read = c.loop-pair.yielded in
    let x = c.in-Some.pair in
    record {
      whole =
          ap rooted (append_assoc read (x ∷ []) c.next.new.self
          ∙ ap (λ xs. read ++ xs) (sym c.in-Some.ensures.steps)) ∙ c.loop-pair.invariant.whole;
      written =
          pair_more contents_spelling c.args.tree.now read x c.count_in_tree.result
          c.write_count.new.out.items c.loop-pair.out.items c.write_pair.new.out.items
          c.count_in_tree.ensures.spelled c.loop-pair.invariant.written
          c.in_ok-write_pair.ensures.added;
    }

pub returns-clause-added : goal.returns-clause-added
returns-clause-added c =
    let t = c.args.tree.now in
    let read = c.loop-pair.yielded in
    let all : rooted read ≡ entries t =
    ap rooted (sym (append-nil read) ∙ ap (λ xs. read ++ xs) (sym c.in-None.ensures.steps.0))
    ∙ c.loop-pair.invariant.whole in
    whole_written t read c.child_count.result c.args.out.now.items c.write_count.new.out.items
    c.loop-pair.out.items c.entries-pairs.ensures.tree all
    (c.child_count.ensures ∙ ap (λ p. length (children t p)) c.root-root.ensures)
    c.in_ok-write_count.ensures.added c.loop-pair.invariant.written

pub write_count-requires : goal.write_count-requires
write_count-requires c =
    let t = c.args.tree.now in
    let few = root_few t c.entries-pairs.result c.entries-pairs.ensures.all
    (whole_fits_part c.args.tree.now c.entries-pairs.ensures.fits) in
    subst (λ n. n < 2 ^ 16)
    (sym (c.child_count.ensures ∙ ap (λ p. length (children t p)) c.root-root.ensures)) few

pub write_pair-requires-clause-count : goal.write_pair-requires-clause-count
write_pair-requires-clause-count c =
    let t = c.args.tree.now in
    let read = c.loop-pair.yielded in
    let fit = pair_fits t (read ++ c.loop-pair.pair-iterator) c.loop-pair.invariant.whole
    (whole_fits_part t c.entries-pairs.ensures.fits) read c.in-Some.pair c.next.new.self
    (ap (λ xs. read ++ xs) c.in-Some.ensures.steps) in
    omega (arith, fit.1, c.count_in_tree.ensures.few)

pub write_pair-requires-clause-brief : goal.write_pair-requires-clause-brief
write_pair-requires-clause-brief c =
    let read = c.loop-pair.yielded in
    (pair_fits c.args.tree.now (read ++ c.loop-pair.pair-iterator) c.loop-pair.invariant.whole
    (whole_fits_part c.args.tree.now c.entries-pairs.ensures.fits) read c.in-Some.pair
    c.next.new.self (ap (λ xs. read ++ xs) c.in-Some.ensures.steps)).0

pub returns-clause-kept : goal.returns-clause-kept
returns-clause-kept c =
    begins_more c.args.out.now.items c.write_count.new.out.items c.loop-pair.out.items
    (flat_map (pair_spelling c.args.tree.now) c.loop-pair.yielded)
    c.write_count.ensures.kept c.loop-pair.invariant.written

pub returns-in_err-write_count-clause-added : goal.returns-in_err-write_count-clause-added
returns-in_err-write_count-clause-added c =
    on_ok_of_exit c.from_residual.result _ _ c.from_residual.ensures.1

pub returns-in_err-write_count-clause-kept : goal.returns-in_err-write_count-clause-kept
returns-in_err-write_count-clause-kept c = c.write_count.ensures.kept

pub returns-in_err-write_pair-clause-added : goal.returns-in_err-write_pair-clause-added
returns-in_err-write_pair-clause-added c =
    on_ok_of_exit c.from_residual-in_err-write_pair.result _ _
    c.from_residual-in_err-write_pair.ensures.1

pub returns-in_err-write_pair-clause-kept : goal.returns-in_err-write_pair-clause-kept
returns-in_err-write_pair-clause-kept c =
    let out = c.args.out.now.items in
    let so_far = begins_more out c.write_count.new.out.items c.loop-pair.out.items
    (flat_map (pair_spelling c.args.tree.now) c.loop-pair.yielded)
    c.write_count.ensures.kept c.loop-pair.invariant.written in
    begins_further out c.loop-pair.out.items c.write_pair.new.out.items so_far
    c.write_pair.ensures.kept
