use Rattle.std.proofs.Common.{◌≡◌, ◌<◌, ◌^◌, ◌++◌, true, length, flat_map, sym, ap, ◌∙◌, subst}
use Rattle.std.proofs.Common.{append-nil, arith}
use Rattle.syn_model.specs.Path.{Bytes}
use Rattle.syn_model.specs.Limits.{children, fits_content}
use Rattle.syn_tree.specs.Contents.{found_content}
use Rattle.syn_wire.specs.Trees.{pair_spelling, standing_spelling}
use Rattle.syn_wire.specs.inner.Windows.{Shows}
use Rattle.syn_wire.proofs.WritingLemmas.{whole_fits_part}
use Rattle.syn_wire.proofs.PieceLemmas.{found_fits, below_fits, part_spelled}
use Rattle.syn_wire.proofs.piece.push_part.Goals as goal

pub push_found-requires-clause-count : goal.push_found-requires-clause-count
push_found-requires-clause-count c =
    let t = c.args.tree.now in
    subst (λ n. n < 2 ^ 16) (sym c.child_count.ensures)
    (found_fits t c.args.path.now (found_content c.args.found.now)
    (whole_fits_part t c.entries-whole.ensures.fits) c.requires).1

pub push_found-requires-clause-brief : goal.push_found-requires-clause-brief
push_found-requires-clause-brief c =
    let t = c.args.tree.now in
    (found_fits t c.args.path.now (found_content c.args.found.now)
    (whole_fits_part t c.entries-whole.ensures.fits) c.requires).0

limits : (c : goal.After-count_in_tree) → (fits_content c.in-Some.pair.1 ≡ true)
    × (length (children c.args.tree.now c.in-Some.pair.0) < 2 ^ 16)
limits c =
    let t = c.args.tree.now in
    let read = c.loop-pair.yielded in
    below_fits t c.args.path.now read c.in-Some.pair c.next.new.self
    (whole_fits_part t c.entries-whole.ensures.fits)
    (sym c.loop-pair.invariant.whole ∙ ap (λ xs. read ++ xs) c.in-Some.ensures.steps)

pub push_pair-requires-clause-count : goal.push_pair-requires-clause-count
push_pair-requires-clause-count c =
    omega (arith, (limits c).1, c.count_in_tree.ensures.few)

pub push_pair-requires-clause-brief : goal.push_pair-requires-clause-brief
push_pair-requires-clause-brief c = (limits c).0

pub returns : goal.returns
returns c offset written was =
    let t = c.args.tree.now in
    let at = c.args.path.now in
    let there = found_content c.args.found.now in
    let read = c.loop-pair.yielded in
    let all = sym (append-nil read)
    ∙ (ap (λ xs. read ++ xs) (sym c.in-None.ensures.steps.0) ∙ c.loop-pair.invariant.whole) in
    let whole = ap (λ xs. standing_spelling (length (children t at)) there
    ++ flat_map (pair_spelling t) xs) all
    ∙ sym (part_spelled t at there c.entries-whole.ensures.tree.part.parents c.requires) in
    subst (λ (bytes : Bytes). Shows offset (written ++ bytes) c.loop-pair.window.kept.items
    c.loop-pair.window.skip) whole (c.loop-pair.invariant.shown offset written was)
