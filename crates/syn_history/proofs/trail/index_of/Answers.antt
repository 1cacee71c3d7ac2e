use Rattle.std.proofs.Common.{[], ℕ, length, length-append, ap, ◌∙◌, arith}
use Rattle.std.specs.FinMap.{len, len-empty}
use Rattle.syn_model.specs.Path.{path_cmp}
use Rattle.syn_history.specs.Index.{last_positions}
use Rattle.syn_history.proofs.trail.index_of.Goals as goal

pub add_later-requires : goal.add_later-requires
add_later-requires c =
    let older = c.as_slices.result.0.now in
    let newer = c.as_slices.result.1.now in
    omega (
      arith,
      ap len c.in_ok-index.ensures,
      len-empty path_cmp ℕ,
      ap length c.as_slices.ensures,
      length-append older newer,
      c.requires,
    )

pub add_later-requires-2 : goal.add_later-requires-2
add_later-requires-2 c =
    let older = c.as_slices.result.0.now in
    let newer = c.as_slices.result.1.now in
    omega (
      arith,
      ap len c.in_ok-index.ensures,
      len-empty path_cmp ℕ,
      ap length c.as_slices.ensures,
      length-append older newer,
      c.requires,
      c.in_ok-add_later.ensures.room,
    )

pub returns-clause-index : goal.returns-clause-index
returns-clause-index c =
    c.in_ok-add_later-2.ensures.later c.as_slices.result.0.now
    (c.in_ok-add_later.ensures.later [] c.in_ok-index.ensures)
    ∙ ap last_positions c.as_slices.ensures
