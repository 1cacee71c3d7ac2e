use Rattle.std.proofs.Common.{take, drop, ap₂, ◌∙◌, arith}
use Rattle.syn_placed.proofs.RisingLemmas.{rising_of, taken_within, counted}
use Rattle.syn_placed.proofs.by_path.part_at.Goals as goal

pub run_of-requires : goal.run_of-requires
run_of-requires g c =
    omega (
      arith,
      counted c.args.names.now c.args.list.now (rising_of c.args.list.now c.requires),
      c.range_of-start.ensures.start,
      c.range_of-start.ensures.count,
    )

pub returns : goal.returns
returns g c =
    c.run_of.ensures ∙ (ap₂ (λ n k. take k (drop n c.args.list.now)) c.range_of-start.ensures.start
    c.range_of-start.ensures.count
    ∙ taken_within c.args.names.now c.args.list.now (rising_of c.args.list.now c.requires))
