use Rattle.std.proofs.Common.{◌∙◌, sym, true≢false}
use Rattle.syn_pair.proofs.side.entry_of.Goals as goal
use Rattle.syn_pair.specs.Sides.{of_identity, of_name}

pub returns-then-are_one : goal.returns-then-are_one
returns-then-are_one c = of_identity (c.are_one.ensures.0 c.if-are_one.true)

pub returns : goal.returns
returns c =
    of_name (λ one. absurd (true≢false (sym (c.are_one.ensures.1 one) ∙ c.if-are_one.false)))
