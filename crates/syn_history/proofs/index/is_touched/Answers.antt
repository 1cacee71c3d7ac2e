use Rattle.std.proofs.Common.{◌≡◌, ◌<◌, ◌↔◌, ℕ, IsTrue, true, length, take, sym, ◌∙◌, subst}
use Rattle.syn_history.specs.Index.{is_touched_at}
use Rattle.std.specs.FinMap.{entries}
use Rattle.syn_history.proofs.IndexLemmas.{below_tells, above_or_not}
use Rattle.syn_history.proofs.index.is_touched.Goals as goal

pub returns-then-is_touched_below : goal.returns-then-is_touched_below
returns-then-is_touched_below c =
    c.if-is_touched_below.true ∙ sym (below_tells c.args.since c.args.path.now
    (entries c.args.index.now) (sym c.is_touched_below.ensures ∙ c.if-is_touched_below.true))

pub returns-else-is_touched_below : goal.returns-else-is_touched_below
returns-else-is_touched_below c =
    let since = c.args.since in
    let path = c.args.path.now in
    let index = c.args.index.now in
    let below = sym c.is_touched_below.ensures ∙ c.if-is_touched_below.false in
    above_or_not since path index c.is_touched_above.result below
    (subst (λ names. IsTrue c.is_touched_above.result ↔ ((depth : ℕ) × (depth < length names)
    × (is_touched_at since index (take depth names) ≡ true))) c.names.ensures.names
    c.is_touched_above.ensures)
