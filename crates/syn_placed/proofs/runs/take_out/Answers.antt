use Rattle.std.proofs.Common.{ap, ◌∙◌, ◌-◌, take, drop, arith}
use Rattle.syn_placed.proofs.SpliceLemmas.{run_taken_out}
use Rattle.syn_placed.proofs.runs.take_out.Goals as goal

pub returns-clause-items : goal.returns-clause-items
returns-clause-items g c =
    c.truncate.ensures.items ∙ run_taken_out c.args.list.now.items c.split_at_mut-tail.result.0.now
    c.split_at_mut-tail.result.1.now c.rotate_left.new.self c.args.start c.args.count _ _
    (omega (arith, c.requires, c.args.list.now.ok)) (c.split_at_mut-tail.ensures.front
    ∙ ap (take c.args.start) c.deref_mut.ensures.value) (c.split_at_mut-tail.ensures.back
    ∙ ap (drop c.args.start) c.deref_mut.ensures.value) c.rotate_left.ensures.after
    (omega (arith, c.args.list.now.ok)) (ap (λ n. n - c.args.count) c.len.ensures)
