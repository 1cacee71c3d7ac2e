use Rattle.std.proofs.Common.{rules, ap, ◌∙◌, ◌≡◌, ◌++◌, take, drop, arith}
use Rattle.syn_placed.proofs.SpliceLemmas.{run_put_in}
use Rattle.syn_placed.proofs.runs.put_in.Goals as goal

pub returns-clause-items : goal.returns-clause-items
returns-clause-items g c =
    let joined : c.append.new.self.items ≡ c.args.list.now.items ++ c.args.added.items =
    search rules in
    run_put_in c.args.list.now.items c.args.added.items c.append.new.self.items
    c.split_at_mut-tail.result.0.now c.split_at_mut-tail.result.1.now c.rotate_right.new.self
    c.args.at c.append.new.self.len c.len-more.result
    (omega (arith, c.requires.bounds, c.args.list.now.ok))
    joined
    (omega (arith, c.append.new.self.ok))
    (omega (arith, c.len-more.ensures, c.args.added.ok))
    (c.split_at_mut-tail.ensures.front ∙ ap (take c.args.at) c.deref_mut.ensures.value)
    (c.split_at_mut-tail.ensures.back ∙ ap (drop c.args.at) c.deref_mut.ensures.value)
    c.rotate_right.ensures.after
