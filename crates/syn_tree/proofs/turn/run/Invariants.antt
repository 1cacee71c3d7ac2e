use Rattle.std.proofs.Common.{◌≡◌, ◌++◌, ◌+◌, ◌≤◌}
use Rattle.syn_tree.specs.Turns.{Goes}
use Rattle.syn_tree.proofs.turn.run.Given as goal

abbrev pub invariant-loop-turn : goal.invariant-loop-turn
invariant-loop-turn g l = record {
  whole : l.fn.turns.items ≡ l.yielded ++ l.turn-iterator.rest.items;
  room : l.answers.len + l.turn-iterator.rest.len ≤ l.answers.cap;
  goes : Goes (g.T.TreeForm.tree l.fn.form) l.yielded l.answers.items (g.T.TreeForm.tree l.form);
}
