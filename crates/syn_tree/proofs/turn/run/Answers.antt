use Rattle.std.proofs.Common.{◌≡◌, ◌<◌, ◌+◌, ◌++◌, ◌∷◌, [], length, sym, ap, ◌∙◌, append_assoc}
use Rattle.std.proofs.Common.{arith, subst, if◌then◌else◌}
use Rattle.syn_tree.specs.Turns.{Goes}
use Rattle.syn_tree.proofs.TurnLemmas.{goes_more}
use Rattle.syn_tree.proofs.turn.run.Goals as goal

pub loop-turn-preserved : goal.loop-turn-preserved
loop-turn-preserved g c =
    let tree = g.T.TreeForm.tree in
    let read = c.loop-turn.yielded in
    let x = c.in-Some.turn in
    let old = c.loop-turn.answers in
    let rest = c.in-Some.ensures.steps.0 in
    let room : old.len < old.cap = omega (
      arith,
      c.loop-turn.invariant.room,
      ap length rest,
      c.loop-turn.turn-iterator.rest.ok,
    ) in
    let is_ok = c.push.ensures.succeeds room in
    let pushed : c.push.new.self.items ≡ old.items ++ c.make.result ∷ [] =
    c.push.ensures.items
    ∙ ap (λ b. if b then old.items ++ c.make.result ∷ [] else old.items) is_ok in
    let count : c.push.new.self.len ≡ old.len + 1 =
    c.push.ensures.len ∙ ap (λ b. if b then old.len + 1 else old.len) is_ok in
    record {
      whole =
          c.loop-turn.invariant.whole ∙ (ap (λ xs. read ++ xs) rest
          ∙ sym (append_assoc read (x ∷ []) c.next.new.self.rest.items));
      room =
          omega (
            arith,
            c.loop-turn.invariant.room,
            ap length rest,
            count,
            c.push.ensures.capacity,
            c.loop-turn.turn-iterator.rest.ok,
            c.next.new.self.rest.ok,
          );
      goes =
          subst (λ xs. Goes (tree c.args.form.now) (read ++ x ∷ []) xs (tree c.make.new.form))
          (sym pushed)
          (goes_more _ _ _ read old.items x c.make.result c.loop-turn.invariant.goes
          c.make.ensures.answer c.make.ensures.after);
    }
