use Rattle.std.proofs.Common.{◌≡◌, ◌++◌, ◌∷◌, [], ℕ, take, sym, ap, ap₂, ◌∙◌, append_assoc, arith}
use Rattle.std.specs.FinMap.{insert, len}
use Rattle.std.proofs.lemmas.List.{take_more}
use Rattle.syn_model.specs.Path.{Path}
use Rattle.syn_history.specs.Index.{last_positions}
use Rattle.syn_history.proofs.IndexLemmas.{last-push, len-insert-le}
use Rattle.syn_history.proofs.index.add_later.Goals as goal

pub loop-touch-preserved : goal.loop-touch-preserved
loop-touch-preserved c =
    let touches = c.args.touches.now in
    let i = c.loop-touch.touch-index in
    let x = c.touch-item.result in
    let was = c.loop-touch.index in
    let more = take_more touches i x c.loop-touch-test.true
    ∙ ap (λ y. take i touches ++ y ∷ []) (sym c.touch-item.is) in
    let put : c.insert.new.self ≡ insert was x.path x.position =
    c.insert.ensures ∙ (ap (λ (slot : Path × ℕ). insert was slot.0 slot.1) c.in_ok-new.ensures
    ∙ ap₂ (insert was) (c.key.ensures ∙ c.path.ensures) c.position.ensures.position) in
    record {
      later = λ earlier e.
          put ∙ (ap (λ m. insert m x.path x.position) (c.loop-touch.invariant.later earlier e)
          ∙ (sym (last-push (earlier ++ take i touches) x)
          ∙ ap last_positions (append_assoc earlier (take i touches) (x ∷ [])
          ∙ ap (λ xs. earlier ++ xs) (sym more))));
      room = omega (
        arith,
        ap len put,
        len-insert-le was x.path x.position,
        c.loop-touch.invariant.room,
      );
    }
