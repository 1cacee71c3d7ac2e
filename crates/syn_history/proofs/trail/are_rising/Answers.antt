use Rattle.std.proofs.Common.{◌≡◌, ◌∷◌, ◌++◌, ◌+◌, [], All, take, drop, length, sym, ap, ◌∙◌, subst}
use Rattle.std.proofs.Common.{arith}
use Rattle.std.proofs.lemmas.List.{take_more, drop_more}
use Rattle.std.proofs.Math.Seq.{take-length}
use Rattle.std.proofs.lemmas.List.Elements.{All-push}
use Rattle.syn_model.specs.Path.{IsPath}
use Rattle.syn_history.specs.Past.{are_between}
use Rattle.syn_history.proofs.TouchLemmas.{between_next}
use Rattle.syn_history.proofs.trail.are_rising.Goals as goal

pub loop-touch-preserved : goal.loop-touch-preserved
loop-touch-preserved c =
    let list = c.args.touches.now in
    let i = c.loop-touch.touch-index in
    let x = c.touch-item.result in
    let at = c.position-at.ensures.position in
    let rest = drop_more list i x c.loop-touch-test.true
    ∙ ap (λ y. y ∷ drop (i + 1) list) (sym c.touch-item.is) in
    let more = take_more list i x c.loop-touch-test.true
    ∙ ap (λ y. take i list ++ y ∷ []) (sym c.touch-item.is) in
    let next = between_next c.loop-touch.from c.args.position x (drop (i + 1) list)
    (omega (arith, at, c.if-at-from.false)) (omega (arith, at, c.if-position-at.false)) in (
      ap (λ n. are_between (n + 1) c.args.position (drop (i + 1) list)) at ∙ (sym next ∙ (ap
          (are_between c.loop-touch.from c.args.position) (sym rest) ∙ c.loop-touch.invariant.0)),
      subst (All (λ touch. IsPath touch.path)) (sym more) (All-push (λ touch. IsPath touch.path)
          (take i list) x c.loop-touch.invariant.1 c.position-at.ensures.lawful),
    )

pub returns-clause-paths : goal.returns-clause-paths
returns-clause-paths c b =
    let list = c.args.touches.now in
    let ended : c.loop-touch.touch-index ≡ length list =
    omega (arith, c.loop-touch-test.false, c.loop-touch.auto.touch-index-end) in
    subst (All (λ touch. IsPath touch.path))
    (ap (λ n. take n list) ended ∙ take-length list) c.loop-touch.invariant.1
