use Rattle.std.proofs.Common.{◌≡◌, ◌++◌, length, take, ap, ◌∙◌, sym, append-nil, arith}
use Rattle.std.proofs.Math.Seq.{take-length}
use Rattle.syn_model.specs.Path.{path_spelling}
use Rattle.syn_wire.specs.Events.{number64_spelling}
use Rattle.syn_image.specs.inner.Pasts.{each_spelling}
use Rattle.syn_model.proofs.ExitLemmas.{on_ok_of_exit}
use Rattle.syn_image.proofs.ImageLemmas.{one_after, touch_more}
use Rattle.syn_image.proofs.image.write_each.Goals as goal

pub loop-touch-init : goal.loop-touch-init
loop-touch-init c = sym (append-nil c.args.out.now.items)

pub loop-touch-preserved : goal.loop-touch-preserved
loop-touch-preserved c =
    let touch = c.touch-item.result in
    let old = c.loop-touch.out.items in
    let mid = c.write_u64.new.out.items in
    let new = c.write_path.new.out.items in
    touch_more c.args.touches.now c.loop-touch.touch-index touch c.args.out.now.items old new
    c.loop-touch-test.true c.touch-item.is c.loop-touch.invariant
    (one_after old mid new (number64_spelling touch.position) (path_spelling touch.path)
    (c.in_ok-write_u64.ensures.added
    ∙ ap (λ n. old ++ number64_spelling n) c.position.ensures.position)
    (c.in_ok-write_path.ensures.added ∙ ap (λ p. mid ++ path_spelling p) c.path.ensures))

pub returns : goal.returns
returns c =
    let touches = c.args.touches.now in
    let ended : c.loop-touch.touch-index ≡ length touches =
    omega (arith, c.loop-touch-test.false, c.loop-touch.auto.touch-index-end) in
    c.loop-touch.invariant ∙ ap (λ xs. c.args.out.now.items ++ each_spelling xs)
    (ap (λ n. take n touches) ended ∙ take-length touches)

pub returns-in_err-write_u64 : goal.returns-in_err-write_u64
returns-in_err-write_u64 c = on_ok_of_exit c.from_residual.result _ _ c.from_residual.ensures.1

pub returns-in_err-write_path : goal.returns-in_err-write_path
returns-in_err-write_path c =
    on_ok_of_exit c.from_residual-in_err-write_path.result _ _
    c.from_residual-in_err-write_path.ensures.1
