use Rattle.std.proofs.Common.{◌++◌, ap, sym, ◌∙◌, subst}
use Rattle.syn_wire.proofs.Sequences.{failed}
use Rattle.syn_image.specs.inner.Pasts.{HasTouches, each_spelling}
use Rattle.syn_model.specs.Image.{touch_spelling}
use Rattle.syn_image.specs.Images.{IsTouch}
use Rattle.syn_image.proofs.ImageLemmas.{touch_tells}
use Rattle.syn_wire.proofs.ManyLemmas.{next_one, one_more}
use Rattle.syn_image.proofs.image_reading.read_each.Goals as goal

pub returns-in_err-read_touch : goal.returns-in_err-read_touch
returns-in_err-read_touch c =
    failed _ _ _ _ _ c.from_residual.result _ c.from_residual.ensures.1
    (λ e same malformed value rest begins.
    let next = next_one IsTouch touch_spelling touch_tells c.loop-read._read c.args.count
    c.loop-read.touches.items c.loop-read.reader c.args.reader.now value rest
    c.loop-read.invariant.so_far
    c.loop-read.invariant.spelled c.loop-read-test.true begins in
    c.in_err-read_touch.ensures (rw (← same) malformed) next.0 next.1 next.2)

pub loop-read-preserved : goal.loop-read-preserved
loop-read-preserved c =
    let more = one_more IsTouch touch_spelling touch_tells c.loop-read._read
    c.loop-read.touches.items c.in_ok-read_touch.field-0 c.args.reader.now c.loop-read.reader
    c.read_touch.new.reader c.loop-read.invariant.so_far
    c.loop-read.invariant.spelled c.in_ok-read_touch.ensures in
    let pushed = c.in_ok-push.ensures.items in
    record {
      so_far = subst (HasTouches _) (sym pushed) more.0;
      spelled = more.1 ∙ ap (λ xs. each_spelling xs ++ c.read_touch.new.reader) (sym pushed);
    }
