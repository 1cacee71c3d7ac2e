use Rattle.std.proofs.Common.{◌++◌, ap, ap₂, ◌∙◌}
use Rattle.syn_image.specs.inner.Pasts.{two_spelling}
use Rattle.syn_image.proofs.ImageLemmas.{one_after}
use Rattle.syn_image.proofs.image.write_numbers.Goals as goal

pub returns : goal.returns
returns c =
    let trail = c.args.trail.now in
    let old = c.args.out.now.items in
    let mid = c.write_two.new.out.items in
    one_after old mid c.write_two-2.new.out.items (two_spelling (c.args.pair, trail.position))
    (two_spelling (trail.floor, trail.session))
    (c.in_ok-write_two.ensures ∙ ap (λ n. old ++ two_spelling (c.args.pair, n)) c.position.ensures)
    (c.in_ok-write_two-2.ensures
    ∙ ap₂ (λ m n. mid ++ two_spelling (m, n)) c.floor.ensures c.last_session.ensures)
