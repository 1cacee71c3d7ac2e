use Rattle.std.proofs.Common.{◌≡◌, ◌∙◌, [], ap, subst}
use Rattle.std.proofs.lemmas.Result.{on_ok_weaker}
use Rattle.std.specs.Io.KnownBytes.{Appends}
use Rattle.syn_print.specs.Images.{served_line, lines_below}
use Rattle.std.proofs.KnownBytes.{Appends-trans}
use Rattle.syn_print.proofs.image.show_served.Goals as goal

pub returns : goal.returns
returns g c =
    let tree = c.args.tree.now in
    let line = served_line c.args.position in
    let below = lines_below tree [] in
    let old = g.W.Write.contents c.args.output.now in
    let middle = g.W.Write.contents c.write_all.new.self in
    let new = g.W.Write.contents c.show_below-2.new.output in
    let first : c.as_bytes.result.now ≡ line = c.as_bytes.ensures.value ∙ c.in_ok-line.ensures in
    let lines = ap (lines_below tree) c.root.ensures in
    on_ok_weaker c.show_below-2.result (λ shown.
    Appends-trans old middle new line below
    (subst (λ xs. Appends old middle xs) first c.in_ok-write_all.ensures.bytes)
    (subst (λ xs. Appends middle new xs) lines shown)) c.show_below-2.ensures
