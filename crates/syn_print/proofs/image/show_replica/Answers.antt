use Rattle.std.proofs.Common.{◌≡◌, ◌∙◌, [], ap₂, subst}
use Rattle.std.proofs.lemmas.Result.{on_ok_weaker}
use Rattle.std.specs.Io.KnownBytes.{Appends}
use Rattle.syn_replica.specs.Replica.{pair_of, position_shown, tree_shown}
use Rattle.syn_print.specs.Images.{replica_line, lines_below}
use Rattle.std.proofs.KnownBytes.{Appends-trans}
use Rattle.syn_print.proofs.image.show_replica.Goals as goal

pub returns : goal.returns
returns g c =
    let replica = c.args.replica.now in
    let line = replica_line (pair_of replica) (position_shown replica) in
    let below = lines_below (tree_shown replica) [] in
    let old = g.W.Write.contents c.args.output.now in
    let middle = g.W.Write.contents c.write_all.new.self in
    let new = g.W.Write.contents c.show_below-2.new.output in
    let first : c.as_bytes.result.now ≡ line =
    c.as_bytes.ensures.value
    ∙ (c.in_ok-line.ensures ∙ ap₂ replica_line c.pair.ensures c.position.ensures) in
    let lines = ap₂ lines_below c.tree.ensures c.root.ensures in
    on_ok_weaker c.show_below-2.result (λ shown.
    Appends-trans old middle new line below
    (subst (λ xs. Appends old middle xs) first c.in_ok-write_all.ensures.bytes)
    (subst (λ xs. Appends middle new xs) lines shown)) c.show_below-2.ensures
