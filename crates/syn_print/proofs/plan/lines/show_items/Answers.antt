use Rattle.std.proofs.Common.{rules, ◌≡◌, ◌∙◌, [], ap, get_or, subst, sym, take}
use Rattle.std.proofs.lemmas.List.{flat_map_more, take_more}
use Rattle.std.specs.Io.KnownBytes.{Appends}
use Rattle.std.proofs.KnownBytes.{Appends-trans}
use Rattle.syn_print.proofs.plan.lines.show_items.Goals as goal
use Rattle.syn_print.specs.Plans.{item_lines, items_lines}
use Rattle.syn_recon.specs.Items.{item_of}
use Rattle.syn_recon.specs.declared.item.Item.{Item}

pub loop-item-preserved : goal.loop-item-preserved
loop-item-preserved g c =
    let all = c.args.items.now in
    let at = c.loop-item.item-index in
    let left = c.args.left.now in
    let right = c.args.right.now in
    let archive = c.args.archive.now in
    let here : Item = get_or all at c.item-item.result in
    let so_far = items_lines left right archive (take at all) in
    let lines = item_lines left right archive (item_of here) in
    let old = g.W.Write.contents c.args.output.now in
    let middle = g.W.Write.contents c.loop-item.output in
    let new = g.W.Write.contents c.write_all.new.self in
    let shown : c.as_bytes.result.now ≡ lines = search rules in
    let lines_of = λ (item : Item). item_lines left right archive (item_of item) in
    let more = ap (items_lines left right archive)
    (take_more all at c.item-item.result c.loop-item-test.true)
    ∙ sym (flat_map_more lines_of [] (take at all) here) in
    subst (Appends old new) (sym more)
    (Appends-trans old middle new so_far lines c.loop-item.invariant
    (subst (Appends middle new) shown c.in_ok-write_all.ensures.bytes))
