use Rattle.std.proofs.Common.{◌≡◌, ◌∙◌, ap, subst}
use Rattle.std.proofs.lemmas.Result.{on_ok_weaker}
use Rattle.std.specs.Io.KnownBytes.{Appends}
use Rattle.syn_print.specs.Counting.{carried_in, conflicts_in, marked_in}
use Rattle.syn_print.specs.Plans.{items_lines, plan_line}
use Rattle.std.proofs.KnownBytes.{Appends-trans}
use Rattle.syn_print.proofs.plan.lines.show_plan.Goals as goal

pub returns : goal.returns
returns g c =
    let items = c.args.items.now in
    let counts = c.counts_of.result in
    let line = plan_line (carried_in items) (marked_in items) (conflicts_in items) in
    let rest = items_lines c.args.left.now c.args.right.now c.args.archive.now items in
    let old = g.W.Write.contents c.args.output.now in
    let middle = g.W.Write.contents c.write_all.new.self in
    let new = g.W.Write.contents c.show_items.new.output in
    let first : c.as_bytes.result.now ≡ line =
    c.as_bytes.ensures.value
    ∙ (c.in_ok-first.ensures
    ∙ (ap (λ n. plan_line n counts.marked counts.conflicts) c.counts_of.ensures.carried
    ∙ (ap (λ n. plan_line (carried_in items) n counts.conflicts) c.counts_of.ensures.marked
    ∙ ap (λ n. plan_line (carried_in items) (marked_in items) n) c.counts_of.ensures.conflicts)))
    in
    on_ok_weaker c.show_items.result (λ shown.
    Appends-trans old middle new line rest
    (subst (λ xs. Appends old middle xs) first c.in_ok-write_all.ensures.bytes) shown)
    c.show_items.ensures
