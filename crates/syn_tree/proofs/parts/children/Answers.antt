use Rattle.std.proofs.Common.{◌≡◌, ◌++◌, ◌∷◌, [], Some, None, option_map, take, length, sym, ap}
use Rattle.std.proofs.Common.{ap₂, ◌∙◌, append-nil, arith}
use Rattle.std.proofs.Math.Seq.{take-length}
use Rattle.std.proofs.lemmas.List.{map-append}
use Rattle.std.specs.Prelude.{option_and_then}
use Rattle.syn_model.specs.Path.{strip_prefix}
use Rattle.syn_model.specs.Limits.{only_name}
use Rattle.syn_tree.specs.Lists.{child_contents, contents_at}
use Rattle.syn_tree.proofs.ListingLemmas.{contents-more, one_more}
use Rattle.syn_tree.proofs.parts.children.Goals as goal
use Rattle.syn_tree.proofs.parts.children.Goals.{in-Some+in_ok-from_bytes+in_ok-push, in_default}

pub loop-entry-init : goal.loop-entry-init
loop-entry-init c = ap contents_at c.new-found.ensures.items

pub loop-entry-preserved : goal.loop-entry-preserved
loop-entry-preserved c =
    let above = c.args.above.now in
    let list = c.args.list.now in
    let i = c.loop-entry.entry-index in
    let x = c.entry-item.result in
    let more = contents-more above list i x c.loop-entry-test.true c.entry-item.is in
    let read = child_contents above (take i list) in
    let named : option_and_then only_name (strip_prefix above x.0)
    ≡ option_map (λ name. name.now) c.child_name.result =
    sym (c.child_name.ensures.name
    ∙ ap (λ q. option_and_then only_name (strip_prefix above q)) c.key.ensures) in
    elim c.match-child_name.branch [
      | in-Some+in_ok-from_bytes+in_ok-push w ↦
          let name = w.in_ok-from_bytes.field-0 in
          let one = one_more above x (Some name) (named ∙ (ap (option_map (λ name. name.now))
          w.in-Some.is ∙ ap (λ n. Some n) (sym w.in_ok-from_bytes.ensures.ok.0))) in
          rw w.found-is (ap contents_at w.in_ok-push.ensures.items
          ∙ (map-append _ c.loop-entry.found.items _ ∙ (ap₂ (λ ys there. ys ++ (name, there) ∷ [])
          c.loop-entry.invariant (w.as_found.ensures ∙ w.content.ensures)
          ∙ (ap (λ ys. read ++ ys) (sym one) ∙ sym more))))
      | in_default w ↦
          let none = one_more above x None
          (named ∙ ap (option_map (λ name. name.now)) w.in_default.is) in
          rw w.found-is (c.loop-entry.invariant
          ∙ (sym (append-nil read) ∙ (ap (λ ys. read ++ ys) (sym none) ∙ sym more)))
    ]

pub returns-clause-ok : goal.returns-clause-ok
returns-clause-ok c =
    let ended : c.loop-entry.entry-index ≡ length c.args.list.now =
    omega (arith, c.loop-entry-test.false, c.loop-entry.auto.entry-index-end) in
    c.loop-entry.invariant ∙ ap (child_contents c.args.above.now)
    (ap (λ n. take n c.args.list.now) ended ∙ take-length c.args.list.now)
