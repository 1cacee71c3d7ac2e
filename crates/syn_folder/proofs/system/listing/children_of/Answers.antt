use Rattle.std.proofs.Common.{◌≡◌, length, map, arith, subst, sym, Bor, List, ap, ◌∙◌}
use Rattle.std.proofs.Common.{Vec, Global}
use Rattle.syn_path.specs.declared.path.Path.{Path}
use Rattle.std.specs.List.Sorted.{IsPermutation}
use Rattle.syn_folder.specs.Looks.{IsChildOf, pieces}
use Rattle.syn_model.specs.Path.{Bytes}
use Rattle.syn_folder.proofs.LookLemmas.{named_option, named_all, pushed_some, pushed_none}
use Rattle.syn_folder.proofs.system.listing.children_of.Goals as goal
use Rattle.syn_folder.proofs.system.listing.children_of.Goals.{in-Some+in_ok-push, in_default}

pub loop-name-preserved : goal.loop-name-preserved
loop-name-preserved c =
    let Shows = IsChildOf c.args.at.now c.args.path.now in
    let names = c.deref-name-items.result.now in
    let i = c.loop-name.name-index in
    let before = c.loop-name.children in
    let after = c.match-branch-3.children in
    elim c.match-branch-3.branch [
      | in-Some+in_ok-push w ↦
          named_option Shows names i _ before.items after.items c.in_ok-child.field-0
          c.loop-name-test.true
          c.loop-name.invariant (c.in_ok-child.ensures) (pushed_some after.items before.items
          w.in-Some.child c.in_ok-child.field-0 w.in-Some.is (ap
          (λ (v : Vec Path Global). v.items) w.children-is ∙ w.in_ok-push.ensures.items))
      | in_default w ↦
          named_option Shows names i _ before.items after.items c.in_ok-child.field-0
          c.loop-name-test.true
          c.loop-name.invariant (c.in_ok-child.ensures) (pushed_none after.items before.items
          c.in_ok-child.field-0 w.in_default.is (ap (λ (v : Vec Path Global). v.items)
          w.children-is))
    ]

pub returns : goal.returns
returns c =
    let names = c.deref-name-items.result.now in
    let ended : c.loop-name.name-index ≡ length names =
    omega (arith, c.loop-name-test.false, c.loop-name.auto.name-index-end) in
    named_all (IsChildOf c.args.at.now c.args.path.now) (pieces c.args.listing.now) names
    c.loop-name.name-index _ ended
    (subst (λ (xs : List (Bor Bytes)). IsPermutation (pieces c.args.listing.now) (map (λ n. n.now)
    xs)) (sym c.deref-name-items.ensures.value) c.in_ok-names.ensures)
    c.loop-name.invariant
