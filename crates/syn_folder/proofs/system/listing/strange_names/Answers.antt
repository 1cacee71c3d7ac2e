use Rattle.std.proofs.Common.{◌≡◌, length, map, option_map, arith, subst, sym, Bor, List, ap, ◌∙◌}
use Rattle.std.proofs.Common.{Vec, Global, [], ◌∷◌}
use Rattle.std.proofs.lemmas.List.{map-append}
use Rattle.syn_folder.specs.declared.stranger.Stranger.{Stranger}
use Rattle.std.specs.List.Sorted.{IsPermutation}
use Rattle.syn_folder.specs.Looks.{IsStrangeName, pieces, told}
use Rattle.syn_model.specs.Path.{Bytes}
use Rattle.syn_folder.proofs.LookLemmas.{named_option, named_all, pushed_some, pushed_none}
use Rattle.syn_folder.proofs.system.listing.strange_names.Goals as goal
use Rattle.syn_folder.proofs.system.listing.strange_names.Goals.{in-Some+in_ok-push, in_default}

pub loop-name-preserved : goal.loop-name-preserved
loop-name-preserved c =
    let Shows = IsStrangeName c.args.at.now c.args.path.now c.args.is_crowded in
    let names = c.deref-name-items.result.now in
    let i = c.loop-name.name-index in
    let before = c.loop-name.strangers in
    let after = c.match-branch-3.strangers in
    elim c.match-branch-3.branch [
      | in-Some+in_ok-push w ↦
          named_option Shows names i _ (map told before.items) (map told after.items) (option_map
          told c.in_ok-stranger.field-0) c.loop-name-test.true
          c.loop-name.invariant (c.in_ok-stranger.ensures) (pushed_some (map told after.items)
          (map told before.items) (told w.in-Some.stranger) (option_map told
          c.in_ok-stranger.field-0) (ap (option_map told) w.in-Some.is) (ap
          (λ (v : Vec Stranger Global). map told v.items) w.strangers-is ∙ (ap (map told)
          w.in_ok-push.ensures.items ∙ map-append told before.items (w.in-Some.stranger ∷ []))))
      | in_default w ↦
          named_option Shows names i _ (map told before.items) (map told after.items) (option_map
          told c.in_ok-stranger.field-0) c.loop-name-test.true
          c.loop-name.invariant (c.in_ok-stranger.ensures) (pushed_none (map told after.items)
          (map told before.items) (option_map told c.in_ok-stranger.field-0) (ap
          (option_map told) w.in_default.is) (ap (λ (v : Vec Stranger Global). map told
          v.items) w.strangers-is))
    ]

pub returns : goal.returns
returns c =
    let names = c.deref-name-items.result.now in
    let ended : c.loop-name.name-index ≡ length names =
    omega (arith, c.loop-name-test.false, c.loop-name.auto.name-index-end) in
    named_all (IsStrangeName c.args.at.now c.args.path.now c.args.is_crowded) (pieces
    c.args.listing.now) names c.loop-name.name-index _ ended
    (subst (λ (xs : List (Bor Bytes)). IsPermutation (pieces c.args.listing.now) (map (λ n. n.now)
    xs)) (sym c.deref-name-items.ensures.value) c.in_ok-names.ensures)
    c.loop-name.invariant
