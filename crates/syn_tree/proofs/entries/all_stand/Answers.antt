use Rattle.std.proofs.Common.{◌≡◌, ◌&&◌, ◌++◌, ◌∷◌, [], take, length, refl, sym, ap, ap₂, ◌∙◌}
use Rattle.std.proofs.Common.{subst, arith}
use Rattle.std.specs.List.{list_all}
use Rattle.std.proofs.Math.Seq.{take-length}
use Rattle.std.proofs.lemmas.List.{take_more}
use Rattle.std.proofs.lemmas.List.Folds.{list_all_more, list_all_at}
use Rattle.syn_tree.specs.Entries.{stands_in, AreLawful, IsLawfulPair}
use Rattle.syn_tree.proofs.entries.all_stand.Goals as goal
use Rattle.syn_model.proofs.BaseLemmas.{each_append}

pub loop-entry-init : goal.loop-entry-init
loop-entry-init c = (refl, tt)

pub returns-then-not-stands_among-clause-value : goal.returns-then-not-stands_among-clause-value
returns-then-not-stands_among-clause-value c =
    let list = c.args.list.now in
    sym (list_all_at (stands_in list) list c.loop-entry.entry-index c.entry-item.result
    c.loop-entry-test.true
    (ap (stands_in list) (sym c.entry-item.is)
    ∙ (sym c.stands_among.ensures.value ∙ c.if-not-stands_among.true)))

pub loop-entry-preserved : goal.loop-entry-preserved
loop-entry-preserved c =
    let list = c.args.list.now in
    let i = c.loop-entry.entry-index in
    let x = c.entry-item.result in
    let stands = ap (stands_in list) (sym c.entry-item.is)
    ∙ (sym c.stands_among.ensures.value ∙ c.if-not-stands_among.false) in
    let more = take_more list i x c.loop-entry-test.true
    ∙ ap (λ y. take i list ++ y ∷ []) (sym c.entry-item.is) in (
      list_all_more (stands_in list) list i x c.loop-entry-test.true
          ∙ ap₂ (λ a b. a && b) c.loop-entry.invariant.0 stands,
      subst AreLawful (sym more) (each_append IsLawfulPair (take i list)
          (x ∷ []) c.loop-entry.invariant.1 (c.stands_among.ensures.lawful, tt)),
    )

pub returns-clause-value : goal.returns-clause-value
returns-clause-value c =
    let list = c.args.list.now in
    let ended : c.loop-entry.entry-index ≡ length list =
    omega (arith, c.loop-entry-test.false, c.loop-entry.auto.entry-index-end) in
    sym (ap (list_all (stands_in list)) (sym (ap (λ n. take n list) ended ∙ take-length list))
    ∙ c.loop-entry.invariant.0)

pub returns-clause-lawful : goal.returns-clause-lawful
returns-clause-lawful c b =
    let list = c.args.list.now in
    let ended : c.loop-entry.entry-index ≡ length list =
    omega (arith, c.loop-entry-test.false, c.loop-entry.auto.entry-index-end) in
    subst AreLawful (ap (λ n. take n list) ended ∙ take-length list) c.loop-entry.invariant.1
