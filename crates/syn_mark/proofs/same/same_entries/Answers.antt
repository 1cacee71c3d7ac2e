use Rattle.std.proofs.Common.{◌≡◌, ◌<◌, ◌++◌, ◌∷◌, [], length, take, refl, subst, sym, ap, ap₂, ◌∙◌}
use Rattle.std.proofs.Common.{arith}
use Rattle.std.proofs.Math.Seq.{take-length}
use Rattle.std.proofs.lemmas.List.{take_more}
use Rattle.syn_mark.proofs.same.same_entries.Goals as goal

pub loop-index-init : goal.loop-index-init
loop-index-init c = record { so_far = refl; lengths = c.if-left-right.false }

pub loop-index-preserved : goal.loop-index-preserved
loop-index-preserved c =
    let left = c.args.left.now in
    let right = c.args.right.now in
    let i = c.loop-index.index in
    let same = c.same_entry.ensures.0 c.if-not-same_entry.false in
    let within : i < length right =
    subst (λ n. i < n) c.if-left-right.false c.loop-index-test.true in
    record {
      so_far = take_more left i c.index-left-index.result c.loop-index-test.true
          ∙ (ap (λ y. take i left ++ y ∷ []) (sym c.index-left-index.is)
          ∙ (ap₂ (λ xs y. xs ++ y ∷ []) c.loop-index.invariant.so_far
          (same ∙ c.index-right-index.is)
          ∙ sym (take_more right i c.index-right-index.result within)));
      lengths = c.if-left-right.false;
    }

pub returns : goal.returns
returns c =
    let left = c.args.left.now in
    let right = c.args.right.now in
    let ended : c.loop-index.index ≡ length left =
    omega (arith, c.loop-index-test.false, c.loop-index.auto.index-end) in
    let whole = sym (ap (λ n. take n left) ended ∙ take-length left)
    ∙ (c.loop-index.invariant.so_far
    ∙ (ap (λ n. take n right) (ended ∙ c.if-left-right.false) ∙ take-length right)) in
    ((λ _. whole), (λ _. refl))
