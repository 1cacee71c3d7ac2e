use Rattle.std.proofs.Common.{◌≡◌, ◌++◌, ◌∷◌, [], is_lt, true≢false, take, length, refl, sym, ap}
use Rattle.std.proofs.Common.{◌∙◌, subst, arith}
use Rattle.std.proofs.Math.Seq.{take-length}
use Rattle.std.proofs.lemmas.List.{take_more}
use Rattle.syn_model.specs.Path.{path_cmp}
use Rattle.syn_model.specs.Tree.{Directory}
use Rattle.syn_placed.specs.Pairs.{rooted}
use Rattle.syn_placed.proofs.RisingLemmas.{Rising, are_rising}
use Rattle.syn_placed.proofs.LastLemmas.{rising-more, rising-next}
use Rattle.syn_placed.proofs.by_key.are_rising.Goals as goal
use Rattle.syn_model.proofs.BaseLemmas.{less_of}

pub loop-entry-init : goal.loop-entry-init
loop-entry-init g c = (
  record {
    front = [];
    content = Directory;
    parts = ap (λ p. (p, Directory) ∷ []) (sym c.root-last.ensures);
  },
  (tt, tt),
)

pub returns-then-not-comes_before : goal.returns-then-not-comes_before
returns-then-not-comes_before g c =
    let x = c.entry-item.result in
    let other = ap (λ p. is_lt (path_cmp c.loop-entry.last p)) (sym c.key.ensures)
    ∙ (sym c.comes_before.ensures ∙ c.if-not-comes_before.true) in (
      (λ b. absurd (true≢false (sym b))),
      (λ rising. absurd (true≢false
          (sym
          (ap is_lt (rising-next c.args.list.now c.loop-entry.entry-index x c.loop-entry.last
          c.loop-entry-test.true c.entry-item.is c.loop-entry.invariant.0 rising)) ∙ other))),
    )

pub loop-entry-preserved : goal.loop-entry-preserved
loop-entry-preserved g c =
    let list = c.args.list.now in
    let x = c.entry-item.result in
    let less = less_of (path_cmp c.loop-entry.last x.0)
    (ap (λ p. is_lt (path_cmp c.loop-entry.last p)) (sym c.key.ensures)
    ∙ (sym c.comes_before.ensures ∙ c.if-not-comes_before.false)) in
    let more = ap rooted (take_more list c.loop-entry.entry-index x c.loop-entry-test.true
    ∙ ap (λ y. take c.loop-entry.entry-index list ++ y ∷ []) (sym c.entry-item.is)) in
    let last = c.key-in-loop-entry.ensures in (
      record {
        front = rooted (take c.loop-entry.entry-index list);
        content = x.1;
        parts = more
            ∙ ap (λ p. rooted (take c.loop-entry.entry-index list) ++ (p, x.1) ∷ []) (sym last);
      },
      subst Rising (sym more) (rising-more (rooted (take c.loop-entry.entry-index list))
          c.loop-entry.last x c.loop-entry.invariant.1 c.loop-entry.invariant.0 less),
    )

pub returns : goal.returns
returns g c =
    let list = c.args.list.now in
    let ended : c.loop-entry.entry-index ≡ length list =
    omega (arith, c.loop-entry-test.false, c.loop-entry.auto.entry-index-end) in
    let whole = ap (λ n. take n list) ended ∙ take-length list in (
      (λ b. are_rising (rooted list)
          (subst (λ xs. Rising (rooted xs)) whole c.loop-entry.invariant.1)),
      (λ r. refl),
    )
