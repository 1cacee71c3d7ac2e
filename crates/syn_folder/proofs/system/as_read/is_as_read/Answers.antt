use Rattle.std.proofs.Common.{◌≡◌, All, true, rules, arith, subst}
use Rattle.std.proofs.lemmas.List.{take_all}
use Rattle.std.proofs.lemmas.List.Elements.{All-more}
use Rattle.syn_folder.specs.Places.{IsOneAsRead}
use Rattle.syn_folder.proofs.system.as_read.is_as_read.Goals as goal

pub loop-one-preserved : goal.loop-one-preserved
loop-one-preserved c =
    let Is = IsOneAsRead c.args.was.tree.now c.args.path.now in
    let same : c.in_ok-is_one_as_read.field-0 ≡ true = search rules in
    All-more Is c.args.seen.now c.loop-one.one-index c.one-item.result c.loop-one-test.true
    c.loop-one.invariant
    (subst Is c.one-item.is (c.in_ok-is_one_as_read.ensures same))

pub returns : goal.returns
returns c same = record {
  each = subst (All (IsOneAsRead c.args.was.tree.now c.args.path.now))
      (take_all c.loop-one.one-index c.args.seen.now (omega (arith, c.loop-one-test.false)))
      c.loop-one.invariant;
  count = search rules;
}
