use Rattle.std.proofs.Common.{◌+◌, refl, sym, ap, ◌∙◌, arith}
use Rattle.syn_placed.specs.Pairs.{rooted, spelling_length}
use Rattle.syn_tree.proofs.WholeLemmas.{whole_fits, too_many, whole_tree, whole_kept}
use Rattle.syn_tree.proofs.tree.Tree.from_entries.Goals as goal

pub returns-then-len-gt-MOST_BELOW-clause-refused :
    goal.returns-then-len-gt-MOST_BELOW-clause-refused
returns-then-len-gt-MOST_BELOW-clause-refused c e = (
  refl,
  too_many c.args.entries c.into_vec-list.result.items c.into_vec-list.ensures.all
      (omega (arith, c.if-len-gt-MOST_BELOW.true, c.len.ensures, c.into_vec-list.result.ok)),
)

pub returns-clause-fits : goal.returns-clause-fits
returns-clause-fits c =
    let ds = c.into_vec-list.result.items in
    let size = c.in-Some.ensures.some.0 ∙ ap spelling_length c.deref.ensures.value in
    whole_fits c.args.entries ds c.into_vec-list.ensures.all c.into_vec-list.ensures.part
    c.into_vec-list.ensures.paths
    (omega (arith, c.if-len-gt-MOST_BELOW.false, c.len.ensures, c.into_vec-list.result.ok))
    (omega (arith, size, c.if-spelled-gt-LONGEST_SPELLING.false))

pub invariant_of-result : goal.invariant_of-result
invariant_of-result c =
    let ds = c.into_vec-list.result.items in
    let same = c.in_ok-reserve.ensures.items in
    let size = c.in-Some.ensures.some.0 ∙ ap spelling_length (c.deref.ensures.value ∙ sym same) in
    let fits = whole_fits c.args.entries ds c.into_vec-list.ensures.all c.into_vec-list.ensures.part
    c.into_vec-list.ensures.paths
    (omega (arith, c.if-len-gt-MOST_BELOW.false, c.len.ensures, c.into_vec-list.result.ok))
    (omega (
      arith,
      c.in-Some.ensures.some.0
          ∙ ap spelling_length c.deref.ensures.value,
      c.if-spelled-gt-LONGEST_SPELLING.false,
    )) in
    whole_kept c.args.entries c.reserve.new.self.items (ap rooted same
    ∙ c.into_vec-list.ensures.all) _ _ c.into_vec-list.ensures.tree fits (ap (λ n. n + 3) size)
    (omega (
      arith,
      c.in_ok-reserve.ensures.ok,
      c.in_ok-reserve.ensures.len,
      c.len-2.ensures,
      c.len.ensures,
      c.if-len-gt-MOST_BELOW.false,
    ))

pub returns-clause-ok : goal.returns-clause-ok
returns-clause-ok c =
    whole_tree c.args.entries c.reserve.new.self.items
    (ap rooted c.in_ok-reserve.ensures.items ∙ c.into_vec-list.ensures.all)
