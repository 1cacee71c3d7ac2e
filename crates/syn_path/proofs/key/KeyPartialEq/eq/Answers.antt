use Rattle.std.proofs.Common.{sym, ap, ◌∙◌, is_eq}
use Rattle.std.specs.Ordering.{nat_cmp}
use Rattle.std.specs.Cmp.Lexicographic.{slice_cmp, lists_ties, texts_ties}
use Rattle.syn_path.proofs.key.KeyPartialEq.eq.Goals as goal

pub returns : goal.returns
returns c =
    let same = lists_ties (slice_cmp nat_cmp) texts_ties c.args.self.now c.args.other.now in
    c.is_eq.ensures ∙ (ap is_eq c.cmp.ensures ∙ sym same)
