use Rattle.std.proofs.Common.{rules, ◌≡◌, ◌∙◌, ap, is_lt, map}
use Rattle.std.specs.Cmp.Lexicographic.{lists_total, nat_list_cmp_total}
use Rattle.std.proofs.lemmas.List.Sorted.{answers_always, ranks_by}
use Rattle.syn_model.specs.Path.{path_cmp}
use Rattle.syn_print.specs.Reports.{in_order, is_earlier}
use Rattle.syn_print.specs.inner.Named.{named_of}
use Rattle.syn_print.proofs.OrderLemmas.{map_in_order, sorted_so}
use Rattle.syn_print.proofs.report.named.items_of.Goals as goal

pub returns : goal.returns
returns c =
    let computes = answers_always _ (λ a r. r ≡ a.0.now.path) _ (λ f a r f' k. search rules) in
    let sorted = sorted_so (λ x y. is_lt (path_cmp x.path.now y.path.now))
    (ranks_by (lists_total nat_list_cmp_total) (λ x. x.path.now))
    c.in_ok-items.items.items c.sort_by_key.new.self.items
    (c.in_ok-sort_by_key.ensures.sorted (λ x. x.path) computes)
    (c.sort_by_key.ensures.stable (λ x. x.path) computes) in
    ap (map named_of) sorted
    ∙ (map_in_order named_of is_earlier c.in_ok-items.items.items
    ∙ ap (in_order is_earlier) c.in_ok-items.ensures)
