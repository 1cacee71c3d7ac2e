use Rattle.std.proofs.Common.{rules, ◌≡◌, true≢false, sym, ap, ap₂, ◌∙◌}
use Rattle.std.specs.Ordering.{eq_by_cmp}
use Rattle.syn_model.specs.Path.{Path, path_cmp}
use Rattle.syn_model.specs.Tree.{Content, Pair}
use Rattle.syn_model.proofs.PathLemmas.{same_path, path_itself}
use Rattle.syn_mark.proofs.same.same_entry.Goals as goal

pub returns-then-eq : goal.returns-then-eq
returns-then-eq c =
    let left = c.args.left.now in
    let right = c.args.right.now in
    let same : c.eq.result ≡ eq_by_cmp path_cmp left.0 right.0 = search rules in
    let path = same_path left.0 right.0 (sym same ∙ c.if-eq.true) in (
      (λ is. ap₂ (λ (p : Path) (d : Content). (p, d)) path
          (sym c.content.ensures ∙ (c.same_mark.ensures.0 is ∙ c.content-then-eq.ensures))),
      (λ e. c.same_mark.ensures.1
          (c.content.ensures ∙ (ap (λ (x : Pair). x.1) e ∙ sym c.content-then-eq.ensures))),
    )

pub returns-else-eq : goal.returns-else-eq
returns-else-eq c =
    let left = c.args.left.now in
    let right = c.args.right.now in
    let same : c.eq.result ≡ eq_by_cmp path_cmp left.0 right.0 = search rules in (
      (λ is. absurd (true≢false (sym is ∙ c.if-eq.false))),
      (λ e. absurd (true≢false (sym (same ∙ (ap (λ (x : Pair). eq_by_cmp path_cmp x.0 right.0) e
          ∙ path_itself right.0)) ∙ c.if-eq.false))),
    )
