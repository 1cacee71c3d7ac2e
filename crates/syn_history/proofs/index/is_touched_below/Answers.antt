use Rattle.std.proofs.Common.{◌&&◌, nat_le, ap, ◌∙◌, ℕ, Bool}
use Rattle.std.specs.FinMap.{entries}
use Rattle.std.specs.List.{list_any}
use Rattle.syn_model.specs.Path.{Path, is_prefix}
use Rattle.syn_placed.specs.Keyed.{stands_within}
use Rattle.syn_history.proofs.IndexLemmas.{any-filter}
use Rattle.syn_history.proofs.index.is_touched_below.Goals as goal

pub returns : goal.returns
returns c =
    let late : Path × ℕ → Bool = λ entry. nat_le c.args.since entry.1 in
    let all = entries c.args.index.now in
    c.is_any_late.ensures ∙ (ap (list_any late) c.within.ensures
    ∙ (any-filter late (stands_within c.key.result) all
    ∙ ap (λ at. list_any (λ (entry : Path × ℕ). late entry && is_prefix at entry.0) all)
    c.key.ensures))
