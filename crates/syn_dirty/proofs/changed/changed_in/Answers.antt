use Rattle.std.proofs.Common.{◌≡◌, ◌++◌, ◌∷◌, [], List, length, reverse, refl, sym, ap, ◌∙◌, arith}
use Rattle.std.specs.Borrow.{Bor}
use Rattle.std.proofs.lemmas.List.{reverse-reverse, map-append}
use Rattle.std.proofs.lemmas.Grind.{reverse_onto}
use Rattle.syn_model.specs.Path.{Path}
use Rattle.syn_dirty.specs.Paths.{paths_at}
use Rattle.syn_dirty.specs.inner.Rows.{changed, rows_at}
use Rattle.syn_dirty.proofs.changed.changed_in.Goals as goal
use Rattle.syn_model.proofs.BaseLemmas.{empty_of}

paths_reversed : (ps : List (Bor Path)) → paths_at (reverse ps) ≡ reverse (paths_at ps)
paths_reversed [] = refl
paths_reversed (p ∷ ps) =
    ap paths_at (reverse_onto ps p []) ∙ (map-append (λ (q : Bor Path). q.now) (reverse ps) (p ∷ [])
    ∙ (ap (λ xs. xs ++ p.now ∷ []) (paths_reversed ps) ∙ sym (reverse_onto (paths_at ps) p.now [])))

pub returns-clause-ok : goal.returns-clause-ok
returns-clause-ok c =
    let after = c.loop-path.invariant.0 in
    let none : c.loop-path.rows.items ≡ [] = empty_of c.loop-path.rows.items
    (omega (arith, c.in_default.ensures.cases.0, c.loop-path.rows.ok)) in
    let all : rows_at c.args.rows.items ≡ after = c.loop-path.invariant.1
    ∙ ap (λ xs. rows_at xs ++ after) none in
    ap paths_at c.reverse.ensures.items
    ∙ (paths_reversed c.loop-path.paths.items ∙ (ap reverse c.loop-path.invariant.2
    ∙ (reverse-reverse (changed after) ∙ ap changed (sym all))))
