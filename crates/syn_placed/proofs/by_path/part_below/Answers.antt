use Rattle.std.proofs.Common.{◌≡◌, ◌≤◌, ◌<◌, ◌-◌, ◌∷◌, [], length, take, drop, sym, ap, ◌∙◌}
use Rattle.std.proofs.Common.{slice_index_or, refl, arith}
use Rattle.std.proofs.Math.Seq.{take-length}
use Rattle.std.specs.Ordering.{eq_by_cmp}
use Rattle.syn_model.specs.Path.{path_cmp}
use Rattle.syn_model.specs.Tree.{Pair}
use Rattle.syn_placed.specs.Pairs.{Pairs, within}
use Rattle.syn_placed.proofs.RisingLemmas.{rising_of}
use Rattle.syn_placed.proofs.BelowLemmas.{without_first, with_first, without_any}
use Rattle.syn_placed.proofs.by_path.part_below.Goals as goal

headed : (part : Pairs) (first : Pair) → 1 ≤ length part → first ≡ slice_index_or part 0 first →
    part ≡ first ∷ drop 1 part
headed [] first l is = absurd (omega (arith, l))
headed (x ∷ part) first l is = ap (λ y. y ∷ part) (sym is)

rest_of : (part : Pairs) → 1 ≤ length part → take (length part - 1) (drop 1 part) ≡ drop 1 part
rest_of [] l = absurd (omega (arith, l))
rest_of (x ∷ part) l =
    let size : length (x ∷ part) - 1 ≡ length part = omega arith in
    ap (λ n. take n part) size ∙ take-length part

none_of : (part : Pairs) → length part < 1 → part ≡ []
none_of [] l = refl
none_of (x ∷ part) l = absurd (omega (arith, l))

pub returns-in_default : goal.returns-in_default
returns-in_default g c =
    let es = c.args.list.now in
    let part = c.part_at-part.ensures ∙ ap (λ p. within p es) c.names-names.ensures.names in
    let none = none_of c.part_at-part.result.now c.in_default.len_below in
    none ∙ without_any c.args.at.now es (sym part ∙ none)

pub returns-then-is_at : goal.returns-then-is_at
returns-then-is_at g c =
    let es = c.args.list.now in
    let part = c.part_at-part.ensures ∙ ap (λ p. within p es) c.names-names.ensures.names in
    let first = c.first-item.result in
    let same = ap (eq_by_cmp path_cmp first.0) (sym c.names-names.ensures.names)
    ∙ (sym c.is_at.ensures ∙ c.if-is_at.true) in
    let whole = headed c.part_at-part.result.now first c.in-len1-up.len_at_least c.first-item.is in
    rest_of c.part_at-part.result.now c.in-len1-up.len_at_least ∙ without_first c.args.at.now es
    first (drop 1 c.part_at-part.result.now) (rising_of es c.requires) (sym part ∙ whole) same

pub returns-else-is_at : goal.returns-else-is_at
returns-else-is_at g c =
    let es = c.args.list.now in
    let part = c.part_at-part.ensures ∙ ap (λ p. within p es) c.names-names.ensures.names in
    let first = c.first-item.result in
    let other = ap (eq_by_cmp path_cmp first.0) (sym c.names-names.ensures.names)
    ∙ (sym c.is_at.ensures ∙ c.if-is_at.false) in
    let whole = headed c.part_at-part.result.now first c.in-len1-up.len_at_least c.first-item.is in
    whole ∙ with_first c.args.at.now es first (drop 1 c.part_at-part.result.now)
    (rising_of es c.requires) (sym part ∙ whole) other
