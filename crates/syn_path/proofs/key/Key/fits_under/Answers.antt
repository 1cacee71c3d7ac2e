use Rattle.std.proofs.Common.{◌+◌, ◌≤◌, length, subst, sym, ap₂, arith}
use Rattle.std.proofs.lemmas.Bool.{leb-true, le-leb}
use Rattle.syn_path.proofs.DerivedKeyLemmas.{under_is_path, under_is_short}
use Rattle.syn_path.proofs.key.Key.fits_under.Goals as goal

pub returns-then-short : goal.returns-then-short
returns-then-short c =
    let a = c.args.above.now in
    let p = c.args.self.now in
    let sizes =
    ap₂ (λ x y. length x + length y) c.spelled.ensures.bytes c.spelled-2.ensures.bytes in
    let names = ap₂ (λ x y. x + y) c.depth.ensures.names c.depth-then-short.ensures.names in (
      λ few. under_is_path a p c.spelled.ensures.lawful c.spelled-2.ensures.lawful
          (subst (λ n. n ≤ 254) sizes c.if-short.true)
          (subst (λ n. n ≤ 16) names (leb-true _ _ few)),
      λ lawful. le-leb _ _ (subst (λ n. n ≤ 16) (sym names) (under_is_short a p lawful).1),
    )

pub returns-else-short : goal.returns-else-short
returns-else-short c =
    let a = c.args.above.now in
    let p = c.args.self.now in
    let sizes =
    ap₂ (λ x y. length x + length y) c.spelled.ensures.bytes c.spelled-2.ensures.bytes in (
      λ short. absurd (omega (arith, leb-true _ _ short, c.if-short.false)),
      λ lawful. le-leb _ _ (subst (λ n. n ≤ 254) (sym sizes) (under_is_short a p lawful).0),
    )
