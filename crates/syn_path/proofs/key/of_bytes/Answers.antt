use Rattle.std.proofs.Common.{◌≡◌, ◌-◌, ◌+◌, ◌++◌, ◌∙◌, [], length, refl, sym, arith, ap, replicate}
use Rattle.std.proofs.Common.{length-append}
use Rattle.syn_path.proofs.DerivedKeyLemmas.{spelling_short, key_of_spelling}
use Rattle.syn_path.proofs.key.of_bytes.Goals as goal

pub put_at-requires : goal.put_at-requires
put_at-requires c =
    omega (
      arith,
      spelling_short _ _ c.requires,
      length-append c.args.front.now c.args.back.now,
    )

pub put_at-requires-2 : goal.put_at-requires-2
put_at-requires-2 c =
    omega (
      arith,
      spelling_short _ _ c.requires,
      length-append c.args.front.now c.args.back.now,
    )

pub invariant_of-result : goal.invariant_of-result
invariant_of-result c =
    let front = c.args.front.now in
    let back = c.args.back.now in
    let count = sym (length-append front back) in
    let first = c.put_at.ensures [] refl refl
    ∙ ap (λ n. front ++ replicate (255 - n) 0) (let none : 0 + length front ≡ length front =
    omega arith in none) in
    let whole = c.put_at-2.ensures front refl first
    ∙ ap (λ n. (front ++ back) ++ replicate (255 - n) 0) count in
    (key_of_spelling (front ++ back) _ _ c.args.start c.requires whole count).0

pub returns : goal.returns
returns c =
    let front = c.args.front.now in
    let back = c.args.back.now in
    let count = sym (length-append front back) in
    let first = c.put_at.ensures [] refl refl
    ∙ ap (λ n. front ++ replicate (255 - n) 0) (let none : 0 + length front ≡ length front =
    omega arith in none) in
    let whole = c.put_at-2.ensures front refl first
    ∙ ap (λ n. (front ++ back) ++ replicate (255 - n) 0) count in
    (key_of_spelling (front ++ back) _ _ c.args.start c.requires whole count).1
