-- What is in front of the part at and below a path and what is after it, by their numbers.
use Rattle.std.proofs.Common.{◌≡◌, ◌≤◌, ◌+◌, ◌-◌, ℕ, List, ◌++◌, length, length-append, take, drop}
use Rattle.std.proofs.Common.{sym, ap, ap₂, ◌∙◌, append_assoc, arith, take-append-drop, drop-drop}
use Rattle.std.proofs.Common.{length-take-le}
use Rattle.std.proofs.Math.Seq.{take-append_seam, drop-append_seam, take-append-le, drop-append-le}
use Rattle.syn_model.specs.Path.{Path}
use Rattle.syn_placed.specs.Pairs.{Pairs, before, within, beyond}
use Rattle.syn_placed.proofs.RisingLemmas.{Rising, three_parts}

pub front_is : (at : Path) (es : Pairs) → Rising es → take (length (before at es)) es ≡ before at es
front_is at es h =
    ap (take (length (before at es))) (three_parts at es h)
    ∙ take-append_seam (before at es) (within at es ++ beyond at es)

pub back_is : (at : Path) (es : Pairs) → Rising es →
    drop (length (before at es) + length (within at es)) es ≡ beyond at es
back_is at es h =
    ap₂ drop (sym (length-append (before at es) (within at es)))
    (three_parts at es h ∙ sym (append_assoc (before at es) (within at es) (beyond at es)))
    ∙ drop-append_seam (before at es ++ within at es) (beyond at es)

-- ---- runs that are put in and taken out by turning the rest

-- a list that is as long as another, with what the other has after that length, is the list
whole_of : {X : Type 0} (xs items : List X) (n : ℕ) → length xs ≡ length items → n ≡ length items →
    take n (xs ++ drop (length xs) items) ≡ xs
whole_of xs items n same long =
    ap (λ m. take m (xs ++ drop (length xs) items)) (long ∙ sym same)
    ∙ take-append_seam xs (drop (length xs) items)

pub run_put_in : {X : Type 0} (old added items front tail turned : List X) (at n k : ℕ) →
    at ≤ length old → items ≡ old ++ added → n ≡ length items → k ≡ length added →
    front ≡ take at items → tail ≡ drop at items →
    turned ≡ drop (length tail - k) tail ++ take (length tail - k) tail →
    take n ((front ++ turned) ++ drop (length (front ++ turned)) items)
    ≡ take at old ++ (added ++ drop at old)
run_put_in {X} old added items front tail turned at n k bound is long counted first last turn =
    whole_of (front ++ turned) items n lengths long ∙ parts
  where
    tail_is : tail ≡ drop at old ++ added
    tail_is = last ∙ (ap (drop at) is ∙ drop-append-le at old added bound)

    point : length tail - k ≡ length (drop at old)
    point = omega (arith, ap length tail_is, length-append (drop at old) added, counted)

    turned_is : turned ≡ added ++ drop at old
    turned_is = turn ∙ (ap₂ (λ m xs. drop m xs ++ take m xs) point tail_is
        ∙ ap₂ (λ xs ys. xs ++ ys) (drop-append_seam (drop at old) added)
        (take-append_seam (drop at old) added))

    parts : front ++ turned ≡ take at old ++ (added ++ drop at old)
    parts =
        ap₂ (λ xs ys. xs ++ ys)
        (first ∙ (ap (take at) is ∙ take-append-le at old added bound)) turned_is

    lengths : length (front ++ turned) ≡ length items
    lengths =
        omega (
          arith,
          ap length parts,
          length-append (take at old) (added ++ drop at old),
          length-append added (drop at old),
          ap length is,
          length-append old added,
          ap length (sym (take-append-drop at old)),
          length-append (take at old) (drop at old),
        )

pub run_taken_out : {X : Type 0} (old front tail turned : List X) (start count m n : ℕ) →
    start + count ≤ length old → front ≡ take start old → tail ≡ drop start old →
    turned ≡ drop count tail ++ take count tail → m ≡ length old → n ≡ m - count →
    take n (take m ((front ++ turned) ++ drop (length (front ++ turned)) old))
    ≡ take start old ++ drop (start + count) old
run_taken_out {X} old front tail turned start count m n bound first last turn long few =
    ap (take n) (whole_of (front ++ turned) old m lengths long ∙ parts)
    ∙ (ap (λ k. take k ((take start old ++ drop (start + count) old) ++ take count tail)) counted
    ∙ take-append_seam (take start old ++ drop (start + count) old) (take count tail))
  where
    parts : front ++ turned ≡ (take start old ++ drop (start + count) old) ++ take count tail
    parts =
        ap₂ (λ xs ys. xs ++ ys) first (turn
        ∙ ap (λ xs. xs ++ take count tail) (ap (drop count) last ∙ drop-drop count start old))
        ∙ sym (append_assoc (take start old) (drop (start + count) old) (take count tail))

    of_tail : length (drop count tail) + length (take count tail) ≡ length tail
    of_tail =
        omega (
          arith,
          ap length (take-append-drop count tail),
          length-append (take count tail) (drop count tail),
        )

    of_old : length (take start old) + length tail ≡ length old
    of_old =
        omega (
          arith,
          ap length (take-append-drop start old),
          length-append (take start old) (drop start old),
          ap length last,
        )

    lengths : length (front ++ turned) ≡ length old
    lengths =
        omega (
          arith,
          length-append front turned,
          ap length first,
          ap length turn,
          length-append (drop count tail) (take count tail),
          of_tail,
          of_old,
        )

    taken : length (take count tail) ≡ count
    taken =
        length-take-le count tail
        (omega (arith, bound, of_old, length-take-le start old (omega (arith, bound))))

    counted : n ≡ length (take start old ++ drop (start + count) old)
    counted =
        omega (
          arith,
          few,
          long,
          lengths,
          ap length parts,
          length-append (take start old ++ drop (start + count) old) (take count tail),
          taken,
        )
