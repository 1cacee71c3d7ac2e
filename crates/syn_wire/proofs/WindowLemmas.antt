-- A window on written bytes, as more is written.
use Rattle.std.proofs.Common.{◌≡◌, ◌≤◌, ◌+◌, ◌-◌, ℕ, Bool, true, false, min, [], ◌++◌, length, take}
use Rattle.std.proofs.Common.{drop, nat_le, refl, sym, ap, ap₂, ◌∙◌, arith, length-append}
use Rattle.std.proofs.Common.{append-nil}
use Rattle.std.proofs.Math.Seq.{take-append-add, drop-append-add}
use Rattle.std.proofs.lemmas.Bool.{leb-true, leb-false}
use Rattle.std.proofs.lemmas.List.{take-append-le, drop-append-le, take_all, drop_all, take_min}
use Rattle.std.proofs.lemmas.List.{drop_min, length-take}
use Rattle.syn_model.specs.Path.{Bytes}
use Rattle.syn_wire.specs.inner.Windows.{Shows}

drop_append : (n : ℕ) (xs ys : Bytes) → drop n (xs ++ ys) ≡ drop n xs ++ drop (n - length xs) ys
drop_append n xs ys = by_test (nat_le n (length xs)) refl
  where
    by_test : (b : Bool) → nat_le n (length xs) ≡ b →
        drop n (xs ++ ys) ≡ drop n xs ++ drop (n - length xs) ys
    by_test true h =
        let l : n ≤ length xs = leb-true n (length xs) h in
        let none : n - length xs ≡ 0 = omega (arith, l) in
        drop-append-le n xs ys l ∙ ap (λ (k : ℕ). drop n xs ++ drop k ys) (sym none)
    by_test false h =
        let more = leb-false n (length xs) h in
        let is : n ≡ length xs + (n - length xs) = omega (arith, more) in
        let gone : drop n xs ≡ [] = drop_all n xs (omega (arith, more)) in
        ap (λ (m : ℕ). drop m (xs ++ ys)) is ∙ (drop-append-add xs ys (n - length xs)
        ∙ ap (λ (zs : Bytes). zs ++ drop (n - length xs) ys) (sym gone))

take_append : (n : ℕ) (xs ys : Bytes) → take n (xs ++ ys) ≡ take n xs ++ take (n - length xs) ys
take_append n xs ys = by_test (nat_le n (length xs)) refl
  where
    by_test : (b : Bool) → nat_le n (length xs) ≡ b →
        take n (xs ++ ys) ≡ take n xs ++ take (n - length xs) ys
    by_test true h =
        let l : n ≤ length xs = leb-true n (length xs) h in
        let none : n - length xs ≡ 0 = omega (arith, l) in
        take-append-le n xs ys l
        ∙ (sym (append-nil (take n xs)) ∙ ap (λ (k : ℕ). take n xs ++ take k ys) (sym none))
    by_test false h =
        let more = leb-false n (length xs) h in
        let is : n ≡ length xs + (n - length xs) = omega (arith, more) in
        let whole : take n xs ≡ xs = take_all n xs (omega (arith, more)) in
        ap (λ (m : ℕ). take m (xs ++ ys)) is ∙ (take-append-add xs ys (n - length xs)
        ∙ ap (λ (zs : Bytes). zs ++ take (n - length xs) ys) (sym whole))

-- what a window keeps of more bytes
pub shows_more : (offset : ℕ) (written bytes kept : Bytes) (skip : ℕ) (more : Bytes)
    (left passed room : ℕ) → Shows offset written kept skip → passed ≡ min skip (length bytes) →
    room ≡ 32768 - length kept → left ≡ skip - passed →
    more ≡ kept ++ take (min room (length (drop passed bytes))) (drop passed bytes) →
    Shows offset (written ++ bytes) more left
shows_more offset written bytes kept skip more left passed room was passes rooms lefts mores =
    let front = drop offset written in
    let back = drop (offset - length written) bytes in
    let rest : drop passed bytes ≡ back = ap (λ (n : ℕ). drop n bytes) passes
    ∙ (drop_min skip bytes ∙ ap (λ (n : ℕ). drop n bytes) was.to_come) in
    let size : length kept ≡ min 32768 (length front) =
    ap length was.piece ∙ length-take 32768 front in
    let same : room ≡ 32768 - length front = omega (arith, rooms, size) in
    let shown : take (min room (length (drop passed bytes))) (drop passed bytes)
    ≡ take (32768 - length front) back = take_min room (drop passed bytes)
    ∙ ap₂ (λ (n : ℕ) (xs : Bytes). take n xs) same rest in
    record {
      piece =
          mores ∙ (ap₂ (λ (xs ys : Bytes). xs ++ ys) was.piece shown
          ∙ sym (ap (take 32768) (drop_append offset written bytes)
          ∙ take_append 32768 front back));
      to_come = omega (arith, lefts, passes, was.to_come, length-append written bytes);
    }
