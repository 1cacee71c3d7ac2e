-- What a writer has after some of the bytes.
use Rattle.std.proofs.Common.{◌≡◌, ℕ, ◌-◌, List, [], ◌++◌, length, take, drop, Option, Result, Ok}
use Rattle.std.proofs.Common.{Err, OnErr, sym, ap, ap₂, ◌∙◌}
use Rattle.std.proofs.Common.{append_assoc, append-nil, take-append-drop}
use Rattle.std.proofs.lemmas.List.{take_rest}
use Rattle.std.specs.Io.KnownBytes.{Appends, Keeps}
use Rattle.std.proofs.KnownBytes.{Appends-trans, Appends-kept}
use Rattle.syn_link.specs.Frames.{Bytes, AppendsSome}

-- a beginning of the first part is one of both
pub some_of_first : (a b : Option Bytes) (first second : Bytes) → AppendsSome a b first →
    AppendsSome a b (first ++ second)
some_of_first a b first second (done, rest, split, appended) =
    (done, rest ++ second, ap (λ xs. xs ++ second) split ∙ append_assoc done rest second, appended)

-- all of the first part and a beginning of the second
pub some_of_second : (a b c : Option Bytes) (first second : Bytes) → Appends a b first →
    AppendsSome b c second → AppendsSome a c (first ++ second)
some_of_second a b c first second all (done, rest, split, appended) = (
  first ++ done,
  rest,
  ap (λ xs. first ++ xs) split
      ∙ sym (append_assoc first done rest),
  Appends-trans a b c first done all appended,
)

-- all is a beginning, also where nothing came after it
pub some_of_all : (a b c : Option Bytes) (bytes : Bytes) → Appends a b bytes → Keeps b c →
    AppendsSome a c bytes
some_of_all a b c bytes all keeps =
    (bytes, [], sym (append-nil bytes), Appends-kept a b c bytes all keeps)

-- what holds in any case holds after an error
pub on_err : {T E : Type 0} {P : Type 0} (result : Result T E) → P → OnErr result P
on_err (Ok value) p = tt
on_err (Err error) p = p

-- the first of the rest goes after what is done
pub moves_front : (all done rest : List ℕ) (n : ℕ) → all ≡ done ++ rest →
    all ≡ (done ++ take n rest) ++ take (length rest - n) (drop n rest)
moves_front all done rest n e =
    e ∙ ap (λ l. done ++ l) (sym (take-append-drop n rest))
    ∙ sym (append_assoc done (take n rest) (drop n rest))
    ∙ ap (λ l. (done ++ take n rest) ++ l) (sym (take_rest rest n))

-- a frame is its bytes, wherever its body is cut
pub cut_frame : (spelled body front back : Bytes) (n : ℕ) → front ≡ take n body
    → back ≡ drop n body → (spelled ++ front) ++ back ≡ spelled ++ body
cut_frame spelled body front back n is_front is_back = append_assoc spelled front back
    ∙ ap (λ l. spelled ++ l) (ap₂ (λ f b. f ++ b) is_front is_back ∙ take-append-drop n body)
