-- What pieces are the first of a spelling.
use Rattle.std.proofs.Common.{◌≡◌, ◌+◌, ◌*◌, ◌-◌, ◌≤◌, ◌≢◌, ◌++◌, ◌∷◌, ℕ, [], length, true, Option}
use Rattle.std.proofs.Common.{None, Some, sym, ap, ap₂, ◌∙◌, add-zero, zero-add, add_assoc}
use Rattle.std.proofs.Common.{inl, inr, length-append, arith, subst}
use Rattle.std.proofs.Math.Seq.{take-add}
use Rattle.std.proofs.lemmas.Bool.{and_parts, cases_lt, leb-true}
use Rattle.std.proofs.lemmas.List.{length-take, length-drop, take_all}
use Rattle.std.specs.FinMap.{len}
use Rattle.std.specs.Option.{is_some, unwrap_or}
use Rattle.std.specs.Prelude.{IfSome, drop, min, nat_le, take}
use Rattle.syn_link.specs.Frames.{Bytes}
use Rattle.syn_model.specs.Limits.{fits_part, fits_paths, greatest_piece, greatest_spelling}
use Rattle.syn_model.specs.Limits.{tree_spelling_length}
use Rattle.syn_model.specs.Spelling.{spelling}
use Rattle.syn_model.specs.Tree.{Tree}
use Rattle.syn_model.specs.Version.{current_version}
use Rattle.syn_model.proofs.LengthLemmas.{spelled_less}
use Rattle.syn_user.specs.Sides.{AreFirstOf, Pieces, bytes_of}
use Rattle.syn_user.specs.inner.Parts.{IsNext}
use Rattle.syn_wire.specs.Trees.{IsWholeTreeIn}

-- a replica's tree has no longer spelling
pub spelled_short : (tree : Tree) → IsWholeTreeIn current_version tree
    → length (spelling tree) ≤ greatest_spelling
spelled_short tree whole =
    let three = and_parts _ (fits_paths tree) whole.fits in
    let two = and_parts _ (fits_part tree) three.0 in
    let fits = leb-true (tree_spelling_length tree) greatest_spelling
    (and_parts (nat_le (len tree) 1024)
    (nat_le (tree_spelling_length tree) greatest_spelling) two.0).1 in
    let spelled = spelled_less tree (ap is_some whole.tree.rooted) in
    omega (arith, fits, spelled)

pub whole_fits : (tree : Tree) → IsWholeTreeIn current_version tree → fits_part tree ≡ true
whole_fits tree whole =
    (and_parts _ (fits_part tree) (and_parts _ (fits_paths tree) whole.fits).0).1

-- the last piece of the first ones
pub last_first : (spelled : Bytes) (offset : ℕ) (pieces : Pieces) (piece : ℕ × Bytes)
    → AreFirstOf spelled offset (pieces ++ piece ∷ [])
    → AreFirstOf spelled offset pieces × (piece.0 ≡ length spelled)
    × (piece.1 ≡ take greatest_piece (drop (offset + length (bytes_of pieces)) spelled))
last_first spelled offset [] piece (total, bytes, none) = (
  tt,
  total,
  subst (λ n. piece.1 ≡ take greatest_piece (drop n spelled)) (sym (add-zero offset)) bytes,
)
last_first spelled offset (first ∷ more) piece (total, bytes, others) =
    let rest = last_first spelled (offset + length first.1) more piece others in
    let on : (offset + length first.1) + length (bytes_of more)
    ≡ offset + length (first.1 ++ bytes_of more) =
    add_assoc offset (length first.1) (length (bytes_of more))
    ∙ ap (λ n. offset + n) (sym (length-append first.1 (bytes_of more))) in (
      (total, bytes, rest.0),
      rest.1,
      subst (λ n. piece.1 ≡ take greatest_piece (drop n spelled)) on rest.2,
    )

-- where the pieces are the first of a spelling, so many of its bytes came
abbrev pub Came : ℕ → Option ℕ → Bytes → Bytes → Type 0
Came count told bytes spelled = IfSome told (λ total. total ≡ length spelled)
    × (bytes ≡ take (greatest_piece * count) spelled) × (greatest_piece * count ≤ length spelled)

abbrev pub AreFirst : ℕ → Option ℕ → Bytes → Pieces → Type 0
AreFirst count told bytes pieces = (spelled : Bytes) → AreFirstOf spelled 0 pieces
    → Came count told bytes spelled

module _ (count : ℕ) (told : Option ℕ) (bytes : Bytes) (pieces : Pieces) (piece : ℕ × Bytes)
    (same : bytes_of pieces ≡ bytes) (first : AreFirst count told bytes pieces)
    (spelled : Bytes) (all : AreFirstOf spelled 0 (pieces ++ piece ∷ [])) where
  parts : AreFirstOf spelled 0 pieces × (piece.0 ≡ length spelled)
      × (piece.1 ≡ take greatest_piece (drop (length bytes) spelled))
  parts =
      let is = last_first spelled 0 pieces piece all in (
        is.0,
        is.1,
        subst (λ n. piece.1 ≡ take greatest_piece (drop n spelled))
            (zero-add (length (bytes_of pieces)) ∙ ap length same) is.2,
      )

  so_long : length bytes ≡ greatest_piece * count
  so_long =
      let came = first spelled parts.0 in
      let long = ap length came.1 ∙ length-take (greatest_piece * count) spelled in
      omega (arith, long, came.2)

  pub next_of : length spelled ≤ greatest_spelling
      → IsNext told (length bytes) piece.0 (length piece.1)
  next_of short =
      let came = first spelled parts.0 in
      let long = so_long in
      let total = parts.1 in
      let count_is = ap length parts.2 ∙ (length-take greatest_piece (drop (length bytes) spelled)
      ∙ ap (λ n. min greatest_piece n) (length-drop (length bytes) spelled)) in (
        as_told told came.0 total,
        (
          omega (arith, long, came.2, total),
          omega (arith, short, total),
          count_is ∙ ap (λ n. min greatest_piece (n - length bytes)) (sym total),
        ),
      )
    where
      as_told : (o : Option ℕ) → IfSome o (λ t. t ≡ length spelled) → piece.0 ≡ length spelled
          → IfSome o (λ t. piece.0 ≡ t)
      as_told None is total = tt
      as_told (Some t) is total = total ∙ sym is

  pub more_came : bytes ++ piece.1 ≡ take (greatest_piece * (count + 1)) spelled
  more_came =
      let came = first spelled parts.0 in
      let more : greatest_piece * count + greatest_piece ≡ greatest_piece * (count + 1) =
      omega arith in
      ap₂ (λ (a b : Bytes). a ++ b) came.1 (parts.2
      ∙ ap (λ n. take greatest_piece (drop n spelled)) so_long)
      ∙ (sym (take-add (greatest_piece * count) greatest_piece spelled)
      ∙ ap (λ n. take n spelled) more)

  -- and where that is not all, it goes on so
  pub goes_on : Some piece.0 ≢ Some (length (bytes ++ piece.1))
      → Came (count + 1) (Some piece.0) (bytes ++ piece.1) spelled
  goes_on others =
      let long = ap length more_came ∙ length-take (greatest_piece * (count + 1)) spelled in
      let total = parts.1 in
      (total, more_came, by long total)
    where
      by : length (bytes ++ piece.1) ≡ min (greatest_piece * (count + 1)) (length spelled)
          → piece.0 ≡ length spelled → greatest_piece * (count + 1) ≤ length spelled
      by long total =
          elim (cases_lt (greatest_piece * (count + 1)) (length spelled)) [
            | inl less ↦ omega (arith, less)
            | inr more ↦ absurd (others (ap Some (total ∙ omega (arith, more, long))))
          ]

  -- and where it is, it is the spelling
  pub is_all : Some piece.0 ≡ Some (length (bytes ++ piece.1)) → bytes ++ piece.1 ≡ spelled
  is_all same_length =
      let long = ap length more_came ∙ length-take (greatest_piece * (count + 1)) spelled in
      let total = parts.1 in
      let whole : piece.0 ≡ length (bytes ++ piece.1) = ap (λ o. unwrap_or o 0) same_length in
      more_came
      ∙ take_all (greatest_piece * (count + 1)) spelled (omega (arith, long, total, whole))

-- before the first piece
pub none_came : (told : Option ℕ) (bytes : Bytes) → told ≡ None → bytes ≡ []
    → AreFirst 0 told bytes []
none_came told bytes none empty spelled are =
    (subst (λ o. IfSome o (λ total. total ≡ length spelled)) (sym none) tt, empty, omega arith)
