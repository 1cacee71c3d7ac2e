-- Laws of paths, their spelling and their text.
use Rattle.std.proofs.Common.{◌≡◌, ◌≢◌, ℕ, ◌+◌, ◌<◌, ◌≤◌, List, [], ◌∷◌, ◌++◌, length, refl, sym}
use Rattle.std.proofs.Common.{ap, ◌∙◌, subst, arith, codes, length-append, eqb, true, false}
use Rattle.std.proofs.Common.{Bool, slice_index_or, eqb-true, take, drop, ◌-◌}
use Rattle.std.proofs.Common.{get_or, ap₂, ◌&&◌, if◌then◌else◌, is_some, None}
use Rattle.std.specs.Prelude.{bytes_eq}
use Rattle.std.specs.List.{starts_with, All, AllByRecursion, Contains, flat_map, join_with_byte}
use Rattle.std.specs.List.{slice_split}
use Rattle.std.proofs.lemmas.List.Elements.{recursion_from_All, All-from_recursion, All-append}
use Rattle.std.proofs.lemmas.List.Elements.{All-cons, All-nil, Contains-get_or}
use Rattle.std.proofs.lemmas.List.Splits.{join_with_byte-slice_split, slice_split_none}
use Rattle.std.proofs.lemmas.List.Splits.{slice_split_at, length-slice_split}
use Rattle.std.proofs.lemmas.Grind.{flat_map-append}
use Rattle.std.proofs.lemmas.List.{take_more, take_all}
use Rattle.syn_model.specs.Path.{Name, Path, name_cmp, strip_prefix, IsName, IsPath, path_spelling}
use Rattle.syn_model.specs.Path.{is_prefix}
use Rattle.syn_model.proofs.PathLemmas.{is_prefix-is}
use Rattle.std.specs.Ordering.{eq_by_cmp}
use Rattle.std.specs.Cmp.Lexicographic.{texts_ties}
use Rattle.syn_path.specs.Paths.{NamesPath, text_of, IsPrefix, printed_name, printed_form}

-- one more name is spelled with its length and its bytes
pub length-spelling-child : (p : List (List ℕ)) (n : List ℕ) →
    length (path_spelling (p ++ n ∷ [])) ≡ length (path_spelling p) + 1 + length n
length-spelling-child p n =
    rw (
      flat_map-append (λ name. length name ∷ name) p (n ∷ []),
      length-append
          (flat_map (λ name. length name ∷ name) p) (length n ∷ (n ++ [])),
      length-append n [],
    )
    (omega arith)

pub child_lawful : (p : List (List ℕ)) (n : List ℕ) → IsPath p → IsName n → length p < 16 →
    length (path_spelling p) + 1 + length n ≤ 255 → IsPath (p ++ n ∷ [])
child_lawful p n lawful name room short = record {
  names = All-append IsName p (n ∷ []) lawful.names (All-cons IsName n [] name (All-nil IsName));
  not_deep = omega (arith, length-append p (n ∷ []));
  not_long = omega (arith, length-spelling-child p n);
}

all_front : {X : Type 0} (P : X → Type 0) (xs : List X) (x : X) → AllByRecursion P (xs ++ x ∷ []) →
    AllByRecursion P xs × P x
all_front P [] x h = (tt, h.0)
all_front P (y ∷ ys) x h = let rest = all_front P ys x h.1 in ((h.0, rest.0), rest.1)

-- the path above a lawful one is lawful, and so is its last name
pub last_lawful : (p : List (List ℕ)) (n : List ℕ) → IsPath (p ++ n ∷ []) → IsName n
last_lawful p n lawful =
    (all_front IsName p n (recursion_from_All IsName (p ++ n ∷ []) lawful.names)).1

pub parent_lawful : (p : List (List ℕ)) (n : List ℕ) → IsPath (p ++ n ∷ []) → IsPath p
parent_lawful p n lawful = record {
  names =
      All-from_recursion IsName p
      (all_front IsName p n (recursion_from_All IsName (p ++ n ∷ []) lawful.names)).0;
  not_deep = let deep = lawful.not_deep in omega (arith, length-append p (n ∷ []), deep);
  not_long = let long = lawful.not_long in omega (arith, length-spelling-child p n, long);
}

not_true : (b : Bool) → (b ≡ true → ⊥) → b ≡ false
not_true true h = absurd (h refl)
not_true false h = refl

eqb_is_true : (n : ℕ) → eqb n n ≡ true
eqb_is_true n = grind arith

-- a text without the byte is one piece
pub no_byte : (c : ℕ) (xs : List ℕ) → ¬ Contains xs c → All (λ x. eqb x c ≡ false) xs
no_byte c xs h k d l =
    not_true _ (λ e. h (subst (λ y. Contains xs y) (eqb-true _ c e) (Contains-get_or xs k d l)))

-- names joined by a byte that none has are cut again into these names
pub slice_split-join : (c : ℕ) (n : List ℕ) (p : List (List ℕ)) →
    AllByRecursion (λ x. ¬ Contains x c) (n ∷ p) →
    slice_split (λ b. eqb b c) (join_with_byte c (n ∷ p)) ≡ n ∷ p
slice_split-join c n [] h = slice_split_none (λ b. eqb b c) n (no_byte c n h.0)
slice_split-join c n (m ∷ p) h =
    slice_split_at (λ b. eqb b c) n c (join_with_byte c (m ∷ p)) (no_byte c n h.0) (eqb_is_true c)
    ∙ ap (λ rest. n ∷ rest) (slice_split-join c m p h.1)

-- the spelling of a path below the root has two bytes more than its text
pub length-join : (n : List ℕ) (p : List (List ℕ)) →
    length (path_spelling (n ∷ p)) ≡ length (join_with_byte 47 (n ∷ p)) + 2
length-join n [] = omega (arith, length-append n [])
length-join n (m ∷ p) =
    let rest = length-join m p in
    omega (
      arith,
      rest,
      length-append n (length m ∷ (m ++ flat_map (λ name. length name ∷ name) p)),
      length-append n (47 ∷ join_with_byte 47 (m ∷ p)),
    )

no_slashes : (p : List (List ℕ)) → AllByRecursion IsName p → AllByRecursion (λ x. ¬ Contains x 47) p
no_slashes [] h = tt
no_slashes (n ∷ p) h = (h.0.no_slash, no_slashes p h.1)

-- a text other than `.` names the path of its pieces, if any
pub pieces_of_named : (text : List ℕ) (p : List (List ℕ)) → text ≢ codes "." → NamesPath text p →
    slice_split (λ b. eqb b 47) text ≡ p
pieces_of_named text [] not_root named = absurd (not_root (sym named.written))
pieces_of_named text (n ∷ p) not_root named =
    ap (slice_split (λ b. eqb b 47)) (sym named.written) ∙ slice_split-join 47 n p
    (no_slashes (n ∷ p) (recursion_from_All IsName (n ∷ p) named.lawful.names))

written_as : (text : List ℕ) (p : List (List ℕ)) → slice_split (λ b. eqb b 47) text ≡ p →
    0 < length p → text_of p ≡ text
written_as text [] e l = absurd (omega arith)
written_as text (n ∷ p) e l = ap (join_with_byte 47) (sym e) ∙ join_with_byte-slice_split 47 text

short_spelling : (text : List ℕ) (p : List (List ℕ)) → text_of p ≡ text → length text ≤ 253 →
    length (path_spelling p) ≤ 255
short_spelling text [] e l = omega arith
short_spelling text (n ∷ p) e l = let same = ap length e in omega (arith, length-join n p, same)

-- the pieces of a text that keep the limits are the path that it names
pub named_by_pieces : (text : List ℕ) (p : List (List ℕ)) → slice_split (λ b. eqb b 47) text ≡ p →
    All IsName p → length p ≤ 16 → length text ≤ 253 → NamesPath text p
named_by_pieces text p e names deep long =
    let written = written_as text p e
    (let count = ap length e in omega (arith, count, length-slice_split (λ b. eqb b 47) text)) in
    record {
      lawful =
          record { names = names; not_deep = deep; not_long = short_spelling text p written long };
      written = written;
    }

-- a path below the root is the path above it with its last name
pub above_last : (p : List (List ℕ)) →
    0 < length p → (n : List ℕ) × (take (length p - 1) p ++ n ∷ [] ≡ p)
above_last p l = (
  get_or p (length p - 1) [],
  sym (take_more p (length p - 1) [] (omega arith))
      ∙ ap (λ k. take k p) (let same : length p - 1 + 1 ≡ length p = omega arith in same)
      ∙ take_all (length p) p (omega arith),
)

pub by_name : (n m : Name) (p q : Path) →
    is_prefix (n ∷ p) (m ∷ q) ≡ (eq_by_cmp name_cmp n m && is_prefix p q)
by_name n m p q =
    elim (eq_by_cmp name_cmp n m)
    as (λ b. is_some (if b then strip_prefix p q else None) ≡ (b && is_prefix p q))
    [ true ↦ refl | false ↦ refl ]

-- `starts_with` of the names tests for a prefix
pub is_prefix-starts_with : (p q : Path) → starts_with bytes_eq q p ≡ is_prefix p q
is_prefix-starts_with [] q = refl
is_prefix-starts_with (n ∷ p) [] = refl
is_prefix-starts_with (n ∷ p) (m ∷ q) =
    ap₂ (λ a b. a && b) (texts_ties n m) (is_prefix-starts_with p q) ∙ sym (by_name n m p q)

pub prefix_from_test : (p q : Path) → is_prefix p q ≡ true → IsPrefix p q
prefix_from_test p q h = let rest = is_prefix-is p q h in (rest.0, sym rest.1)

-- the first name is printed, and then each other after a slash
pub printed-split : (p : Path) (x : Name) → 0 < length p → x ≡ slice_index_or p 0 x → printed_name x
    ++ flat_map (λ other. 47 ∷ printed_name other) (take (length p - 1) (drop 1 p)) ≡ printed_form p
printed-split [] x some is = absurd (omega arith)
printed-split (n ∷ p) x some is =
    ap₂ (λ y others. printed_name y ++ flat_map (λ other. 47 ∷ printed_name other) others) is
    (take_all (length (n ∷ p) - 1) p (omega arith))
