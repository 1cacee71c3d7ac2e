-- The bytes of keys: they give their path back, go in its order, and begin with those of the paths
-- above it.
use Rattle.std.proofs.Common.{◌≡◌, ◌≤◌, ◌<◌, ◌+◌, ◌-◌, ℕ, zero, suc, false, ◌&&◌, nat_eq, nat_lt}
use Rattle.std.proofs.Common.{cond, [], ◌∷◌, ◌++◌, length, take, drop, filter, slice_index_or, refl}
use Rattle.std.proofs.Common.{sym, ap, ap₂, ◌∙◌, subst, replicate, append_assoc, append-nil}
use Rattle.std.proofs.Common.{length-append, arith, All, eqb, lit<, inl, inr, map, Some, None}
use Rattle.std.proofs.Common.{get_or, Bor, List}
use Rattle.std.specs.Prelude.{◌⊎◌, bytes_eq, slice_get, IsUtf8}
use Rattle.std.specs.Cmp.Lexicographic.{pointwise, texts_ties}
use Rattle.std.specs.List.{AllByRecursion, slice_split, starts_with, flat_map}
use Rattle.std.proofs.Math.Bool.{and_assoc}
use borrow.Rule.Slice.PartMut.{put_mid}
use Rattle.std.proofs.Math.Seq.{take-append_seam, drop-append_seam, get_or-append_seam}
use Rattle.std.proofs.lemmas.List.{take_more, take-append-drop, drop-replicate, length-map}
use Rattle.std.proofs.lemmas.List.{take-map}
use Rattle.std.proofs.lemmas.Grind.{flat_map-append}
use Rattle.std.proofs.lemmas.Bool.{ne_eqb, lt-ltb}
use Rattle.std.proofs.lemmas.List.Elements.{All-tail, All-head, recursion_from_All}
use Rattle.std.proofs.lemmas.List.Splits.{slice_split_at, slice_split-cons_yes, slice_split_none}
use Rattle.syn_model.specs.Path.{Bytes, Name, Path, path_key, IsName, IsPath, is_prefix, is_root}
use Rattle.syn_model.specs.Path.{parent, path_spelling}
use Rattle.syn_model.proofs.KeyLemmas.{NoZero, no_zero}
use Rattle.syn_path.specs.Keys.{filled, names_of, IsKey}
use Rattle.syn_model.proofs.PathLemmas.{parent-append}
use Rattle.syn_path.proofs.PathLemmas.{by_name, no_byte, above_last, last_lawful, parent_lawful}
use Rattle.std.proofs.lemmas.Option.{slice_get_past, slice_get-get_or}
use Rattle.std.proofs.lemmas.Str.{IsUtf8-append, IsUtf8-nil, IsUtf8-from_ascii}
use Rattle.std.proofs.lemmas.Str.Ascii.{IsAscii-nil, IsAscii-cons}

-- a key has one byte less than the spelling of its path
pub length-key : (p : Path) → length (path_key p) + 1 ≡ length (path_spelling p)
length-key [] = refl
length-key (n ∷ p) =
    omega (
      arith,
      length-key p,
      length-append (n ++ 0 ∷ []) (path_key p),
      length-append n (0 ∷ []),
      length-append n (flat_map (λ name. length name ∷ name) p),
    )

pub short_key : (p : Path) → IsPath p → length (path_key p) ≤ 254
short_key p lawful = let long = lawful.not_long in omega (arith, length-key p, long)

-- one more name is its bytes and a zero byte
pub key-child : (p : Path) (n : Name) → path_key (p ++ n ∷ []) ≡ path_key p ++ (n ++ 0 ∷ [])
key-child [] n = append-nil (n ++ 0 ∷ [])
key-child (m ∷ p) n =
    ap (λ k. (m ++ 0 ∷ []) ++ k) (key-child p n)
    ∙ sym (append_assoc (m ++ 0 ∷ []) (path_key p) (n ++ 0 ∷ []))

-- ---- a path from its key

pub no_zeros : (n : Name) → IsName n → All (λ b. eqb b 0 ≡ false) n
no_zeros n lawful = no_byte 0 n lawful.no_zero

names_in : Bytes → Path
names_in bytes = filter (λ name. nat_lt 0 (length name)) (slice_split (λ b. eqb b 0) bytes)

none_in_zeros : (k : ℕ) → names_in (replicate k 0) ≡ []
unfolding names_in
none_in_zeros zero = refl
none_in_zeros (suc k) = ap (filter (λ (name : Name). nat_lt 0 (length name)))
    (slice_split-cons_yes (λ b. eqb b 0) 0 (replicate k 0) refl) ∙ none_in_zeros k

names_in_key : (p : Path) (k : ℕ) → AllByRecursion IsName p →
    names_in (path_key p ++ replicate k 0) ≡ p
unfolding names_in
names_in_key [] k h = none_in_zeros k
names_in_key (n ∷ p) k h =
    let rest = path_key p ++ replicate k 0 in
    let whole : path_key (n ∷ p) ++ replicate k 0 ≡ n ++ 0 ∷ rest =
    append_assoc (n ++ 0 ∷ []) (path_key p) (replicate k 0) ∙ append_assoc n (0 ∷ []) rest in
    ap names_in whole
    ∙ (ap (filter (λ (name : Name). nat_lt 0 (length name)))
    (slice_split_at (λ b. eqb b 0) n 0 rest (no_zeros n h.0) refl)
    ∙ (ap (λ b. cond b (n ∷ names_in rest) (names_in rest)) (lt-ltb 0 (length n) (h.0.not_empty))
    ∙ ap (λ names. n ∷ names) (names_in_key p k h.1)))

pub names_of-filled : (p : Path) → IsPath p → names_of (filled p) ≡ p
unfolding names_of filled names_in
names_of-filled p lawful =
    names_in_key p (255 - length (path_key p)) (recursion_from_All IsName p lawful.names)

-- the bytes of a path's names give the path
pub names_of-key : (p : Path) (bytes : Bytes) → IsPath p → bytes ≡ path_key p → names_of bytes ≡ p
unfolding names_of names_in
names_of-key p bytes lawful is =
    ap names_in (is ∙ sym (append-nil (path_key p)))
    ∙ names_in_key p 0 (recursion_from_All IsName p lawful.names)

pub is_key : (p : Path) → IsPath p →
    IsKey (filled p) (length (path_key p)) (length (path_key (parent p)))
is_key p lawful =
    let same = names_of-filled p lawful in
    record {
      lawful = subst IsPath (sym same) lawful;
      spelled = sym (ap filled same);
      counted = sym (ap (λ q. length (path_key q)) same);
      begun = sym (ap (λ q. length (path_key (parent q))) same);
    }

-- the bytes of the names alone
pub take-filled : (p : Path) → take (length (path_key p)) (filled p) ≡ path_key p
unfolding filled
take-filled p = take-append_seam (path_key p) (replicate (255 - length (path_key p)) 0)

-- ---- a path above another

begins_with_name : (n m A B : Bytes) → NoZero n → NoZero m →
    starts_with nat_eq (m ++ 0 ∷ B) (n ++ 0 ∷ A) ≡ (bytes_eq n m && starts_with nat_eq B A)
begins_with_name [] [] A B hn hm = refl
begins_with_name [] (y ∷ m) A B hn hm =
    let p : 0 < y = All-head (λ b. 0 < b) y m hm in
    ap (λ b. b && pointwise nat_eq A (take (length A) (m ++ 0 ∷ B)))
    (ne_eqb 0 y (λ e. omega (arith, p, e)))
begins_with_name (x ∷ n) [] A B hn hm =
    let p : 0 < x = All-head (λ b. 0 < b) x n hn in
    ap (λ b. b && pointwise nat_eq (n ++ 0 ∷ A) (take (length (n ++ 0 ∷ A)) B))
    (ne_eqb x 0 (λ e. omega (arith, p, e)))
begins_with_name (x ∷ n) (y ∷ m) A B hn hm =
    ap (λ b. nat_eq x y && b) (begins_with_name n m A B (All-tail (λ b. 0 < b) x n hn)
    (All-tail (λ b. 0 < b) y m hm))
    ∙ sym (and_assoc (nat_eq x y) (bytes_eq n m) (starts_with nat_eq B A))

-- no bytes begin with a name
none_begin : (n A : Bytes) → IsName n → starts_with nat_eq [] (n ++ A) ≡ false
none_begin [] A h = absurd (let some = h.not_empty in omega (arith, some))
none_begin (x ∷ n) A h = refl

begins_by_names : (p q : Path) → AllByRecursion IsName p → AllByRecursion IsName q →
    starts_with nat_eq (path_key q) (path_key p) ≡ is_prefix p q
begins_by_names [] q hp hq = refl
begins_by_names (n ∷ p) [] hp hq =
    ap (starts_with nat_eq []) (append_assoc n (0 ∷ []) (path_key p))
    ∙ none_begin n (0 ∷ path_key p) hp.0
begins_by_names (n ∷ p) (m ∷ q) hp hq =
    ap₂ (starts_with nat_eq) (append_assoc m (0 ∷ []) (path_key q))
    (append_assoc n (0 ∷ []) (path_key p))
    ∙ (begins_with_name n m (path_key p) (path_key q) (no_zero n hp.0) (no_zero m hq.0)
    ∙ (ap₂ (λ a b. a && b) (texts_ties n m) (begins_by_names p q hp.1 hq.1)
    ∙ sym (by_name n m p q)))

-- the key of a path begins with those of the paths above it, and with no other
pub key_begins : (p q : Path) → IsPath p → IsPath q →
    starts_with nat_eq (path_key q) (path_key p) ≡ is_prefix p q
key_begins p q hp hq = begins_by_names p q (recursion_from_All IsName p hp.names)
    (recursion_from_All IsName q hq.names)

-- ---- a key, name by name

pub key-append : (p q : Path) → path_key (p ++ q) ≡ path_key p ++ path_key q
key-append p q = flat_map-append (λ (name : Name). name ++ 0 ∷ []) p q

pub key_within : (p : Path) (k : ℕ) → length (path_key (take k p)) ≤ length (path_key p)
key_within p k =
    omega (
      arith,
      length-append (path_key (take k p)) (path_key (drop k p)),
      ap length (key-append (take k p) (drop k p)),
      ap (λ q. length (path_key q)) (take-append-drop k p),
    )

-- the key of one name more
pub key_more : (p : Path) (i : ℕ) (n : Name) → i < length p → n ≡ slice_index_or p i n →
    path_key (take (i + 1) p) ≡ path_key (take i p) ++ (n ++ 0 ∷ [])
key_more p i n l is =
    ap path_key (take_more p i n l ∙ ap (λ x. take i p ++ x ∷ []) (sym is))
    ∙ key-child (take i p) n

pub length-key_more : (p : Path) (i : ℕ) (n : Name) → i < length p → n ≡ slice_index_or p i n →
    length (path_key (take (i + 1) p)) ≡ length (path_key (take i p)) + length n + 1
length-key_more p i n l is =
    omega (
      arith,
      ap length (key_more p i n l is),
      length-append (path_key (take i p)) (n ++ 0 ∷ []),
      length-append n (0 ∷ []),
    )

-- a name that is written after a key
pub written : (K n bytes src : Bytes) (at k : ℕ) → bytes ≡ K ++ replicate (255 - at) 0 →
    at ≡ length K → src ≡ n → k ≡ length n → at + k + 1 ≤ 255 →
    put_mid at k bytes src ≡ (K ++ (n ++ 0 ∷ [])) ++ replicate (255 - (at + k + 1)) 0
written K n bytes src at k is count same size room =
    let more : 255 - at - k ≡ suc (255 - (at + k + 1)) = omega (arith, room) in
    let zeros : Bytes = replicate (255 - at) 0 in
    let rest : Bytes = replicate (255 - (at + k + 1)) 0 in
    let front : take at bytes ≡ K =
    ap₂ (λ (m : ℕ) (xs : Bytes). take m xs) count is ∙ take-append_seam K zeros in
    let back : drop k (drop at bytes) ≡ 0 ∷ rest =
    ap (drop k) (ap₂ (λ (m : ℕ) (xs : Bytes). drop m xs) count is ∙ drop-append_seam K zeros)
    ∙ (drop-replicate k (255 - at) 0 ∙ ap (λ m. replicate m 0) more) in
    let whole : K ++ (n ++ 0 ∷ rest) ≡ (K ++ (n ++ 0 ∷ [])) ++ rest =
    sym (append_assoc K (n ++ 0 ∷ []) rest ∙ ap (λ xs. K ++ xs) (append_assoc n (0 ∷ []) rest)) in
    ap₂ (λ (xs ys : Bytes). xs ++ (src ++ ys)) front back
    ∙ (ap (λ (xs : Bytes). K ++ (xs ++ 0 ∷ rest)) same ∙ whole)

-- ---- the last name of a key

pub parent-child : (q : Path) (n : Name) → parent (q ++ n ∷ []) ≡ q
parent-child q n = parent-append q n [] ∙ append-nil q

-- the names that are taken but for the last
pub parent_more : (p : Path) (i : ℕ) (n : Name) → i < length p → n ≡ slice_index_or p i n →
    parent (take (i + 1) p) ≡ take i p
parent_more p i n l is =
    ap parent (take_more p i n l ∙ ap (λ x. take i p ++ x ∷ []) (sym is))
    ∙ parent-child (take i p) n

-- a path is the root, or one with a last name
abbrev pub Ends : Path → Type 0
Ends q = (q ≡ []) ⊎ ((above : Path) × ((n : Name) × (q ≡ above ++ n ∷ [])))

pub by_end : (q : Path) → Ends q
by_end [] = inl refl
by_end (m ∷ q) =
    let last = above_last (m ∷ q) (omega arith) in
    inr (take (length (m ∷ q) - 1) (m ∷ q), (last.0, sym last.1))

front_of : (above : Path) (n : Name) →
    take (length (path_key above)) (filled (above ++ n ∷ [])) ≡ path_key above
unfolding filled
front_of above n =
    let zeros = replicate (255 - length (path_key (above ++ n ∷ []))) 0 in
    ap (λ k. take (length (path_key above)) (k ++ zeros)) (key-child above n)
    ∙ (ap (take (length (path_key above))) (append_assoc (path_key above) (n ++ 0 ∷ []) zeros)
    ∙ take-append_seam (path_key above) ((n ++ 0 ∷ []) ++ zeros))

-- the bytes of the path above are those before the last name
pub above-filled : (p : Path) → take (length (path_key (parent p))) (filled p) ≡ path_key (parent p)
above-filled p = by_last (by_end p)
  where
    by_last : Ends p → take (length (path_key (parent p))) (filled p) ≡ path_key (parent p)
    by_last (inl is) = ap (λ q. take (length (path_key (parent q))) (filled q)) is
        ∙ sym (ap (λ q. path_key (parent q)) is)
    by_last (inr (above, (n, is))) =
        let same = ap parent is ∙ parent-child above n in
        ap₂ (λ a q. take (length (path_key a)) (filled q)) same is
        ∙ (front_of above n ∙ sym (ap path_key same))

-- the path above a lawful one is lawful
pub above_is_path : (p : Path) → IsPath p → IsPath (parent p)
above_is_path p lawful = by_last (by_end p)
  where
    by_last : Ends p → IsPath (parent p)
    by_last (inl is) = subst (λ q. IsPath (parent q)) (sym is) (subst IsPath is lawful)
    by_last (inr (above, (n, is))) =
        subst IsPath (sym (ap parent is ∙ parent-child above n))
        (parent_lawful above n (subst IsPath is lawful))

-- the bytes of the last name, with the zero byte after it
pub last_bytes : (above : Path) (n : Name) →
    drop (length (path_key above)) (path_key (above ++ n ∷ [])) ≡ n ++ 0 ∷ []
last_bytes above n =
    ap (drop (length (path_key above))) (key-child above n)
    ∙ drop-append_seam (path_key above) (n ++ 0 ∷ [])

pub without_zero : (n : Name) (bytes : Bytes) → bytes ≡ n ++ 0 ∷ [] →
    take (length bytes - 1) bytes ≡ n
without_zero n bytes is =
    let size : length bytes - 1 ≡ length n =
    omega (arith, ap length is, length-append n (0 ∷ [])) in
    ap₂ take size is ∙ take-append_seam n (0 ∷ [])

-- what stands there where no byte does
pub no_last : (p : Path) (bytes : Bytes) →
    bytes ≡ drop (length (path_key (parent p))) (path_key p) → length bytes < 1 →
    None ≡ slice_get p (length p - 1)
no_last p bytes is l = by_last (by_end p)
  where
    by_last : Ends p → None ≡ slice_get p (length p - 1)
    by_last (inl root) = sym (slice_get_past p (length p - 1) (omega (arith, ap length root)))
    by_last (inr (above, (n, named))) =
        absurd (omega (
          arith,
          l,
          ap length (is ∙ (ap₂ (λ a q. drop (length (path_key a)) (path_key q))
              (ap parent named ∙ parent-child above n) named ∙ last_bytes above n)),
          length-append n (0 ∷ []),
        ))

-- the last name is what stands before the last zero byte
pub the_last : (p : Path) (bytes : Bytes) → IsPath p →
    bytes ≡ drop (length (path_key (parent p))) (path_key p) → 1 ≤ length bytes →
    (Some (take (length bytes - 1) bytes) ≡ slice_get p (length p - 1))
    × IsName (take (length bytes - 1) bytes)
the_last p bytes lawful is l = by_last (by_end p)
  where
    by_last : Ends p → (Some (take (length bytes - 1) bytes) ≡ slice_get p (length p - 1))
        × IsName (take (length bytes - 1) bytes)
    by_last (inl root) =
        absurd (omega (
          arith,
          l,
          ap length (is ∙ ap (λ q. drop (length (path_key (parent q))) (path_key q)) root),
        ))
    by_last (inr (above, (n, named))) =
        let cut = is ∙ (ap₂ (λ a q. drop (length (path_key a)) (path_key q))
        (ap parent named ∙ parent-child above n) named ∙ last_bytes above n) in
        let name = without_zero n bytes cut in
        let size : length p - 1 ≡ length above =
        omega (arith, ap length named, length-append above (n ∷ [])) in
        let there : slice_get p (length p - 1) ≡ Some n =
        slice_get-get_or p (length p - 1) n
        (omega (arith, ap length named, length-append above (n ∷ [])))
        ∙ ap Some (ap₂ (λ q k. get_or q k n) named size ∙ get_or-append_seam above n [] n) in (
          ap Some name ∙ sym there,
          subst IsName (sym name) (last_lawful above n (subst IsPath named lawful)),
        )

-- ---- a path from the text of its key

pub key_text : (p : Path) → AllByRecursion IsName p → IsUtf8 (path_key p)
key_text [] h = IsUtf8-nil
key_text (n ∷ p) h =
    IsUtf8-append (n ++ 0 ∷ []) (path_key p)
    (IsUtf8-append n (0 ∷ []) h.0.is_text
    (IsUtf8-from_ascii (0 ∷ []) (IsAscii-cons 0 [] (lit< tt) IsAscii-nil))) (key_text p h.1)

-- names that are cut at the zero bytes between them
pub cut_names : (p : Path) (n : Name) → AllByRecursion IsName p → IsName n →
    slice_split (λ b. eqb b 0) (path_key p ++ n) ≡ p ++ n ∷ []
cut_names [] n h k = slice_split_none (λ b. eqb b 0) n (no_zeros n k)
cut_names (m ∷ p) n h k =
    ap (slice_split (λ b. eqb b 0)) (append_assoc (m ++ 0 ∷ []) (path_key p) n
    ∙ append_assoc m (0 ∷ []) (path_key p ++ n))
    ∙ (slice_split_at (λ b. eqb b 0) m 0 (path_key p ++ n) (no_zeros m h.0) refl
    ∙ ap (λ names. m ∷ names) (cut_names p n h.1 k))

-- the pieces between the zero bytes are the names, and nothing after them
pub key_pieces : (p : Path) → AllByRecursion IsName p →
    slice_split (λ b. eqb b 0) (path_key p) ≡ p ++ [] ∷ []
key_pieces [] h = refl
key_pieces (n ∷ p) h =
    ap (slice_split (λ b. eqb b 0)) (append_assoc n (0 ∷ []) (path_key p))
    ∙ (slice_split_at (λ b. eqb b 0) n 0 (path_key p) (no_zeros n h.0) refl
    ∙ ap (λ names. n ∷ names) (key_pieces p h.1))

-- a text that is cut at the zero bytes gives the names, once what follows the last is taken away
pub names_cut : (p : Path) (text : Bytes) (pieces front : List (Bor (List ℕ))) (k : ℕ) →
    IsPath p → text ≡ path_key p → map (λ x. x.now) pieces ≡ slice_split (λ b. eqb b 0) text →
    k ≡ length pieces → front ≡ take (k - 1) pieces → map (λ x. x.now) front ≡ p
names_cut p text pieces front k lawful is cut count rest =
    let whole = cut ∙ (ap (slice_split (λ b. eqb b 0)) is
    ∙ key_pieces p (recursion_from_All IsName p lawful.names)) in
    let size : k - 1 ≡ length p = omega (
      arith,
      count,
      ap length whole,
      length-map pieces (λ x. x.now),
      length-append p ([] ∷ []),
    ) in
    ap (map (λ x. x.now)) rest
    ∙ (sym (take-map (λ x. x.now) (k - 1) pieces)
    ∙ (ap₂ take size whole ∙ take-append_seam p ([] ∷ [])))

pub parent_taken : (p : Path) → 1 ≤ length p → take (length p - 1) p ≡ parent p
parent_taken p some = by_last (by_end p)
  where
    by_last : Ends p → take (length p - 1) p ≡ parent p
    by_last (inl is) = absurd (omega (arith, some, ap length is))
    by_last (inr (above, (n, is))) =
        let size : length p - 1 ≡ length above =
        omega (arith, ap length is, length-append above (n ∷ [])) in
        ap₂ take size is ∙ (take-append_seam above (n ∷ [])
        ∙ sym (ap parent is ∙ parent-child above n))

pub has_name : (p : Path) → 0 < length (path_key p) → is_root p ≡ false
has_name [] some = absurd (omega (arith, some))
has_name (n ∷ p) some = refl

pub key_above : (p : Path) → length (path_key (parent p)) ≤ length (path_key p)
key_above p = by_last (by_end p)
  where
    by_last : Ends p → length (path_key (parent p)) ≤ length (path_key p)
    by_last (inl is) =
        omega (
          arith,
          ap (λ q. length (path_key (parent q))) is,
          ap (λ q. length (path_key q)) is,
        )
    by_last (inr (above, (n, is))) =
        omega (
          arith,
          ap (λ q. length (path_key q)) (ap parent is ∙ parent-child above n),
          ap (λ q. length (path_key q)) is,
          ap length (key-child above n),
          length-append (path_key above) (n ++ 0 ∷ []),
        )

pub empty_key : (p : Path) → eqb (length (path_key p)) 0 ≡ is_root p
empty_key [] = refl
empty_key (n ∷ p) =
    ne_eqb (length (path_key (n ∷ p))) 0
    (λ e. omega (
      arith,
      e,
      length-append (n ++ 0 ∷ []) (path_key p),
      length-append n (0 ∷ []),
    ))
