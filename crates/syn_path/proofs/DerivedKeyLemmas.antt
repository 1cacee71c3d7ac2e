-- Keys that are made of the bytes of others, and of parts of them.
use Rattle.std.proofs.Common.{◌≡◌, ◌≤◌, ◌+◌, ◌-◌, ℕ, false}
use Rattle.std.proofs.Common.{cond, [], ◌∷◌, ◌++◌, length, take, drop, refl}
use Rattle.std.proofs.Common.{sym, ap, ap₂, ◌∙◌, subst, replicate, append_assoc, append-nil}
use Rattle.std.proofs.Common.{length-append, arith, eqb, inl, inr, map, Some, None, true}
use Rattle.std.proofs.Common.{true≢false, get_or, Bor, List}
use Rattle.std.specs.Prelude.{count_by, option_map, Option}
use Rattle.std.specs.List.{AllByRecursion, slice_split, last_or}
use borrow.Rule.Slice.PartMut.{put_mid}
use Rattle.std.proofs.Math.Seq.{take-append_seam, drop-append_seam}
use Rattle.std.proofs.lemmas.List.{drop-replicate}
use Rattle.std.proofs.lemmas.List.Elements.{recursion_from_All, All-append, All-from_recursion}
use Rattle.std.proofs.lemmas.List.Splits.{slice_split_none, length-slice_split}
use Rattle.syn_model.specs.Path.{Bytes, Name, Path, path_key, IsName, IsPath, is_root, parent}
use Rattle.syn_path.specs.Keys.{filled, names_of, IsKey, IsSpelling}
use Rattle.std.proofs.lemmas.List.Sums.{sum_by-append, sum_by-cons}
use Rattle.syn_model.proofs.PathLemmas.{parent-append}
use Rattle.syn_path.proofs.PathLemmas.{last_lawful, parent_lawful}
use Rattle.syn_path.proofs.KeyLemmas.{names_of-key, length-key, short_key, key-child, no_zeros}
use Rattle.syn_path.proofs.KeyLemmas.{names_of-filled, is_key, key-append}
use Rattle.syn_path.proofs.KeyLemmas.{parent-child, Ends, by_end, without_zero, cut_names}
use Rattle.syn_path.proofs.KeyLemmas.{key_above}

-- bytes that are put after others
pub put_after : (K n bytes src : Bytes) (at k : ℕ) → bytes ≡ K ++ replicate (255 - at) 0 →
    at ≡ length K → src ≡ n → k ≡ length n → at + k ≤ 255 →
    put_mid at k bytes src ≡ (K ++ n) ++ replicate (255 - (at + k)) 0
put_after K n bytes src at k is count same size room =
    let more : 255 - at - k ≡ 255 - (at + k) = omega (arith, room) in
    let zeros : Bytes = replicate (255 - at) 0 in
    let rest : Bytes = replicate (255 - (at + k)) 0 in
    let front : take at bytes ≡ K =
    ap₂ (λ (m : ℕ) (xs : Bytes). take m xs) count is ∙ take-append_seam K zeros in
    let back : drop k (drop at bytes) ≡ rest =
    ap (drop k) (ap₂ (λ (m : ℕ) (xs : Bytes). drop m xs) count is ∙ drop-append_seam K zeros)
    ∙ (drop-replicate k (255 - at) 0 ∙ ap (λ m. replicate m 0) more) in
    ap₂ (λ (xs ys : Bytes). xs ++ (src ++ ys)) front back
    ∙ (ap (λ (xs : Bytes). K ++ (xs ++ rest)) same ∙ sym (append_assoc K n rest))

pub is_spelling : (p : Path) (bytes : Bytes) (start : ℕ) → IsPath p → bytes ≡ path_key p →
    start ≡ length (path_key (parent p)) → IsSpelling bytes start
is_spelling p bytes start lawful is begun =
    let same = names_of-key p bytes lawful is in
    record {
      lawful = subst IsPath (sym same) lawful;
      spelled = is ∙ sym (ap path_key same);
      begun = begun ∙ sym (ap (λ q. length (path_key (parent q))) same);
    }

pub spelling_short : (bytes : Bytes) (start : ℕ) → IsSpelling bytes start → length bytes ≤ 254
spelling_short bytes start own =
    let is = own.spelled in
    omega (arith, short_key _ own.lawful, ap length is)

filled_spelling : (p : Path) (bytes : Bytes) → bytes ≡ path_key p →
    bytes ++ replicate (255 - length bytes) 0 ≡ filled p
unfolding filled
filled_spelling p bytes is = ap (λ xs. xs ++ replicate (255 - length xs) 0) is

pub key_of_spelling : (bytes whole : Bytes) (len start : ℕ) → IsSpelling bytes start →
    whole ≡ bytes ++ replicate (255 - length bytes) 0 → len ≡ length bytes →
    IsKey whole len start × (names_of whole ≡ names_of bytes)
key_of_spelling bytes whole len start own is count =
    let p = names_of bytes in
    let is' : whole ≡ filled p = is ∙ filled_spelling p bytes own.spelled in
    let key : IsKey (filled p) (length (path_key p)) (length (path_key (parent p))) =
    is_key p own.lawful in
    let count' : length (path_key p) ≡ len = sym (count ∙ ap length own.spelled) in (
      subst (λ xs. IsKey xs len start) (sym is')
          (subst (λ n. IsKey (filled p) n start) count'
          (subst (IsKey (filled p) (length (path_key p))) (sym own.begun) key)),
      ap names_of is' ∙ names_of-filled p own.lawful,
    )

no_count : (n : Name) → IsName n → count_by (λ b. eqb b 0) n ≡ 0
no_count n lawful =
    let pieces = length-slice_split (λ b. eqb b 0) n in
    omega (arith, pieces, ap length (slice_split_none (λ b. eqb b 0) n (no_zeros n lawful)))

zero_ended : (n rest : Bytes) → count_by (λ b. eqb b 0) (n ++ 0 ∷ rest)
    ≡ count_by (λ b. eqb b 0) n + (count_by (λ b. eqb b 0) rest + 1)
zero_ended n rest =
    sum_by-append (λ b. cond (eqb b 0) 1 0) n (0 ∷ rest)
    ∙ ap (λ m. count_by (λ b. eqb b 0) n + m)
    (sum_by-cons (λ b. cond (eqb b 0) 1 0) 0 rest
    ∙ (let swap : 1 + count_by (λ b. eqb b 0) rest ≡ count_by (λ b. eqb b 0) rest + 1 =
    omega arith in swap))

pub count_names : (p : Path) → AllByRecursion IsName p → count_by (λ b. eqb b 0) (path_key p)
    ≡ length p
count_names [] h = refl
count_names (n ∷ p) h =
    ap (count_by (λ b. eqb b 0)) (append_assoc n (0 ∷ []) (path_key p))
    ∙ (zero_ended n (path_key p)
    ∙ omega (arith, no_count n h.0, count_names p h.1))

-- ---- limits and beginnings of paths that are put together

pub under_is_path : (a p : Path) → IsPath a → IsPath p →
    length (path_key a) + length (path_key p) ≤ 254
    → length a + length p ≤ 16 → IsPath (a ++ p)
under_is_path a p ha hp short few = record {
  names = All-append IsName a p ha.names hp.names;
  not_deep = omega (arith, few, length-append a p);
  not_long =
      omega (
        arith,
        short,
        length-key (a ++ p),
        ap length (key-append a p),
        length-append (path_key a) (path_key p),
      );
}

pub under_is_short : (a p : Path) → IsPath (a ++ p) →
    (length (path_key a) + length (path_key p) ≤ 254) × (length a + length p ≤ 16)
under_is_short a p lawful = (
  omega (
    arith,
    short_key (a ++ p) lawful,
    ap length (key-append a p),
    length-append (path_key a) (path_key p),
  ),
  let few = lawful.not_deep in omega (arith, few, length-append a p),
)

pub start_at_root : (a p : Path) → is_root p ≡ true → parent (a ++ p) ≡ parent a
start_at_root a [] h = ap parent (append-nil a)
start_at_root a (n ∷ p) h = absurd (true≢false (sym h))

pub start_below : (a p : Path) → is_root p ≡ false →
    length (path_key (parent (a ++ p))) ≡ length (path_key a) + length (path_key (parent p))
start_below a [] h = absurd (true≢false h)
start_below a (n ∷ p) h =
    ap (λ q. length (path_key q)) (parent-append a n p)
    ∙ (ap length (key-append a (parent (n ∷ p)))
    ∙ length-append (path_key a) (path_key (parent (n ∷ p))))

abbrev value_or : Name → Option Name → Name
value_or n None = n
value_or n (Some m) = m

last_mapped : (acc : Option (Bor (List ℕ))) (xs : List (Bor (List ℕ))) (q : Path) (n : Name) →
    map (λ x. x.now) xs ≡ q ++ n ∷ [] → option_map (λ x. x.now) (last_or acc xs) ≡ Some n
last_mapped acc [] q n is =
    absurd (omega (arith, ap length is, length-append q (n ∷ [])))
last_mapped acc (x ∷ []) [] n is = ap Some (ap (λ xs. get_or xs 0 n) is)
last_mapped acc (x ∷ y ∷ xs) [] n is =
    absurd (omega (arith, ap length is))
last_mapped acc (x ∷ xs) (m ∷ q) n is = last_mapped (Some x) xs q n (ap (drop 1) is)

-- where the last name begins, from what stands between the zero bytes
pub last_start : (p : Path) (bytes : Bytes) (xs : List (Bor (List ℕ))) (last : Bor (List ℕ)) →
    IsPath p → bytes ≡ path_key p → 1 ≤ length bytes →
    map (λ x. x.now) xs ≡ slice_split (λ b. eqb b 0) (take (length bytes - 1) bytes) →
    Some last ≡ last_or None xs →
    length (take (length bytes - 1) bytes) - length last.now ≡ length (path_key (parent p))
last_start p bytes xs last lawful is some cut found = by_last (by_end p)
  where
    by_last : Ends p →
        length (take (length bytes - 1) bytes) - length last.now ≡ length (path_key (parent p))
    by_last (inl root) = absurd (omega (arith, some, ap length (is ∙ ap path_key root)))
    by_last (inr (above, (n, named))) =
        let name = last_lawful above n (subst IsPath named lawful) in
        let front = parent_lawful above n (subst IsPath named lawful) in
        let whole : bytes ≡ (path_key above ++ n) ++ 0 ∷ [] =
        is ∙ (ap path_key named ∙ (key-child above n
        ∙ sym (append_assoc (path_key above) n (0 ∷ [])))) in
        let names : take (length bytes - 1) bytes ≡ path_key above ++ n =
        without_zero (path_key above ++ n) bytes whole in
        let pieces = cut ∙ (ap (slice_split (λ b. eqb b 0)) names
        ∙ cut_names above n (recursion_from_All IsName above front.names) name) in
        let last_is = ap (option_map (λ x. x.now)) found ∙ last_mapped None xs above n pieces in
        let same : last.now ≡ n = ap (value_or n) last_is in
        omega (
          arith,
          ap length names,
          ap length same,
          length-append (path_key above) n,
          ap (λ q. length (path_key q)) (ap parent named ∙ parent-child above n),
        )

each_back : (a rest : Path) → AllByRecursion IsName (a ++ rest) → AllByRecursion IsName rest
each_back [] rest h = h
each_back (n ∷ a) rest h = each_back a rest h.1

-- what follows a path that another begins with
pub rest_of_prefix : (a p rest : Path) → p ≡ a ++ rest → IsPath p →
    IsPath rest × ((drop (length (path_key a)) (path_key p) ≡ path_key rest)
    × (length (path_key (parent p)) - length (path_key a) ≡ length (path_key (parent rest))))
rest_of_prefix a p rest is lawful = (
  rest_is_path a rest (subst IsPath is lawful),
  (
    ap (drop (length (path_key a))) (ap path_key is ∙ key-append a rest)
        ∙ drop-append_seam (path_key a) (path_key rest),
    start_of_rest rest is,
  ),
)
  where
    rest_is_path : (a rest : Path) → IsPath (a ++ rest) → IsPath rest
    rest_is_path a rest whole = record {
      names =
          All-from_recursion IsName rest
          (each_back a rest (recursion_from_All IsName (a ++ rest) whole.names));
      not_deep = let deep = whole.not_deep in omega (arith, deep, length-append a rest);
      not_long =
          omega (
            arith,
            short_key (a ++ rest) whole,
            length-key rest,
            ap length (key-append a rest),
            length-append (path_key a) (path_key rest),
          );
    }

    start_of_rest : (rest : Path) → p ≡ a ++ rest →
        length (path_key (parent p)) - length (path_key a) ≡ length (path_key (parent rest))
    start_of_rest [] is =
        omega (
          arith,
          key_above p,
          ap (λ q. length (path_key q)) (is ∙ append-nil a),
        )
    start_of_rest (n ∷ rest) is =
        omega (
          arith,
          ap (λ q. length (path_key (parent q))) is,
          start_below a (n ∷ rest) refl,
        )
