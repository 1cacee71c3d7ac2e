-- How long the spellings of trees and of marks are: at most what each of their pairs takes.
use Rattle.std.proofs.Common.{◌≡◌, ◌≤◌, ◌+◌, ◌*◌, ℕ, zero, suc, Bool, true, false, cond}
use Rattle.std.proofs.Common.{if◌then◌else◌, true≢false, List, [], ◌∷◌, ◌++◌, length, length-append}
use Rattle.std.proofs.Common.{filter_map, flat_map, refl, sym, ap, ◌∙◌, subst, Option, Some, None}
use Rattle.std.proofs.Common.{Ordering, Less, Equal, Greater, option_map, is_some, is_lt, is_eq, T}
use Rattle.std.proofs.Common.{arith}
use Rattle.std.specs.Prelude.{sum_by, option_and_then, All}
use Rattle.std.proofs.lemmas.List.Elements.{All-head, All-tail}
use Rattle.std.specs.List.{AllByRecursion, cons_option}
use Rattle.std.specs.Ordering.{eq_by_cmp, ordering_then}
use Rattle.std.specs.FinMap.{entries, entries_sorted, find, get, get-entries, is_sorted, len}
use Rattle.std.specs.FinMap.{len-entries}
use Rattle.std.specs.FinMap.Entries.{below_all}
use Rattle.std.proofs.lemmas.List.Sums.{sum_by-cons}
use Rattle.std.proofs.lemmas.Option.{none-some, same_Some}
use Rattle.syn_model.specs.Path.{Bytes, Name, IsName, Path, name_cmp, path_cmp, root, strip_prefix}
use Rattle.syn_model.specs.Tree.{Tree, Content, Directory, File, Pair, subtree, taken_off}
use Rattle.syn_model.specs.Tree.{is_present}
use Rattle.syn_model.specs.Limits.{children, only_name, last_name_spelling_length}
use Rattle.syn_model.specs.Limits.{content_spelling_length, tree_spelling_length}
use Rattle.syn_model.specs.Spelling.{entries_spelling, content_spelling, spelling_within, spelling}
use Rattle.syn_model.specs.Mark.{IsMarks}
use Rattle.syn_model.specs.MarkSpelling.{mark_spelling}
use Rattle.syn_model.proofs.PathLemmas.{same_name, same_path, name_itself, path_itself}
use Rattle.syn_model.proofs.TreeLemmas.{get-subtree}
use Rattle.syn_model.proofs.QuietLemmas.{get-children}
use Rattle.syn_model.proofs.SubtreeLemmas.{subtree_entries}
use Rattle.syn_model.specs.Contents.{Contents, contents_front, contents_spelling, digest_spelling}
use Rattle.syn_model.proofs.BaseLemmas.{is_true, both_hold, each_with}

-- ---- sums

pub total : {X : Type 0} → (X → ℕ) → List X → ℕ
total f [] = 0
total f (x ∷ xs) = f x + total f xs

pub total_is : {X : Type 0} (f : X → ℕ) (xs : List X) → sum_by f xs ≡ total f xs
unfolding total
total_is f [] = refl
total_is f (x ∷ xs) = sum_by-cons f x xs ∙ ap (λ n. f x + n) (total_is f xs)

pub total_less : {X : Type 0} (f g : X → ℕ) (xs : List X) → AllByRecursion (λ x. f x ≤ g x) xs →
    total f xs ≤ total g xs
unfolding total
total_less f g [] h = omega arith
total_less f g (x ∷ xs) h =
    let rest = total_less f g xs h.1 in
    let first = h.0 in
    omega (arith, rest, first)

pub each_of : {X : Type 0} (P : X → Type 0) → ((x : X) → P x) → (xs : List X) → AllByRecursion P xs
each_of P h [] = tt
each_of P h (x ∷ xs) = (h x, each_of P h xs)

total_none : {X : Type 0} (f : X → ℕ) (xs : List X) → AllByRecursion (λ x. f x ≡ 0) xs →
    total f xs ≡ 0
unfolding total
total_none f [] h = refl
total_none f (x ∷ xs) h =
    let rest = total_none f xs h.1 in
    let first = h.0 in
    omega (arith, rest, first)

total_both : {X : Type 0} (f g : X → ℕ) (xs : List X) →
    total (λ x. f x + g x) xs ≡ total f xs + total g xs
unfolding total
total_both f g [] = refl
total_both f g (x ∷ xs) = let rest = total_both f g xs in omega (arith, rest)

-- a sum of sums, over the one and then over the other
total_turned : {X Y : Type 0} (f : X → Y → ℕ) (xs : List X) (ys : List Y) →
    total (λ x. total (f x) ys) xs ≡ total (λ y. total (λ x. f x y) xs) ys
unfolding total
total_turned f xs [] = total_none (λ x. 0) xs (each_of (λ x. 0 ≡ 0) (λ x. refl) xs)
total_turned f xs (y ∷ ys) =
    total_both (λ x. f x y) (λ x. total (f x) ys) xs
    ∙ ap (λ n. total (λ x. f x y) xs + n) (total_turned f xs ys)

-- a term for what a test gives, and none where it gives nothing
abbrev term : {X : Type 0} → (X → ℕ) → Option X → ℕ
term f None = 0
term f (Some x) = f x

given : {Y : Type 0} (f : Y → ℕ) (o : Option Y) (rest : List Y) →
    total f (cons_option o rest) ≡ term f o + total f rest
unfolding total
given f None rest = omega arith
given f (Some y) rest = refl

total_given : {X Y : Type 0} (f : Y → ℕ) (h : X → Option Y) (xs : List X) →
    total f (filter_map h xs) ≡ total (λ x. term f (h x)) xs
unfolding total
total_given f h [] = refl
total_given f h (x ∷ xs) =
    given f (h x) (filter_map h xs) ∙ ap (λ n. term f (h x) + n) (total_given f h xs)

spelled_all : {X : Type 0} (f : X → Bytes) (xs : List X) →
    length (flat_map f xs) ≡ total (λ x. length (f x)) xs
unfolding total
spelled_all f [] = refl
spelled_all f (x ∷ xs) =
    length-append (f x) (flat_map f xs) ∙ ap (λ n. length (f x) + n) (spelled_all f xs)

-- ---- the names in a directory

still_some : (n : Name) (x : Name × Content) (xs : List (Name × Content)) →
    is_some (find name_cmp n xs) ≡ true → is_some (find name_cmp n (x ∷ xs)) ≡ true
still_some n x xs h =
    elim (eq_by_cmp name_cmp n x.0)
    as (λ b. is_some (cond b (Some x.1) (find name_cmp n xs)) ≡ true) [ true ↦ refl | false ↦ h ]

pub found_each : (xs : List (Name × Content)) →
    AllByRecursion (λ x. is_some (find name_cmp x.0 xs) ≡ true) xs
found_each [] = tt
found_each (x ∷ xs) = (
  ap (λ b. is_some (cond b (Some x.1) (find name_cmp x.0 xs))) (name_itself x.0),
  each_with (λ y. is_some (find name_cmp y.0 xs) ≡ true) (λ y. is_some (find name_cmp y.0 (x ∷ xs))
      ≡ true) (λ y h. still_some y.0 x xs h) xs (found_each xs),
)

-- each of them stands among the pairs
named_each : (t : Tree) →
    AllByRecursion (λ x. is_some (find path_cmp (x.0 ∷ []) (entries t)) ≡ true) (children t root)
named_each t =
    each_with (λ x. is_some (find name_cmp x.0 (children t root)) ≡ true)
    (λ x. is_some (find path_cmp (x.0 ∷ []) (entries t)) ≡ true)
    (λ x h. ap is_some (sym (get-entries t (x.0 ∷ [])) ∙ get-children t root x.0) ∙ h)
    (children t root) (found_each (children t root))

-- the name of a pair that stands right in the root
abbrev pub top : Pair → Option (Name × Content)
top pair =
    option_map (λ name. (name, pair.1)) (option_and_then only_name (strip_prefix root pair.0))

abbrev IsOther : Name → (Name × Content) → Type 0
IsOther n x = eq_by_cmp name_cmp n x.0 ≡ false

-- no two of them are one
abbrev AreApart : List (Name × Content) → Type 0
AreApart [] = Unit {0}
AreApart (x ∷ xs) = AllByRecursion (IsOther x.0) xs × AreApart xs

less_apart : (n m : Name) → is_lt (path_cmp (n ∷ []) (m ∷ [])) ≡ true →
    eq_by_cmp name_cmp n m ≡ false
less_apart n m h = by (name_cmp n m) h
  where
    by : (o : Ordering) → is_lt (ordering_then o Equal) ≡ true → is_eq o ≡ false
    by Less e = refl
    by Equal e = absurd (true≢false (sym e))
    by Greater e = refl

others_later : (n : Name) (es : List Pair) → T (below_all path_cmp (n ∷ []) es) →
    AllByRecursion (IsOther n) (filter_map top es)
others_later n [] h = tt
others_later n (([], c) ∷ es) h =
    others_later n es (both_hold (is_lt (path_cmp (n ∷ []) []))
    (below_all path_cmp (n ∷ []) es) h).1
others_later n ((m ∷ [], c) ∷ es) h =
    let both = both_hold (is_lt (path_cmp (n ∷ []) (m ∷ []))) (below_all path_cmp (n ∷ []) es) h in
    (less_apart n m (is_true (is_lt (path_cmp (n ∷ []) (m ∷ []))) both.0), others_later n es both.1)
others_later n ((m ∷ k ∷ q, c) ∷ es) h =
    others_later n es
    (both_hold (is_lt (path_cmp (n ∷ []) (m ∷ k ∷ q))) (below_all path_cmp (n ∷ []) es) h).1

tops_apart : (es : List Pair) → T (is_sorted path_cmp es) → AreApart (filter_map top es)
tops_apart [] h = tt
tops_apart (([], c) ∷ es) h =
    tops_apart es (both_hold (below_all path_cmp [] es) (is_sorted path_cmp es) h).1
tops_apart ((m ∷ [], c) ∷ es) h =
    let both = both_hold (below_all path_cmp (m ∷ []) es) (is_sorted path_cmp es) h in
    (others_later m es both.0, tops_apart es both.1)
tops_apart ((m ∷ k ∷ q, c) ∷ es) h =
    tops_apart es (both_hold (below_all path_cmp (m ∷ k ∷ q) es) (is_sorted path_cmp es) h).1

-- ---- what each pair takes

module _ (cost : Content → ℕ) where
  abbrev taken_by : Pair → ℕ
  taken_by pair = last_name_spelling_length pair.0 + cost pair.1

  -- all of a tree
  abbrev pub measure : Tree → ℕ
  measure t = total taken_by (entries t)

  abbrev if_in : Option Path → ℕ → ℕ
  if_in None n = 0
  if_in (Some rest) n = n

  abbrev in_name : Name → Pair → ℕ
  in_name n pair = if_in (strip_prefix (n ∷ []) pair.0) (taken_by pair)

  abbrev below_root : Pair → ℕ
  below_root ([], content) = 0
  below_root (name ∷ path, content) = last_name_spelling_length (name ∷ path) + cost content

  shorter_name : (m : Name) (k : Path) →
      last_name_spelling_length k ≤ last_name_spelling_length (m ∷ k)
  shorter_name m [] = omega arith
  shorter_name m (x ∷ k) = omega arith

  in_less : (n : Name) (e : Pair) → term taken_by (taken_off (n ∷ []) e) ≤ in_name n e
  in_less n ([], c) = omega arith
  in_less n (m ∷ k, c) = elim (eq_by_cmp name_cmp n m) as
      (λ b. term taken_by (option_map (λ rest. (rest, c)) (if b then Some k else None))
      ≤ if_in (if b then Some k else None) (last_name_spelling_length (m ∷ k) + cost c)) [
        | true ↦ let less = shorter_name m k in omega (arith, less)
        | false ↦ omega arith
      ]

  -- the pair of the name itself takes the name
  at_name : (n : Name) (c : Content) →
      suc (length n) + term taken_by (taken_off (n ∷ []) (n ∷ [], c)) ≤ in_name n (n ∷ [], c)
  at_name n c =
      subst (λ b. suc (length n)
      + term taken_by (option_map (λ rest. (rest, c)) (if b then Some [] else None))
      ≤ if_in (if b then Some [] else None) (last_name_spelling_length (n ∷ []) + cost c))
      (sym (name_itself n)) (omega arith)

  named_less : (n : Name) (es : List Pair) → is_some (find path_cmp (n ∷ []) es) ≡ true →
      suc (length n) + total (λ e. term taken_by (taken_off (n ∷ []) e)) es ≤ total (in_name n) es
  unfolding total
  named_less n [] h = absurd (true≢false (sym h))
  named_less n (e ∷ es) h =
      by (eq_by_cmp path_cmp (n ∷ []) e.0) refl h (λ rest. named_less n es rest)
    where
      by : (b : Bool) → eq_by_cmp path_cmp (n ∷ []) e.0 ≡ b →
          is_some (cond b (Some e.1) (find path_cmp (n ∷ []) es)) ≡ true →
          (is_some (find path_cmp (n ∷ []) es) ≡ true → suc (length n)
          + total (λ e. term taken_by (taken_off (n ∷ []) e)) es ≤ total (in_name n) es) →
          suc (length n) + (term taken_by (taken_off (n ∷ []) e) + total
          (λ e. term taken_by (taken_off (n ∷ []) e)) es) ≤ in_name n e + total (in_name n) es
      by true same h more =
          let first = subst (λ p. suc (length n) + term taken_by (taken_off (n ∷ []) (p, e.1))
          ≤ in_name n (p, e.1)) (same_path (n ∷ []) e.0 same) (at_name n e.1) in
          let rest = total_less (λ e. term taken_by (taken_off (n ∷ []) e)) (in_name n) es
          (each_of (λ e. term taken_by (taken_off (n ∷ []) e) ≤ in_name n e) (in_less n) es) in
          omega (arith, first, rest)
      by false other h more =
          let first = in_less n e in
          let rest = more h in
          omega (arith, first, rest)

  -- a pair is in one name at most
  other_name : (n m : Name) (k : Path) (c : Content) → eq_by_cmp name_cmp n m ≡ false →
      in_name n (m ∷ k, c) ≡ 0
  other_name n m k c other =
      ap (λ b. if_in (if b then Some k else None) (last_name_spelling_length (m ∷ k) + cost c))
      other

  in_one : (e : Pair) (names : List (Name × Content)) → AreApart names →
      total (λ x. in_name x.0 e) names ≤ below_root e
  unfolding total
  in_one ([], c) names h =
      let none = total_none (λ x. in_name x.0 ([], c)) names
      (each_of (λ x. in_name x.0 ([], c) ≡ 0) (λ x. refl) names) in
      omega (arith, none)
  in_one (m ∷ k, c) [] h = omega arith
  in_one (m ∷ k, c) (x ∷ names) h = by (eq_by_cmp name_cmp x.0 m) refl (in_one (m ∷ k, c) names h.1)
    where
      apart : (y : Name × Content) → eq_by_cmp name_cmp x.0 m ≡ true → IsOther x.0 y →
          eq_by_cmp name_cmp y.0 m ≡ false
      apart y same other =
          elim (eq_by_cmp name_cmp y.0 m) as (λ b. eq_by_cmp name_cmp y.0 m ≡ b → b ≡ false) [
            | true ↦ λ too. absurd (true≢false
                (sym (ap (λ z. eq_by_cmp name_cmp x.0 z) (same_name y.0 m too) ∙ same) ∙ other))
            | false ↦ λ _. refl
          ] refl

      by : (b : Bool) → eq_by_cmp name_cmp x.0 m ≡ b →
          total (λ x. in_name x.0 (m ∷ k, c)) names ≤ below_root (m ∷ k, c) →
          in_name x.0 (m ∷ k, c) + total (λ x. in_name x.0 (m ∷ k, c)) names ≤ below_root (m ∷ k, c)
      by true same rest =
          let none = total_none (λ y. in_name y.0 (m ∷ k, c)) names
          (each_with (IsOther x.0) (λ y. in_name y.0 (m ∷ k, c) ≡ 0)
          (λ y other. other_name y.0 m k c (apart y same other)) names h.0) in
          let here : in_name x.0 (m ∷ k, c) ≡ last_name_spelling_length (m ∷ k) + cost c = ap (λ b.
          if_in (if b then Some k else None) (last_name_spelling_length (m ∷ k) + cost c)) same in
          omega (arith, none, here)
      by false other rest = let here = other_name x.0 m k c other in omega (arith, here, rest)

  -- the root's pair takes what stands there
  root_less : (e : Pair) → below_root e ≤ taken_by e
  root_less ([], c) = omega arith
  root_less (m ∷ k, c) = omega arith

  pub with_root : (es : List Pair) (c : Content) → find path_cmp root es ≡ Some c →
      cost c + total below_root es ≤ total taken_by es
  unfolding total
  with_root [] c h = absurd (none-some _ h)
  with_root (([], d) ∷ es) c h =
      let same : d ≡ c = same_Some _ _ h in
      let rest = total_less below_root taken_by es
      (each_of (λ e. below_root e ≤ taken_by e) root_less es) in
      let cost_is = ap cost same in
      omega (arith, rest, cost_is)
  with_root ((m ∷ k, d) ∷ es) c h = let rest = with_root es c h in omega (arith, rest)

  -- a part below takes what its pairs take there
  part_takes : (t : Tree) (n : Name) → is_some (find path_cmp (n ∷ []) (entries t)) ≡ true →
      suc (length n) + measure (subtree t (n ∷ [])) ≤ total (in_name n) (entries t)
  part_takes t n there =
      let is : measure (subtree t (n ∷ []))
      ≡ total (λ e. term taken_by (taken_off (n ∷ []) e)) (entries t) =
      ap (total taken_by) (subtree_entries t (n ∷ []))
      ∙ total_given taken_by (taken_off (n ∷ [])) (entries t) in
      let less = named_less n (entries t) there in
      omega (arith, is, less)

  -- a directory with its entries, where each part below is no longer than its pairs take
  pub directory_takes : (spell : Tree → Bytes) (t : Tree) →
      get t root ≡ Some Directory → ((n : Name) → is_present (subtree t (n ∷ [])) root ≡ true →
      length (spell (subtree t (n ∷ []))) ≤ measure (subtree t (n ∷ []))) →
      cost Directory + length (entries_spelling spell t) ≤ measure t
  directory_takes spell t at_root below =
      let names = children t root in
      let es = entries t in
      let long = spelled_all
      (λ entry. length entry.0 ∷ entry.0 ++ spell (subtree t (entry.0 ∷ []))) names in
      let one = total_less
      (λ entry. length (length entry.0 ∷ entry.0 ++ spell (subtree t (entry.0 ∷ []))))
      (λ entry. total (in_name entry.0) es) names
      (each_with (λ x. is_some (find path_cmp (x.0 ∷ []) es) ≡ true) (λ x. length (length x.0 ∷ x.0
      ++ spell (subtree t (x.0 ∷ []))) ≤ total (in_name x.0) es) each names (named_each t)) in
      let turned = total_turned (λ x e. in_name x.0 e) names es in
      let two = total_less (λ e. total (λ x. in_name x.0 e) names) below_root es
      (each_of (λ e. total (λ x. in_name x.0 e) names ≤ below_root e)
      (λ e. in_one e names (tops_apart es (entries_sorted t))) es) in
      let whole = with_root es Directory (sym (get-entries t root) ∙ at_root) in
      omega (arith, long, one, turned, two, whole)
    where
      each : (x : Name × Content) → is_some (find path_cmp (x.0 ∷ []) (entries t)) ≡ true → length
          (length x.0 ∷ x.0 ++ spell (subtree t (x.0 ∷ []))) ≤ total (in_name x.0) (entries t)
      each x there =
          let present : is_present (subtree t (x.0 ∷ [])) root ≡ true =
          ap is_some (get-subtree t (x.0 ∷ []) root ∙ get-entries t (x.0 ∷ [])) ∙ there in
          let longer = length-append x.0 (spell (subtree t (x.0 ∷ []))) in
          let part = below x.0 present in
          let takes = part_takes t x.0 there in
          omega (arith, longer, part, takes)

-- ---- trees

-- by a spelling of files, where each takes a byte for its kind and what is spelled of it
module _ (file : Contents → Bytes) (cost : Content → ℕ)
    (counts : (c : Contents) → 1 + length (file c) ≤ cost (File c))
    (empty : 3 ≤ cost Directory) where
  spelled_within : (depth : ℕ) (t : Tree) → is_present t root ≡ true →
      length (spelling_within file depth t) ≤ measure cost t
  unfolding spelling_within
  spelled_within zero t there = omega arith
  spelled_within (suc depth) t there =
      by (get t root) refl (λ n. spelled_within depth (subtree t (n ∷ [])))
    where
      by : (o : Option Content) → get t root ≡ o →
          ((n : Name) → is_present (subtree t (n ∷ [])) root ≡ true → length
          (spelling_within file depth (subtree t (n ∷ []))) ≤ measure cost (subtree t (n ∷ []))) →
          length (content_spelling file (spelling_within file depth) t o) ≤ measure cost t
      by None e below = absurd (true≢false (sym there ∙ ap is_some e))
      by (Some (File c)) e below =
          let whole = with_root cost (entries t) (File c) (sym (get-entries t root) ∙ e) in
          let one = counts c in
          omega (arith, whole, one)
      by (Some Directory) e below =
          let whole = directory_takes cost (spelling_within file depth) t e below in
          omega (arith, whole, empty)

-- a tree is spelled by no more bytes than its pairs take
pub spelled_less : (t : Tree) → is_present t root ≡ true →
    length (spelling t) ≤ tree_spelling_length t
spelled_less t there =
    let less = spelled_within contents_spelling content_spelling_length (λ c. omega (
      arith,
      length-append (contents_front c) c.bytes,
    )) (omega arith) (suc (len t)) t there in
    let is = total_is (λ pair. last_name_spelling_length pair.0 + content_spelling_length pair.1)
    (entries t) in
    omega (arith, less, is)

-- ---- marks

-- a kind with a digest, or the count of a directory
abbrev mark_length : Content → ℕ
mark_length Directory = 3
mark_length (File digest) = 3 + length digest.bytes

-- each pair of a map is found in it
not_itself : (p q : Path) → is_lt (path_cmp p q) ≡ true → eq_by_cmp path_cmp q p ≡ false
not_itself p q less =
    elim (eq_by_cmp path_cmp q p) as (λ b. eq_by_cmp path_cmp q p ≡ b → b ≡ false) [
      | true ↦ λ same. absurd (true≢false (sym less ∙ (ap (λ x. is_lt (path_cmp p x))
          (same_path q p same) ∙ equal_not_less (path_cmp p p) (path_itself p))))
      | false ↦ λ _. refl
    ] refl
  where
    equal_not_less : (o : Ordering) → is_eq o ≡ true → is_lt o ≡ false
    equal_not_less Less e = absurd (true≢false (sym e))
    equal_not_less Equal e = refl
    equal_not_less Greater e = refl

found_after : (p : Path) (c : Content) (xs all : List Pair) → T (below_all path_cmp p xs) →
    AllByRecursion (λ e. find path_cmp e.0 all ≡ Some e.1) xs →
    AllByRecursion (λ e. find path_cmp e.0 ((p, c) ∷ all) ≡ Some e.1) xs
found_after p c [] all h found = tt
found_after p c (x ∷ xs) all h found =
    let both = both_hold (is_lt (path_cmp p x.0)) (below_all path_cmp p xs) h in (
      ap (λ b. cond b (Some c) (find path_cmp x.0 all)) (not_itself p x.0
          (is_true (is_lt (path_cmp p x.0)) both.0)) ∙ found.0,
      found_after p c xs all both.1 found.1,
    )

pairs_found : (es : List Pair) → T (is_sorted path_cmp es) →
    AllByRecursion (λ e. find path_cmp e.0 es ≡ Some e.1) es
pairs_found [] h = tt
pairs_found (e ∷ es) h =
    let both = both_hold (below_all path_cmp e.0 es) (is_sorted path_cmp es) h in (
      ap (λ b. cond b (Some e.1) (find path_cmp e.0 es)) (path_itself e.0),
      found_after e.0 e.1 es es both.0 (pairs_found es both.1),
    )

total_same : {X : Type 0} (most : ℕ) (xs : List X) → total (λ x. most) xs ≡ most * length xs
unfolding total
total_same most [] = grind arith
total_same most (x ∷ xs) = let rest = total_same most xs in grind (arith, rest)

-- so a spelling of marks has at most 100 bytes a node: 65 of a name, and 35 of a digest with its
-- kind and its mode
name_takes : (path : Path) → All IsName path → last_name_spelling_length path ≤ 65
name_takes [] h = omega arith
name_takes (name ∷ []) h = let short = (All-head IsName name [] h).not_long in omega (arith, short)
name_takes (name ∷ next ∷ path) h = name_takes (next ∷ path) (All-tail IsName name (next ∷ path) h)

pair_takes : (marks : Tree) → IsMarks marks → (e : Pair) →
    find path_cmp e.0 (entries marks) ≡ Some e.1 → taken_by mark_length e ≤ 100
pair_takes marks is e found =
    let there : get marks e.0 ≡ Some e.1 = get-entries marks e.0 ∙ found in
    let name = name_takes e.0 (is.part.names e.0 (ap is_some there)) in
    let content = by e.1 there in
    omega (arith, name, content)
  where
    by : (c : Content) → get marks e.0 ≡ Some c → mark_length c ≤ 35
    by Directory at = omega arith
    by (File digest) at = let long = is.digests e.0 digest at in omega (arith, long)

pub marks_less : (marks : Tree) → IsMarks marks → is_present marks root ≡ true →
    length (mark_spelling marks) ≤ 100 * len marks
marks_less marks is there =
    let less = spelled_within digest_spelling mark_length (λ c. omega arith) (omega arith)
    (suc (len marks)) marks there in
    let each = total_less (taken_by mark_length) (λ e. 100) (entries marks) (each_with
    (λ e. find path_cmp e.0 (entries marks) ≡ Some e.1) (λ e. taken_by mark_length e ≤ 100)
    (pair_takes marks is) (entries marks) (pairs_found (entries marks) (entries_sorted marks))) in
    let all = total_same 100 (entries marks) in
    let count = len-entries marks in
    omega (arith, less, each, all, count)
