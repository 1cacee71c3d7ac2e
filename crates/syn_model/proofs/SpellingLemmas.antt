-- The spelling of a tree, or of a part of one, tells it.
use Rattle.std.proofs.Common.{◌≡◌, ◌<◌, ◌^◌, ℕ, zero, suc, true, false, List, [], ◌∷◌, ◌++◌, length}
use Rattle.std.proofs.Common.{take, drop, map, flat_map, refl, sym, ap, ap₂, ◌∙◌, subst, Option}
use Rattle.std.proofs.Common.{Some, None, is_some, append_assoc, true≢false, ◌≢◌, arith, cond}
use Rattle.std.specs.Int.{from_be_bytes, to_be_bytes, w16}
use Rattle.std.proofs.lemmas.Nat.{from_be_bytes-to_be_bytes_2}
use Rattle.std.proofs.Math.Seq.{take-append_seam, drop-append_seam}
use Rattle.std.specs.Ordering.{eq_by_cmp}
use Rattle.std.specs.List.{AllByRecursion}
use Rattle.std.specs.FinMap.{find, get, len}
use Rattle.std.proofs.lemmas.Bool.{false_from_ne_true}
use Rattle.std.proofs.lemmas.Option.{none-some, same_Some}
use Rattle.syn_model.specs.Path.{Bytes, Name, Path, name_cmp, root}
use Rattle.syn_model.specs.Contents.{Contents}
use Rattle.syn_model.specs.Tree.{Tree, Content, Directory, File, IsPart, subtree, is_directory}
use Rattle.syn_model.specs.Tree.{is_present}
use Rattle.syn_model.specs.Limits.{children}
use Rattle.syn_model.specs.Spelling.{content_spelling, spelling_within, spelling_by}
use Rattle.syn_model.specs.Laws.{SpellingUnfolds}
use Rattle.syn_model.proofs.PathLemmas.{same_name}
use Rattle.syn_model.proofs.TreeLemmas.{same_tree, get-subtree}
use Rattle.syn_model.proofs.SubtreeLemmas.{subtree_smaller}
use Rattle.syn_model.proofs.HistoryLemmas.{no_file}
use Rattle.syn_model.proofs.SyncLemmas.{directory_is}
use Rattle.syn_model.proofs.QuietLemmas.{nothing_below}
use Rattle.syn_model.proofs.DirectoryLemmas.{not_child, absent_below}

-- ---- bytes

-- lists of one length that go on to one list are one, and so is what follows
pub split : (a b r s : Bytes) → length a ≡ length b → a ++ r ≡ b ++ s → (a ≡ b) × (r ≡ s)
split a b r s l e = (
  sym (take-append_seam a r) ∙ (ap₂ take l e ∙ take-append_seam b s),
  sym (drop-append_seam a r) ∙ (ap₂ drop l e ∙ drop-append_seam b s),
)

abbrev pub first_or : Bytes → ℕ → ℕ
first_or [] d = d
first_or (x ∷ xs) d = x

abbrev pub rest_of : Bytes → Bytes
rest_of [] = []
rest_of (x ∷ xs) = xs

-- ---- parts

-- parts with one content at the root and one part at each name are one
same_part : (t u : Tree) →
    get t root ≡ get u root → ((n : Name) (p : Path) → get t (n ∷ p) ≡ get u (n ∷ p)) → t ≡ u
same_part t u h each = same_tree t u (λ q. at q)
  where
    at : (q : Path) → get t q ≡ get u q
    at [] = h
    at (n ∷ q) = each n q

pub no_directory : (t u : Tree) → IsPart t → IsPart u → get t root ≡ get u root →
    get t root ≢ Some Directory → t ≡ u
no_directory t u ht hu same denied =
    let none : (w : Tree) → get t root ≡ get w root → is_directory w root ≡ false = λ w e.
    false_from_ne_true (is_directory w root) (λ is. denied (e ∙ directory_is (get w root) is)) in
    same_part t u same (λ n p. nothing_below t root n p ht.parents (none t refl)
    ∙ sym (nothing_below u root n p hu.parents (none u same)))

-- ---- the entries of a directory

abbrev named_spelling : (Tree → Bytes) → Tree → Name × Content → Bytes
named_spelling spell t entry = length entry.0 ∷ entry.0 ++ spell (subtree t (entry.0 ∷ []))

pub record SameEntries (t u : Tree) (xs ys : List (Name × Content)) (r s : Bytes) : Type 0 where
  names : map (λ x. x.0) xs ≡ map (λ y. y.0) ys
  parts : AllByRecursion (λ (x : Name × Content). subtree t (x.0 ∷ []) ≡ subtree u (x.0 ∷ [])) xs
  rest : r ≡ s

-- the spellings of parts tell them, whatever follows
abbrev pub Tells : (Tree → Bytes) → (Tree → Bytes) → Tree → Tree → Type 0
Tells f g t u =
    (n m : Name) (r s : Bytes) → f (subtree t (n ∷ [])) ++ r ≡ g (subtree u (m ∷ [])) ++ s →
    (subtree t (n ∷ []) ≡ subtree u (m ∷ [])) × (r ≡ s)

same_entries : (f g : Tree → Bytes) (t u : Tree) →
    Tells f g t u → (xs ys : List (Name × Content)) (r s : Bytes) → length xs ≡ length ys →
    flat_map (named_spelling f t) xs ++ r ≡ flat_map (named_spelling g u) ys ++ s →
    SameEntries t u xs ys r s
same_entries f g t u tells [] [] r s l e = record { names = refl; parts = tt; rest = e }
same_entries f g t u tells [] (y ∷ ys) r s l e = absurd (omega (arith, l))
same_entries f g t u tells (x ∷ xs) [] r s l e = absurd (omega (arith, l))
same_entries f g t u tells (x ∷ xs) (y ∷ ys) r s l e =
    let regroup = λ (h : Tree → Bytes) (w : Tree) (z : Name × Content) (more k : Bytes).
    append_assoc (named_spelling h w z) more k
    ∙ append_assoc (length z.0 ∷ z.0) (h (subtree w (z.0 ∷ []))) (more ++ k) in
    let whole = sym (regroup f t x (flat_map (named_spelling f t) xs) r)
    ∙ (e ∙ regroup g u y (flat_map (named_spelling g u) ys) s) in
    let heads : length x.0 ≡ length y.0 = ap (λ b. first_or b 0) whole in
    let name = split x.0 y.0 _ _ heads (ap rest_of whole) in
    let part = tells x.0 y.0 _ _ name.1 in
    let more = same_entries f g t u tells xs ys r s (omega (arith, l)) part.1 in
    record {
      names = ap₂ (λ n ns. n ∷ ns) name.0 more.names;
      parts = (part.0 ∙ ap (λ n. subtree u (n ∷ [])) (sym name.0), more.parts);
      rest = more.rest;
    }

found_name : (n : Name) (P : Name → Type 0) (xs : List (Name × Content)) →
    AllByRecursion (λ (x : Name × Content). P x.0) xs → is_some (find name_cmp n xs) ≡ true → P n
found_name n P [] h e = absurd (true≢false (sym e))
found_name n P (x ∷ xs) h e =
    elim (eq_by_cmp name_cmp n x.0) as (λ b. eq_by_cmp name_cmp n x.0 ≡ b →
    is_some (cond b (Some x.1) (find name_cmp n xs)) ≡ true → P n) [
      | true ↦ λ same _. subst P (sym (same_name n x.0 same)) h.0
      | false ↦ λ _ k. found_name n P xs h.1 k
    ] refl e

some_by_name : (n : Name) (xs ys : List (Name × Content)) → map (λ x. x.0) xs ≡ map (λ y. y.0) ys →
    is_some (find name_cmp n xs) ≡ is_some (find name_cmp n ys)
some_by_name n [] [] e = refl
some_by_name n [] (y ∷ ys) e = absurd (omega (arith, ap length e))
some_by_name n (x ∷ xs) [] e = absurd (omega (arith, ap length e))
some_by_name n (x ∷ xs) (y ∷ ys) e =
    let more = some_by_name n xs ys (ap rest_names e) in
    ap (λ m. is_some (cond (eq_by_cmp name_cmp n m) (Some x.1) (find name_cmp n xs)))
    (ap (λ ns. first_name ns x.0) e)
    ∙ elim (eq_by_cmp name_cmp n y.0) as (λ b. is_some (cond b (Some x.1) (find name_cmp n xs))
    ≡ is_some (cond b (Some y.1) (find name_cmp n ys))) [ true ↦ refl | false ↦ more ]
  where
    rest_names : List Name → List Name
    rest_names [] = []
    rest_names (n ∷ ns) = ns

    first_name : List Name → Name → Name
    first_name [] d = d
    first_name (n ∷ ns) d = n

-- directories whose entries are the same are one
same_directory : (t u : Tree) (r s : Bytes) → IsPart t → IsPart u → get t root ≡ get u root →
    SameEntries t u (children t root) (children u root) r s → t ≡ u
same_directory t u r s ht hu at_root same =
    same_part t u at_root (λ n p. elim (is_some (find name_cmp n (children t root)))
    as (λ b. is_some (find name_cmp n (children t root)) ≡ b → get t (n ∷ p) ≡ get u (n ∷ p)) [
      | true ↦ λ there. sym (get-subtree t (n ∷ []) p)
          ∙ (ap (λ w. get w p) (found_name n (λ m. subtree t (m ∷ []) ≡ subtree u (m ∷ []))
          (children t root) same.parts there) ∙ get-subtree u (n ∷ []) p)
      | false ↦ λ gone.
          not_there t ht n p gone ∙ sym (not_there u hu n p
          (sym (some_by_name n (children t root) (children u root) same.names) ∙ gone))
    ] refl)
  where
    not_there : (w : Tree) → IsPart w → (n : Name) (p : Path) →
        is_some (find name_cmp n (children w root)) ≡ false → get w (n ∷ p) ≡ None
    not_there w hw n p gone = absent_below w (n ∷ []) hw.parents (not_child w root n gone) p

-- ---- spellings

pub heads_differ : {X : Type 0} (a b : ℕ) (x y : Bytes) → a ≢ b → a ∷ x ≡ b ∷ y → X
heads_differ a b x y denied e = absurd (denied (ap (λ z. first_or z 0) e))

-- trees that a spelling of what a file holds tells: it tells a file at their root, two bytes count
-- the names in them, and what is below them is such a tree again
pub record IsTold (file : Contents → Bytes) (P : Tree → Type 0) : Type 0 where
  pub part : (t : Tree) → P t → IsPart t
  pub below : (t : Tree) (n : Name) → is_present t root ≡ true → P t → P (subtree t (n ∷ []))
  pub few : (t : Tree) → P t → get t root ≡ Some Directory → length (children t root) < 2 ^ 16
  pub tells : (t u : Tree) (c d : Contents) (r s : Bytes) → P t → P u →
      get t root ≡ Some (File c) → get u root ≡ Some (File d) →
      file c ++ r ≡ file d ++ s → (c ≡ d) × (r ≡ s)

module _ (file : Contents → Bytes) (P : Tree → Type 0) (told : IsTold file P) where
  -- one level, where the parts below tell themselves
  level : (f g : Tree → Bytes) (t u : Tree) (r s : Bytes) → P t → P u →
      (get t root ≡ Some Directory → get u root ≡ Some Directory → Tells f g t u) →
      (a b : Option Content) → get t root ≡ a → get u root ≡ b →
      content_spelling file f t a ++ r ≡ content_spelling file g u b ++ s → (t ≡ u) × (r ≡ s)
  level f g t u r s ht hu tells None None a b e = (
    no_directory t u (told.part t ht) (told.part u hu) (a ∙ sym b)
        (λ d. none-some _ (sym a ∙ d)),
    ap rest_of e,
  )
  level f g t u r s ht hu tells None (Some (File d)) a b e =
      heads_differ 0 1 _ _ (λ z. omega (arith, z)) e
  level f g t u r s ht hu tells None (Some Directory) a b e =
      heads_differ 0 2 _ _ (λ z. omega (arith, z)) e
  level f g t u r s ht hu tells (Some (File c)) None a b e =
      heads_differ 1 0 _ _ (λ z. omega (arith, z)) e
  level f g t u r s ht hu tells (Some (File c)) (Some Directory) a b e =
      heads_differ 1 2 _ _ (λ z. omega (arith, z)) e
  level f g t u r s ht hu tells (Some Directory) None a b e =
      heads_differ 2 0 _ _ (λ z. omega (arith, z)) e
  level f g t u r s ht hu tells (Some Directory) (Some (File d)) a b e =
      heads_differ 2 1 _ _ (λ z. omega (arith, z)) e
  level f g t u r s ht hu tells (Some (File c)) (Some (File d)) a b e =
      let same = told.tells t u c d r s ht hu a b (ap rest_of e) in
      let alike : Some (File c) ≡ Some (File d) = ap (λ x. Some (File x)) same.0 in (
        no_directory t u (told.part t ht) (told.part u hu) (a ∙ (alike ∙ sym b))
            (λ k. no_file c (same_Some _ _ (sym k ∙ a))),
        same.1,
      )
  level f g t u r s ht hu tells (Some Directory) (Some Directory) a b e =
      let all = λ (h : Tree → Bytes) (w : Tree). flat_map (named_spelling h w) (children w root) in
      let whole = sym (append_assoc (2 ∷ to_be_bytes w16 (length (children t root))) (all f t) r)
      ∙ (e ∙ append_assoc (2 ∷ to_be_bytes w16 (length (children u root))) (all g u) s) in
      let count = split (to_be_bytes w16 (length (children t root)))
      (to_be_bytes w16 (length (children u root))) _ _ refl (ap rest_of whole) in
      let long = sym (from_be_bytes-to_be_bytes_2 (length (children t root)) (told.few t ht a))
      ∙ (ap (from_be_bytes w16) count.0
      ∙ from_be_bytes-to_be_bytes_2 (length (children u root)) (told.few u hu b)) in
      let same = same_entries f g t u (tells a b) (children t root)
      (children u root) r s long count.1 in (
        same_directory t u r s (told.part t ht) (told.part u hu) (a ∙ sym b) same,
        same.rest,
      )

  told_within : (d k : ℕ) (t u : Tree) (r s : Bytes) → len t < d → len u < k → P t → P u →
      spelling_within file d t ++ r ≡ spelling_within file k u ++ s → (t ≡ u) × (r ≡ s)
  unfolding spelling_within
  told_within zero k t u r s lt lu ht hu e = absurd (omega (arith, lt))
  told_within (suc d) zero t u r s lt lu ht hu e = absurd (omega (arith, lu))
  told_within (suc d) (suc k) t u r s lt lu ht hu e =
      level (spelling_within file d) (spelling_within file k) t u r s ht hu (λ dt du n m r' s' e'.
      let st = subtree_smaller t n [] (ap is_some dt) in
      let su = subtree_smaller u m [] (ap is_some du) in
      told_within d k (subtree t (n ∷ [])) (subtree u (m ∷ [])) r' s' (omega (arith, st, lt))
      (omega (arith, su, lu)) (told.below t n (ap is_some dt) ht)
      (told.below u m (ap is_some du) hu) e')
      (get t root) (get u root) refl refl e

  -- no spelling of such a tree begins another
  pub told_by : (t u : Tree) (r s : Bytes) → P t → P u →
      spelling_by file t ++ r ≡ spelling_by file u ++ s → (t ≡ u) × (r ≡ s)
  told_by t u r s ht hu e =
      told_within (suc (len t)) (suc (len u)) t u r s (omega arith) (omega arith) ht hu e

-- ---- the depth of a spelling

-- parts that are spelled alike make entries that are
alike_entries : (f g : Tree → Bytes) (t : Tree) →
    ((n : Name) → f (subtree t (n ∷ [])) ≡ g (subtree t (n ∷ []))) → (xs : List (Name × Content)) →
    flat_map (named_spelling f t) xs ≡ flat_map (named_spelling g t) xs
alike_entries f g t same [] = refl
alike_entries f g t same (x ∷ xs) =
    ap₂ (λ b more. (length x.0 ∷ x.0 ++ b) ++ more) (same x.0) (alike_entries f g t same xs)

module _ (file : Contents → Bytes) where
  alike_content : (f g : Tree → Bytes) (t : Tree) → (get t root ≡ Some Directory → (n : Name) →
      f (subtree t (n ∷ [])) ≡ g (subtree t (n ∷ []))) → (o : Option Content) → get t root ≡ o →
      content_spelling file f t o ≡ content_spelling file g t o
  alike_content f g t same None e = refl
  alike_content f g t same (Some (File c)) e = refl
  alike_content f g t same (Some Directory) e =
      ap (λ b. 2 ∷ to_be_bytes w16 (length (children t root)) ++ b)
      (alike_entries f g t (same e) (children t root))

  -- a spelling is the same at each depth that is enough
  deep_enough : (d k : ℕ) (t : Tree) → len t < d → len t < k →
      spelling_within file d t ≡ spelling_within file k t
  unfolding spelling_within
  deep_enough zero k t h l = absurd (omega (arith, h))
  deep_enough (suc d) zero t h l = absurd (omega (arith, l))
  deep_enough (suc d) (suc k) t h l =
      alike_content (spelling_within file d) (spelling_within file k) t (λ e n.
      let small = subtree_smaller t n [] (ap is_some e) in
      deep_enough d k (subtree t (n ∷ [])) (omega (arith, small, h)) (omega (arith, small, l)))
      (get t root) refl

  -- so that the spelling of a part is made of those of the parts below its root
  pub unfolds_by : (t : Tree) →
      spelling_by file t ≡ content_spelling file (spelling_by file) t (get t root)
  unfolding spelling_within
  unfolds_by t = alike_content (spelling_within file (len t)) (spelling_by file) t (λ e n.
      let small = subtree_smaller t n [] (ap is_some e) in
      deep_enough (len t) (suc (len (subtree t (n ∷ [])))) (subtree t (n ∷ [])) small (omega arith))
      (get t root) refl

pub spelling_unfolds : SpellingUnfolds
spelling_unfolds file t = unfolds_by file t
