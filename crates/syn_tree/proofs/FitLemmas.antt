-- The limits of a tree with a part replaced.
use Rattle.std.proofs.Common.{◌≡◌, ◌≤◌, ◌<◌, ◌+◌, ℕ, Bool, true, false, cond, not, ◌&&◌, ◌||◌}
use Rattle.std.proofs.Common.{nat_le, nat_lt, List, [], ◌∷◌, ◌++◌, length, refl, sym, ap, ap₂, ◌∙◌}
use Rattle.std.proofs.Common.{subst, Option, Some, None, is_some, true≢false, arith}
use Rattle.std.specs.List.{list_all}
use Rattle.std.specs.Ordering.{eq_by_cmp}
use Rattle.std.specs.Cmp.{both_ways}
use Rattle.std.specs.FinMap.{find, entries, get, get-entries, len, len-entries}
use Rattle.std.proofs.lemmas.Bool.{and_parts}
use Rattle.std.proofs.lemmas.Bool.Decides.{nat_tests}
use Rattle.std.proofs.lemmas.List.Folds.{list_all-append}
use Rattle.std.proofs.lemmas.Option.{same_Some}
use Rattle.syn_model.specs.Path.{Path, path_cmp, strip_prefix, is_prefix, is_root, root, parent}
use Rattle.syn_model.specs.Tree.{Tree, Content, Pair, Directory, replace, is_directory}
use Rattle.syn_model.specs.Tree.{is_present}
use Rattle.syn_model.specs.Limits.{children, fits_content, fits_path, fits_part, fits_paths}
use Rattle.syn_model.specs.Limits.{fits_replica, greatest_spelling, tree_spelling_length}
use Rattle.syn_model.proofs.PathLemmas.{same_path}
use Rattle.syn_model.proofs.TreeLemmas.{beside}
use Rattle.syn_placed.specs.Pairs.{Pairs, is_within, before, within, beyond, under, is_child}
use Rattle.syn_placed.specs.Pairs.{spelling_length}
use Rattle.syn_placed.proofs.OrderLemmas.{prefix_step}
use Rattle.syn_placed.proofs.RisingLemmas.{NoneOf, Each, replaced, three_parts}
use Rattle.syn_placed.proofs.RisingLemmas.{before_out, after_out, each-both}
use Rattle.syn_placed.proofs.TreeLemmas.{rising-entries, entries-replace}
use Rattle.syn_placed.proofs.CountLemmas.{kids, length-children, kids-beside, kids-after}
use Rattle.syn_placed.proofs.CountLemmas.{kids-inside, top_of, child_parent, child_of_parent}
use Rattle.syn_model.proofs.BaseLemmas.{and_true, each_with}
use Rattle.syn_model.proofs.SyncLemmas.{directory_is}

-- what a pair has to keep among the others
abbrev pub pair_fits : Pairs → Pair → Bool
pair_fits es pair = fits_content pair.1 && nat_le (kids pair.0 es) 256

all-same : {X : Type 0} (f g : X → Bool) → ((x : X) → f x ≡ g x) → (xs : List X) →
    list_all f xs ≡ list_all g xs
all-same f g e [] = refl
all-same f g e (x ∷ xs) = ap₂ (λ a b. a && b) (e x) (all-same f g e xs)

pub part-pairs : (t : Tree) → fits_part t ≡ list_all (pair_fits (entries t)) (entries t)
part-pairs t =
    all-same (λ pair. fits_content pair.1 && nat_le (length (children t pair.0)) 256)
    (pair_fits (entries t))
    (λ pair. ap (λ n. fits_content pair.1 && nat_le n 256) (length-children t pair.0)) (entries t)

pub each_of : {X : Type 0} (p : X → Bool) (xs : List X) → list_all p xs ≡ true → Each p xs
each_of p [] h = tt
each_of p (x ∷ xs) h = let both = and_parts (p x) (list_all p xs) h in (both.0, each_of p xs both.1)

pub all_of : {X : Type 0} (p : X → Bool) (xs : List X) → Each p xs → list_all p xs ≡ true
all_of p [] h = refl
all_of p (x ∷ xs) h = ap₂ (λ a b. a && b) h.0 (all_of p xs h.1)

-- what holds of each pair holds of what is found
pub all-find : (f : Pair → Bool) (q : Path) (c : Content) (es : Pairs) → list_all f es ≡ true →
    find path_cmp q es ≡ Some c → f (q, c) ≡ true
all-find f q c [] h e = absurd (true≢false (sym (ap is_some e)))
all-find f q c (x ∷ es) h e =
    by_path (eq_by_cmp path_cmp q x.0) refl
    (all-find f q c es (and_parts (f x) (list_all f es) h).1) e
  where
    by_path : (b : Bool) → eq_by_cmp path_cmp q x.0 ≡ b →
        (find path_cmp q es ≡ Some c → f (q, c) ≡ true) →
        cond b (Some x.1) (find path_cmp q es) ≡ Some c → f (q, c) ≡ true
    by_path true same rest is =
        ap₂ (λ p d. f (p, d)) (same_path q x.0 same) (sym (same_Some _ _ is))
        ∙ (and_parts (f x) (list_all f es) h).0
    by_path false same rest is = rest is

-- the parts of a whole pass where it does
parts_pass : (f : Pair → Bool) (t : Tree) (at : Path) → list_all f (entries t) ≡ true →
    (list_all f (before at (entries t)) ≡ true) × (list_all f (beyond at (entries t)) ≡ true)
parts_pass f t at h =
    let es = entries t in
    let first = and_parts (list_all f (before at es)) (list_all f (within at es ++ beyond at es))
    (sym (list_all-append f (before at es) (within at es ++ beyond at es))
    ∙ (ap (list_all f) (sym (three_parts at es (rising-entries t))) ∙ h)) in (
      first.0,
      (and_parts (list_all f (within at es)) (list_all f (beyond at es))
          (sym (list_all-append f (within at es) (beyond at es)) ∙ first.1)).1,
    )

joined : (f : Pair → Bool) (t : Tree) (at : Path) (us : Pairs) →
    list_all f (before at (entries t)) ≡ true → list_all f (under at us) ≡ true →
    list_all f (beyond at (entries t)) ≡ true → list_all f (replaced at (entries t) us) ≡ true
joined f t at us a b c =
    let es = entries t in
    list_all-append f (before at es) (under at us ++ beyond at es) ∙ ap₂ (λ x y. x && y) a
    (list_all-append f (under at us) (beyond at es) ∙ ap₂ (λ x y. x && y) b c)

-- the paths keep their limits
pub paths-replaced : (t : Tree) (at : Path) (us : Pairs) →
    list_all (λ pair. fits_path pair.0) (entries t) ≡ true →
    list_all (λ pair. fits_path pair.0) (under at us) ≡ true →
    list_all (λ pair. fits_path pair.0) (replaced at (entries t) us) ≡ true
paths-replaced t at us h k =
    let parts = parts_pass (λ pair. fits_path pair.0) t at h in
    joined (λ pair. fits_path pair.0) t at us parts.0 k parts.1

within_limit : (n : ℕ) → nat_le n 256 ≡ true → n ≤ 256
within_limit n h = grind (arith, nat_tests)

keeps_limit : (n : ℕ) → n ≤ 256 → nat_le n 256 ≡ true
keeps_limit n h = grind (arith, nat_tests)

below_limit : (n : ℕ) → nat_lt n 256 ≡ true → n < 256
below_limit n h = grind (arith, nat_tests)

has_place : (n : ℕ) → n < 256 → nat_lt n 256 ≡ true
has_place n h = grind (arith, nat_tests)

-- there is a place for what is put, where nothing stood
abbrev pub has_room : Tree → Path → Tree → Bool
has_room t at u =
    is_present t at || (not (is_present u root) || nat_lt (kids (parent at) (entries t)) 256)

-- the numbers of children beside the place
top_less : (a b c : Bool) (n : ℕ) → (a || (not b || nat_lt n 256)) ≡ true → (k m : ℕ) →
    n ≡ k + (cond a (cond c 1 0) 0 + m) → n ≤ 256 → k + (cond b (cond c 1 0) 0 + m) ≤ 256
top_less true true c n room k m e l = subst (λ x. x ≤ 256) e l
top_less true false true n room k m e l = omega (arith, e, l)
top_less true false false n room k m e l = omega (arith, e, l)
top_less false false c n room k m e l = omega (arith, e, l)
top_less false true true n room k m e l = omega (arith, e, below_limit n room)
top_less false true false n room k m e l = omega (arith, e, l)

other_less : (a b : Bool) (n : ℕ) → (k m : ℕ) → n ≡ k + (cond a 0 0 + m) → n ≤ 256 →
    k + (cond b 0 0 + m) ≤ 256
other_less true true n k m e l = omega (arith, e, l)
other_less true false n k m e l = omega (arith, e, l)
other_less false true n k m e l = omega (arith, e, l)
other_less false false n k m e l = omega (arith, e, l)

kids-less : (t : Tree) (at p : Path) (u : Tree) → is_prefix at p ≡ false → has_room t at u ≡ true →
    nat_le (kids p (entries t)) 256 ≡ true →
    nat_le (kids p (replaced at (entries t) (entries u))) 256 ≡ true
kids-less t at p u out room h =
    keeps_limit (kids p (replaced at (entries t) (entries u)))
    (subst (λ n. n ≤ 256) (sym (kids-after t at p u out)) (by_child (is_child p at) refl))
  where
    by_child : (c : Bool) → is_child p at ≡ c → kids p (before at (entries t))
        + (top_of (is_present u root) p at + kids p (beyond at (entries t))) ≤ 256
    by_child true is =
        let same = child_parent p at is in
        top_less (is_present t at) (is_present u root) (is_child p at) (kids p (entries t)) (subst
        (λ q. (is_present t at || (not (is_present u root) || nat_lt (kids q (entries t)) 256))
        ≡ true) same room)
        (kids p (before at (entries t))) (kids p (beyond at (entries t))) (kids-beside t at p out)
        (within_limit (kids p (entries t)) h)
    by_child false is =
        subst (λ b. kids p (before at (entries t))
        + (cond (is_present u root) (cond b 1 0) 0 + kids p (beyond at (entries t))) ≤ 256)
        (sym is)
        (other_less (is_present t at) (is_present u root) (kids p (entries t))
        (kids p (before at (entries t))) (kids p (beyond at (entries t)))
        (kids-beside t at p out ∙ ap (λ b. kids p (before at (entries t))
        + (cond (is_present t at) (cond b 1 0) 0 + kids p (beyond at (entries t)))) is)
        (within_limit (kids p (entries t)) h))

-- with room each file and directory keeps its limits
beside_fits : (t : Tree) (at : Path) (u : Tree) → has_room t at u ≡ true → (xs : Pairs) →
    list_all (pair_fits (entries t)) xs ≡ true → NoneOf (is_within at) xs →
    list_all (pair_fits (replaced at (entries t) (entries u))) xs ≡ true
beside_fits t at u room xs h out =
    all_of (pair_fits (replaced at (entries t) (entries u))) xs
    (each_with (λ x. (pair_fits (entries t) x ≡ true) × (is_within at x ≡ false))
    (λ x. pair_fits (replaced at (entries t) (entries u)) x ≡ true)
    (λ x k. let both = and_parts (fits_content x.1) (nat_le (kids x.0 (entries t)) 256) k.0 in
    ap₂ (λ a b. a && b) both.0 (kids-less t at x.0 u k.1 room both.1))
    xs (each-both (λ x. pair_fits (entries t) x ≡ true) (λ x. is_within at x ≡ false) xs
    (each_of (pair_fits (entries t)) xs h) out))

under_fits : (t : Tree) (at : Path) (u : Tree) (us : Pairs) →
    list_all (pair_fits (entries u)) us ≡ true →
    list_all (pair_fits (replaced at (entries t) (entries u))) (under at us) ≡ true
under_fits t at u [] h = refl
under_fits t at u (x ∷ us) h =
    let first = and_parts (pair_fits (entries u) x) (list_all (pair_fits (entries u)) us) h in
    ap₂ (λ a b. a && b) (ap (λ n. fits_content x.1 && nat_le n 256) (kids-inside t at x.0 u)
    ∙ first.0) (under_fits t at u us first.1)

room_fits : (t : Tree) (at : Path) (u : Tree) → fits_part t ≡ true → fits_part u ≡ true →
    has_room t at u ≡ true → list_all (pair_fits (replaced at (entries t) (entries u)))
    (replaced at (entries t) (entries u)) ≡ true
room_fits t at u h k room =
    let parts = parts_pass (pair_fits (entries t)) t at (sym (part-pairs t) ∙ h) in
    joined (pair_fits (replaced at (entries t) (entries u))) t at (entries u)
    (beside_fits t at u room (before at (entries t)) parts.0 (before_out at (entries t)))
    (under_fits t at u (entries u) (sym (part-pairs u) ∙ k))
    (beside_fits t at u room (beyond at (entries t)) parts.1 (after_out at (entries t)))

-- and without room the directory of the place does not
fits_room : (t : Tree) (at : Path) (u : Tree) → is_root at ≡ false →
    is_prefix at (parent at) ≡ false → get (replace t at u) (parent at) ≡ Some Directory →
    list_all (pair_fits (entries (replace t at u))) (entries (replace t at u)) ≡ true →
    has_room t at u ≡ true
fits_room t at u below out dir h = by_case (is_present t at) (is_present u root) refl refl
  where
    by_case : (a b : Bool) → is_present t at ≡ a → is_present u root ≡ b →
        (a || (not b || nat_lt (kids (parent at) (entries t)) 256)) ≡ true
    by_case true b is is' = refl
    by_case false false is is' = refl
    by_case false true is is' =
        let all = all-find (pair_fits (entries (replace t at u))) (parent at) Directory
        (entries (replace t at u)) h (sym (get-entries (replace t at u) (parent at)) ∙ dir) in
        let limit = within_limit (kids (parent at) (entries (replace t at u))) all in
        let child = child_of_parent at below in
        let after = ap (kids (parent at)) (entries-replace t at u) ∙ (kids-after t at
        (parent at) u out ∙ ap₂ (λ b c. kids (parent at) (before at (entries t))
        + (cond b (cond c 1 0) 0 + kids (parent at) (beyond at (entries t)))) is' child) in
        let earlier = kids-beside t at (parent at) out
        ∙ ap (λ b. kids (parent at) (before at (entries t))
        + (top_of b (parent at) at + kids (parent at) (beyond at (entries t)))) is in
        has_place (kids (parent at) (entries t)) (omega (arith, limit, after, earlier))

prefix_parent : (at : Path) → is_root at ≡ false → is_prefix at (parent at) ≡ false
prefix_parent [] h = absurd (true≢false h)
prefix_parent (n ∷ []) h = refl
prefix_parent (n ∷ m ∷ at) h =
    prefix_step n (m ∷ at) (parent (m ∷ at)) ∙ prefix_parent (m ∷ at) refl

none_of : (at p : Path) → is_prefix at p ≡ false → strip_prefix at p ≡ None
none_of at p h = by_case (strip_prefix at p) h
  where
    by_case : (o : Option Path) → is_some o ≡ false → o ≡ None
    by_case None k = refl
    by_case (Some x) k = absurd (true≢false k)

pub part-replaced : (t : Tree) (at : Path) (u : Tree) → fits_part t ≡ true → fits_part u ≡ true →
    is_root at ≡ false → is_directory t (parent at) ≡ true →
    fits_part (replace t at u) ≡ has_room t at u
part-replaced t at u h k below dir =
    let out = prefix_parent at below in
    let there = beside t at u (parent at) (none_of at (parent at) out)
    ∙ directory_is (get t (parent at)) dir in
    both_ways (fits_part (replace t at u)) (has_room t at u)
    (λ e. fits_room t at u below out there (sym (part-pairs (replace t at u)) ∙ e))
    (λ room. part-pairs (replace t at u) ∙ (ap (λ xs. list_all (pair_fits xs) xs)
    (entries-replace t at u) ∙ room_fits t at u h k room))

-- the limits of the whole
pub fits-replaced : (t : Tree) (at : Path) (u : Tree) → fits_replica t ≡ true → fits_part u ≡ true →
    list_all (λ pair. fits_path pair.0) (under at (entries u)) ≡ true → is_root at ≡ false →
    is_directory t (parent at) ≡ true → fits_replica (replace t at u)
    ≡ (nat_le (length (replaced at (entries t) (entries u))) 1024 && nat_le
    (spelling_length (replaced at (entries t) (entries u))) greatest_spelling && has_room t at u)
fits-replaced t at u h k paths below dir =
    let whole = and_parts (nat_le (len t) 1024 && nat_le (tree_spelling_length t) greatest_spelling
    && fits_part t) (fits_paths t) h in
    let part = (and_parts (nat_le (len t) 1024 && nat_le (tree_spelling_length t) greatest_spelling)
    (fits_part t) whole.0).1 in
    let number = len-entries (replace t at u) ∙ ap length (entries-replace t at u) in
    let size = ap spelling_length (entries-replace t at u) in
    let names = ap (list_all (λ pair. fits_path pair.0)) (entries-replace t at u)
    ∙ paths-replaced t at (entries u) whole.1 paths in
    ap₂ (λ a b. a && b)
    (ap₂ (λ a b. a && b) (ap₂ (λ m n. nat_le m 1024 && nat_le n greatest_spelling) number size)
    (part-replaced t at u part k below dir)) names
    ∙ and_true (nat_le (length (replaced at (entries t) (entries u))) 1024 && nat_le
    (spelling_length (replaced at (entries t) (entries u))) greatest_spelling && has_room t at u)
