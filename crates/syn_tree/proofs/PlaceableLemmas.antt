-- Parts that keep their own limits below a path, and those that fit nowhere there.
use Rattle.std.proofs.Common.{◌≡◌, ◌≤◌, ◌<◌, ℕ, Bool, true, false, ◌&&◌, nat_le, [], ◌∷◌, ◌++◌}
use Rattle.std.proofs.Common.{length, refl, sym, ap, ap₂, ◌∙◌, subst, All, append-nil, arith}
use Rattle.std.proofs.Math.Bool.{and-false}
use Rattle.std.specs.List.{list_all}
use Rattle.std.specs.FinMap.{entries, len, len-entries}
use Rattle.std.proofs.lemmas.Bool.{and_parts}
use Rattle.std.proofs.lemmas.Bool.Decides.{nat_tests}
use Rattle.std.proofs.lemmas.List.Folds.{list_all-append}
use Rattle.std.proofs.lemmas.List.Elements.{All-append}
use Rattle.std.proofs.lemmas.List.Sums.{sum_by-append}
use Rattle.syn_model.specs.Path.{Path, IsPath, IsName, path_spelling}
use Rattle.syn_model.specs.Tree.{Tree, Content, Pair, Directory, IsTree, at_root, absent, replace}
use Rattle.syn_model.specs.Limits.{fits_part, fits_paths, fits_path, fits_content}
use Rattle.syn_model.specs.Limits.{tree_spelling_length, greatest_spelling}
use Rattle.syn_tree.specs.Contents.{IsLawful}
use Rattle.syn_placed.specs.Pairs.{Pairs, rooted, before, beyond, under, spelling_length}
use Rattle.syn_placed.specs.Pairs.{pair_spelling_length}
use Rattle.syn_tree.specs.Lists.{IsMeasured, IsPlaceable, FitsNowhere}
use Rattle.syn_tree.specs.Change.{ArePlaced, taken_from}
use Rattle.syn_tree.proofs.PartLemmas.{length_under}
use Rattle.syn_placed.proofs.TreeLemmas.{entries-replace, entries-absent}
use Rattle.syn_tree.proofs.FitLemmas.{part-pairs, pair_fits}
use Rattle.syn_tree.proofs.CheckLemmas.{too_long, one_fits, path_fits}
use Rattle.syn_tree.proofs.ChangeLemmas.{under_one, under_none, lawful_part, nothing_part}
use Rattle.syn_tree.proofs.ChangeLemmas.{placed_part, taken_same}

abbrev pub paths_fit : Pairs → Bool
paths_fit es = list_all (λ pair. fits_path pair.0) es

pub nowhere_paths : (at : Path) (u : Tree) → paths_fit (under at (entries u)) ≡ false →
    FitsNowhere at u
nowhere_paths at u h t =
    let es = entries t in
    let fit : Pair → Bool = λ pair. fits_path pair.0 in
    let none : fits_paths (replace t at u) ≡ false =
    ap paths_fit (entries-replace t at u)
    ∙ (list_all-append fit (before at es) (under at (entries u) ++ beyond at es)
    ∙ (ap (λ b. paths_fit (before at es) && b) (list_all-append fit (under at (entries u))
    (beyond at es) ∙ ap (λ b. b && paths_fit (beyond at es)) h)
    ∙ and-false (paths_fit (before at es)))) in
    ap (λ b. (nat_le (len (replace t at u)) 1024 && nat_le (tree_spelling_length (replace t at u))
    greatest_spelling && fits_part (replace t at u)) && b) none
    ∙ and-false (nat_le (len (replace t at u)) 1024 && nat_le
    (tree_spelling_length (replace t at u)) greatest_spelling && fits_part (replace t at u))

more_than : (n : ℕ) → 526336 < n → nat_le n 526336 ≡ false
more_than n h = grind (arith, nat_tests)

last_false : (a b c d : Bool) → b ≡ false → (((a && b) && c) && d) ≡ false
last_false a b c d h = ap (λ x. ((a && x) && c) && d) h ∙ ap (λ x. (x && c) && d) (and-false a)

pub nowhere_size : (at : Path) (u : Tree) (pairs : Pairs) → pairs ≡ under at (entries u) →
    526336 < spelling_length pairs → FitsNowhere at u
nowhere_size at u pairs e h t =
    let es = entries t in
    let all = ap spelling_length (entries-replace t at u) in
    let parts = sum_by-append pair_spelling_length (before at es)
    (under at (entries u) ++ beyond at es) in
    let inner = sum_by-append pair_spelling_length (under at (entries u)) (beyond at es) in
    let large : 526336 < spelling_length (entries (replace t at u)) =
    omega (arith, all, parts, inner, ap spelling_length e, h) in
    last_false (nat_le (len (replace t at u)) 1024)
    (nat_le (tree_spelling_length (replace t at u)) greatest_spelling)
    (fits_part (replace t at u)) (fits_paths (replace t at u))
    (more_than (tree_spelling_length (replace t at u)) large)

pub nowhere_content : (at : Path) (content : Content) → fits_content content ≡ false →
    FitsNowhere at (at_root content)
nowhere_content at content h t = too_long t at content h _ refl

pub placeable_one : (at : Path) (content : Content) (pairs : Pairs) → IsPath at → IsLawful content →
    fits_content content ≡ true → pairs ≡ (at, content) ∷ [] →
    IsPlaceable at (at_root content) pairs
placeable_one at content pairs path lawful fits e = record {
  path = path;
  part = lawful_part content lawful;
  placed = under_one at content pairs e;
  limits = one_fits content fits;
  paths =
      ap paths_fit (sym (under_one at content ((at, content) ∷ []) refl))
      ∙ ap (λ b. b && true) (path_fits at path);
}

pub placeable_none : (at : Path) (pairs : Pairs) → IsPath at → pairs ≡ [] →
    IsPlaceable at absent pairs
placeable_none at pairs path e = record {
  path = path;
  part = nothing_part;
  placed = under_none at pairs e;
  limits = part-pairs absent ∙ ap (λ es. list_all (pair_fits es) es) entries-absent;
  paths = ap (λ es. paths_fit (under at es)) entries-absent;
}

pub placeable_directory : (at : Path) (u : Tree) (below pairs : Pairs) → IsPath at → IsTree u →
    fits_part u ≡ true → rooted below ≡ entries u →
    pairs ≡ ((at, Directory) ∷ []) ++ under at below → paths_fit (under at below) ≡ true →
    IsPlaceable at u pairs
placeable_directory at u below pairs path tree part all e fits = record {
  path = path;
  part = tree.part;
  placed =
      e ∙ (ap (λ p. (p, Directory) ∷ under at below) (sym (append-nil at)) ∙ ap (under at) all);
  limits = part;
  paths =
      ap (λ es. paths_fit (under at es)) (sym all)
      ∙ ap₂ (λ a b. a && b) (ap fits_path (append-nil at) ∙ path_fits at path) fits;
}

pub nowhere_directory : (at : Path) (u : Tree) (below : Pairs) → rooted below ≡ entries u →
    paths_fit (under at below) ≡ false → FitsNowhere at u
nowhere_directory at u below all h =
    nowhere_paths at u (ap (λ es. paths_fit (under at es)) (sym all)
    ∙ (ap (λ b. fits_path (at ++ []) && b) h ∙ and-false (fits_path (at ++ []))))

pub under-append : (at : Path) (xs ys : Pairs) → under at (xs ++ ys) ≡ under at xs ++ under at ys
under-append at [] ys = refl
under-append at (x ∷ xs) ys = ap (λ zs. (at ++ x.0, x.1) ∷ zs) (under-append at xs ys)

pub paths-more : (at : Path) (xs : Pairs) (x : Pair) → paths_fit (under at xs) ≡ true →
    fits_path (at ++ x.0) ≡ true → paths_fit (under at (xs ++ x ∷ [])) ≡ true
paths-more at xs x h k =
    ap paths_fit (under-append at xs (x ∷ []))
    ∙ (list_all-append (λ (pair : Pair). fits_path pair.0) (under at xs) (under at (x ∷ []))
    ∙ ap₂ (λ a b. a && (b && true)) h k)

pub paths-fail : (at : Path) (xs : Pairs) (x : Pair) (ys : Pairs) → fits_path (at ++ x.0) ≡ false →
    paths_fit (under at (xs ++ x ∷ ys)) ≡ false
paths-fail at xs x ys k =
    ap paths_fit (under-append at xs (x ∷ ys))
    ∙ (list_all-append (λ (pair : Pair). fits_path pair.0) (under at xs) (under at (x ∷ ys))
    ∙ (ap (λ b. paths_fit (under at xs) && (b && paths_fit (under at ys))) k
    ∙ and-false (paths_fit (under at xs))))

at_most_names : (n : ℕ) → nat_le n 16 ≡ true → n ≤ 16
at_most_names n h = grind (arith, nat_tests)

at_most_bytes : (n : ℕ) → nat_le n 255 ≡ true → n ≤ 255
at_most_bytes n h = grind (arith, nat_tests)

-- lawful names make a path where they keep its limits
pub fits-path : (p : Path) → All IsName p → fits_path p ≡ true → IsPath p
fits-path p names h =
    let both = and_parts (nat_le (length p) 16) (nat_le (length (path_spelling p)) 255) h in
    record {
      names = names;
      not_deep = at_most_names (length p) both.0;
      not_long = at_most_bytes (length (path_spelling p)) both.1;
    }

pub no_path : (p q : Path) → All IsName p → All IsName q → ¬ IsPath (p ++ q) → (b : Bool) →
    fits_path (p ++ q) ≡ b → b ≡ false
no_path p q h k none true e = absurd (none (fits-path (p ++ q) (All-append IsName p q h k) e))
no_path p q h k none false e = refl

-- what is placed is measured
pub placeable_measured : (at : Path) (u : Tree) (pairs : Pairs) (nodes size : ℕ) →
    IsPlaceable at u pairs → nodes ≡ length pairs → size ≡ spelling_length pairs →
    IsMeasured at u nodes size
placeable_measured at u pairs nodes size is count sizes = record {
  parents = is.part.parents;
  count =
      len-entries u ∙ (sym (length_under at (entries u)) ∙ (sym (ap length is.placed) ∙ sym count));
  spelled = sym (ap spelling_length is.placed) ∙ sym sizes;
  limits = is.limits;
  paths = is.paths;
}

pub placeable_placed : (at at' : Path) (u : Tree) (pairs : Pairs) (size : ℕ) →
    IsPlaceable at u pairs → at' ≡ at → size ≡ spelling_length pairs → ArePlaced at' pairs size
placeable_placed at at' u pairs size is same sizes =
    subst (λ p. ArePlaced p pairs size) (sym same)
    (placed_part at u pairs size is.placed is.path is.part sizes)

pub placeable_new : (at at' : Path) (u : Tree) (pairs : Pairs) → IsPlaceable at u pairs → at' ≡ at →
    taken_from at' pairs ≡ u
placeable_new at at' u pairs is same =
    ap (λ p. taken_from p pairs) same ∙ taken_same at u pairs is.placed
