-- The limits after a change, by what is counted before it.
use Rattle.std.proofs.Common.{◌≡◌, ◌≤◌, ◌+◌, ◌-◌, ℕ, zero, suc, [], ◌∷◌, slice_index_or, Bool, true}
use Rattle.std.proofs.Common.{false, not, ◌==◌, ◌&&◌, ◌||◌, nat_le, nat_lt, length, None, sym, ap}
use Rattle.std.proofs.Common.{ap₂, ◌∙◌, subst, arith}
use Rattle.std.specs.FinMap.{entries, len, len-entries}
use Rattle.std.proofs.lemmas.Bool.{and_parts}
use Rattle.std.proofs.lemmas.Bool.Decides.{nat_tests}
use Rattle.syn_model.specs.Path.{Name, Path, root, is_root, parent}
use Rattle.syn_model.specs.Tree.{Tree, replace, is_present}
use Rattle.syn_model.specs.Limits.{fits_replica, fits_part, fits_paths, tree_spelling_length}
use Rattle.syn_model.specs.Limits.{greatest_spelling, last_name_spelling_length}
use Rattle.syn_model.specs.Refusal.{first_cause}
use Rattle.syn_model.specs.Standing.{place_causes}
use Rattle.syn_placed.specs.Pairs.{Pairs, rooted, tree_with, within, spelling_length}
use Rattle.syn_tree.specs.inner.Kept.{IsKept}
use Rattle.syn_tree.specs.Lists.{IsMeasured}
use Rattle.syn_placed.proofs.RisingLemmas.{rising_of, replaced, counted}
use Rattle.syn_placed.proofs.TreeLemmas.{entries-with}
use Rattle.syn_placed.proofs.CountLemmas.{kids}
use Rattle.syn_placed.proofs.ParentLemmas.{place_free}
use Rattle.syn_tree.proofs.FitLemmas.{fits-replaced, has_room}
use Rattle.syn_tree.proofs.PartLemmas.{present_root, present_within, within_rooted, kids_rooted}
use Rattle.syn_tree.proofs.PartLemmas.{length_replaced, spelling_replaced, spelling_within}
use Rattle.syn_tree.proofs.PartLemmas.{one_less, some_there}
use Rattle.std.proofs.Common.{refl, slice_get, Some, None, ◌-◌, sym, ◌∙◌}
use Rattle.std.proofs.lemmas.Option.{slice_get_within, get_or_from_slice_get, slice_get-get_or}
use Rattle.std.proofs.lemmas.Option.{none-some}

at_most : (n : ℕ) → nat_le n 526336 ≡ true → n ≤ 526336
at_most n h = grind (arith, nat_tests)

pub at_most_nodes : (n : ℕ) → nat_le n 1024 ≡ true → n ≤ 1024
at_most_nodes n h = grind (arith, nat_tests)

-- the size of a tree that keeps the limits
pub kept_size : (ds : Pairs) (s cap : ℕ) → IsKept ds s cap → s ≤ 526336
kept_size ds s cap kept =
    let t = tree_with ds in
    let whole = and_parts (nat_le (len t) 1024 && nat_le (tree_spelling_length t) greatest_spelling
    && fits_part t) (fits_paths t) kept.fits in
    let first = (and_parts (nat_le (len t) 1024
    && nat_le (tree_spelling_length t) greatest_spelling) (fits_part t) whole.0).0 in
    let size = (and_parts (nat_le (len t) 1024)
    (nat_le (tree_spelling_length t) greatest_spelling) first).1 in
    subst (λ n. n ≤ 526336)
    (sym (kept.counted ∙ sym (ap spelling_length (entries-with ds kept.rising))))
    (at_most (tree_spelling_length t) size)

-- the part at a path is counted and spelled within the whole
pub part_count : (ds : Pairs) (s cap : ℕ) (at : Path) → IsKept ds s cap →
    length (within at ds) ≤ length ds
part_count ds s cap at kept =
    let all = counted at ds (rising_of (rooted ds) kept.rising).1 in
    omega (arith, all)

pub part_size : (ds : Pairs) (s cap : ℕ) (at : Path) → IsKept ds s cap → is_root at ≡ false →
    spelling_length (within at ds) ≤ s
part_size ds s cap at kept below =
    let all = spelling_within at (rooted ds) (rising_of (rooted ds) kept.rising) in
    let same = ap spelling_length (within_rooted at ds below) in
    omega (arith, all, same, kept.counted)

-- and so is the part at a path that is free
pub part_within : (ds : Pairs) (s cap : ℕ) (at : Path) (t : Tree) (part : Pairs) →
    IsKept ds s cap → tree_with ds ≡ t → first_cause (place_causes t at) ≡ None →
    part ≡ within at ds → (length part ≤ length ds) × (spelling_length part ≤ s)
part_within ds s cap at t part kept is place same =
    let free = place_free t at place in (
      subst (λ xs. length xs ≤ length ds) (sym same) (part_count ds s cap at kept),
      subst (λ xs. spelling_length xs ≤ s) (sym same) (part_size ds s cap at kept free.0),
    )

pub measured : (ds : Pairs) (s cap : ℕ) (at : Path) (u : Tree) (nodes size count long : ℕ)
    (room : Bool) → IsKept ds s cap → first_cause (place_causes (tree_with ds) at) ≡ None →
    IsMeasured at u nodes size → count ≡ length ds - length (within at ds) + nodes →
    long ≡ s - spelling_length (within at ds) + size → room ≡ (not (length (within at ds) == 0)
    || (not (nat_lt 0 nodes) || nat_lt (kids (parent at) ds) 256)) →
    (nat_le count 1023 && nat_le long 526336 && room) ≡ fits_replica (replace (tree_with ds) at u)
measured ds s cap at u nodes size count long room kept place of counts longs rooms =
    let t = tree_with ds in
    let free = place_free t at place in
    let es = entries-with ds kept.rising in
    let rising = rising_of (rooted ds) kept.rising in
    let inner = within_rooted at ds free.0 in
    let number = length_replaced at (rooted ds) (entries u) rising in
    let many : suc count ≡ length (replaced at (rooted ds) (entries u)) = omega (
      arith,
      number,
      ap length inner,
      counts,
      sym (len-entries u) ∙ of.count,
      part_count ds s cap at kept,
    ) in
    let size_of = spelling_replaced at (rooted ds) (entries u) rising in
    let much : long ≡ spelling_length (replaced at (rooted ds) (entries u)) =
    omega (
      arith,
      size_of,
      ap spelling_length inner,
      longs,
      of.spelled,
      kept.counted,
      part_size ds s cap at kept free.0,
    ) in
    let stands : not (length (within at ds) == 0) ≡ is_present t at =
    some_there (length (within at ds)) ∙ sym (present_within t at kept.tree.part.parents
    ∙ ap (λ xs. nat_lt 0 (length (within at xs))) es ∙ ap (λ xs. nat_lt 0 (length xs)) inner) in
    let put : nat_lt 0 nodes ≡ is_present u root =
    sym (present_root u of.parents ∙ ap (nat_lt 0) (sym (len-entries u) ∙ of.count)) in
    let children : kids (parent at) ds ≡ kids (parent at) (entries t) =
    sym (ap (kids (parent at)) es ∙ kids_rooted (parent at) ds) in
    let roomy : room ≡ has_room t at u = rooms
    ∙ (ap₂ (λ a b. a || (not b || nat_lt (kids (parent at) ds) 256)) stands put
    ∙ ap (λ n. is_present t at || (not (is_present u root) || nat_lt n 256)) children) in
    ap₂ (λ a b. a && b) (ap₂ (λ a b. a && b) (sym (one_less count) ∙ ap (λ n. nat_le n 1024) many)
    (ap (λ n. nat_le n 526336) much)) roomy
    ∙ sym (fits-replaced t at u kept.fits of.limits of.paths free.0 free.1
    ∙ ap (λ xs. nat_le (length (replaced at xs (entries u))) 1024 && nat_le
    (spelling_length (replaced at xs (entries u))) greatest_spelling && has_room t at u) es)

-- the last name is spelled with its length and its bytes
pub last_name-spelled : (path : Path) (name : Name) (k : ℕ) → k + 1 ≡ length path →
    name ≡ slice_index_or path k name → 1 + length name ≡ last_name_spelling_length path
last_name-spelled [] name k long is = absurd (omega arith)
last_name-spelled (n ∷ []) name zero long is = ap (λ x. 1 + length x) is
last_name-spelled (n ∷ []) name (suc k) long is = absurd (omega arith)
last_name-spelled (n ∷ m ∷ path) name zero long is = absurd (omega arith)
last_name-spelled (n ∷ m ∷ path) name (suc k) long is =
    last_name-spelled (m ∷ path) name k (omega arith) is

pub spelled_some : (path : Path) (name : Name) → Some name ≡ slice_get path (length path - 1) →
    1 + length name ≡ last_name_spelling_length path
spelled_some path name is =
    let last = length path - 1 in
    let within = slice_get_within path last name (sym is) in
    last_name-spelled path name last (omega (arith, within))
    (sym (get_or_from_slice_get path last name name (sym is)))

pub spelled_none : (path : Path) → None ≡ slice_get path (length path - 1) →
    0 ≡ last_name_spelling_length path
spelled_none [] is = refl
spelled_none (n ∷ path) is =
    absurd (none-some _ (is ∙ slice_get-get_or (n ∷ path) (length (n ∷ path) - 1) n (omega arith)))
