-- Why an edit is refused, where its place is allowed.
use Rattle.std.proofs.Common.{◌≡◌, ◌≤◌, ◌+◌, ℕ, Bool, true, false, if◌then◌else◌, not, ◌&&◌, ◌||◌}
use Rattle.std.proofs.Common.{nat_le, nat_lt, List, [], ◌∷◌, length, refl, sym, ap, ap₂, ◌∙◌}
use Rattle.std.proofs.Common.{Option, Some, None, is_some, append-nil, true≢false, arith}
use Rattle.std.specs.Prelude.{option_map}
use Rattle.std.specs.List.{list_all}
use Rattle.std.specs.FinMap.{entries, get, get-entries, len, len-entries, find}
use Rattle.std.proofs.lemmas.Bool.{and_parts, not-false}
use Rattle.std.proofs.lemmas.Bool.Decides.{nat_tests}
use Rattle.syn_model.specs.Path.{Bytes, Path, IsPath, root, is_root, parent, path_cmp}
use Rattle.syn_model.specs.Path.{path_spelling, strip_prefix}
use Rattle.syn_model.specs.Tree.{Tree, Content, Directory, HasParents, at_root, absent}
use Rattle.syn_model.specs.Tree.{replace, is_directory, is_present}
use Rattle.syn_model.specs.Event.{Put, MakeDir, Remove, after_edit, part_after}
use Rattle.syn_model.specs.Limits.{fits_replica, fits_part, fits_paths, fits_path, fits_content}
use Rattle.syn_model.specs.Limits.{tree_spelling_length, greatest_spelling}
use Rattle.syn_model.specs.Limits.{last_name_spelling_length, content_spelling_length}
use Rattle.syn_model.specs.Refusal.{Refusal, Root, NoParent, IsDirectory, Exists, Absent, Full}
use Rattle.syn_model.specs.Refusal.{Cause, first_cause}
use Rattle.syn_model.specs.Standing.{edit_refusal, full_causes, place_causes}
use Rattle.syn_model.proofs.PathLemmas.{strip_prefix-append}
use Rattle.syn_model.proofs.HistoryLemmas.{get-at_root, get-below_root, first_cause-none}
use Rattle.syn_model.proofs.TreeLemmas.{within}
use Rattle.syn_placed.specs.Pairs.{under, spelling_length}
use Rattle.syn_tree.specs.Change.{Replacement, IsPreparedFor}
use Rattle.syn_tree.specs.Lists.{IsMeasured, replace_refusal}
use Rattle.syn_placed.proofs.RisingLemmas.{replaced}
use Rattle.syn_placed.proofs.TreeLemmas.{entries-absent, rising-entries}
use Rattle.syn_placed.proofs.CountLemmas.{kids}
use Rattle.syn_tree.proofs.FitLemmas.{part-pairs, pair_fits, all-find, fits-replaced, has_room}
use Rattle.syn_tree.proofs.PartLemmas.{length_replaced, spelling_replaced}
use Rattle.syn_placed.proofs.ParentLemmas.{place_free}
use Rattle.syn_tree.proofs.ChangeLemmas.{under_one, size_one}
use Rattle.syn_model.proofs.RowLemmas.{entries-at_root}

-- only the limits are left of the causes, where the place is allowed and none comes before them
causes : (why : Refusal) (a b c : Bool) (full : List Cause) → a ≡ false → b ≡ true → c ≡ false →
    first_cause ((a, Root) ∷ (not b, NoParent) ∷ (c, why) ∷ full) ≡ first_cause full
causes why a b c full e f g =
    ap (λ x. first_cause ((x, Root) ∷ (not b, NoParent) ∷ (c, why) ∷ full)) e
    ∙ (ap (λ x. first_cause ((not x, NoParent) ∷ (c, why) ∷ full)) f
    ∙ ap (λ x. first_cause ((x, why) ∷ full)) g)

pub make_answer : (t : Tree) (p : Path) → first_cause (place_causes t p) ≡ None →
    is_present t p ≡ false →
    edit_refusal t (MakeDir p) ≡ first_cause (full_causes (replace t p (at_root Directory)))
make_answer t p place other =
    let free = place_free t p place in
    causes Exists (is_root p) (is_directory t (parent p)) (is_present t p)
    (full_causes (replace t p (at_root Directory))) free.0 free.1 other

pub remove_answer : (t : Tree) (p : Path) →
    first_cause (place_causes t p) ≡ None → is_present t p ≡ true →
    edit_refusal t (Remove p) ≡ first_cause (full_causes (replace t p absent))
remove_answer t p place there =
    let free = place_free t p place in
    causes Absent (is_root p) (is_directory t (parent p)) (not (is_present t p))
    (full_causes (replace t p absent)) free.0 free.1 (ap not there)

-- one content alone keeps the limits where it does itself
pub one_parents : (content : Content) → HasParents (at_root content)
one_parents content p n r h =
    absurd (true≢false (sym h ∙ ap is_some (get-below_root content p n r)))

pub path_fits : (q : Path) → IsPath q → fits_path q ≡ true
path_fits q h =
    ap₂ (λ a b. a && b) (deep (length q) h.not_deep) (long (length (path_spelling q)) h.not_long)
  where
    deep : (n : ℕ) → n ≤ 16 → nat_le n 16 ≡ true
    deep n k = grind (arith, nat_tests)

    long : (n : ℕ) → n ≤ 255 → nat_le n 255 ≡ true
    long n k = grind (arith, nat_tests)

pub one_fits_as : (content : Content) (fits : Bool) → fits_content content ≡ fits →
    fits_part (at_root content) ≡ (fits && true) && true
one_fits_as content fits h =
    part-pairs (at_root content) ∙ (ap (λ es. list_all (pair_fits es) es) (entries-at_root content)
    ∙ ap (λ b. (b && true) && true) h)

pub one_fits : (content : Content) → fits_content content ≡ true →
    fits_part (at_root content) ≡ true
one_fits content h = one_fits_as content true h

pub one_path_fits : (content : Content) → fits_paths (at_root content) ≡ true
one_path_fits content = ap (list_all (λ pair. fits_path pair.0)) (entries-at_root content)

pub measured_one : (at : Path) (content : Content) (size : ℕ) → IsPath at →
    fits_content content ≡ true →
    size ≡ last_name_spelling_length at + content_spelling_length content →
    IsMeasured at (at_root content) 1 size
measured_one at content size path fits e = record {
  parents = one_parents content;
  count = len-entries (at_root content) ∙ ap length (entries-at_root content);
  spelled =
      sym (ap spelling_length (under_one at content ((at, content) ∷ []) refl))
      ∙ (sym (size_one at content ((at, content) ∷ []) refl) ∙ sym e);
  limits = one_fits content fits;
  paths =
      ap (list_all (λ pair. fits_path pair.0))
      (sym (under_one at content ((at, content) ∷ []) refl))
      ∙ ap (λ b. b && true) (path_fits at path);
}

-- what is put is there
pub put_there : (t : Tree) (at : Path) (content : Content) →
    get (replace t at (at_root content)) at ≡ Some content
put_there t at content =
    within t at (at_root content) at
    [] (ap (strip_prefix at) (sym (append-nil at)) ∙ strip_prefix-append at [])
    ∙ get-at_root content root

pub too_long : (t : Tree) (at : Path) (content : Content) → fits_content content ≡ false →
    (b : Bool) → fits_replica (replace t at (at_root content)) ≡ b → b ≡ false
too_long t at content h false e = refl
too_long t at content h true e =
    let u = replace t at (at_root content) in
    let whole = and_parts (nat_le (len u) 1024 && nat_le (tree_spelling_length u) greatest_spelling
    && fits_part u) (fits_paths u) e in
    let part = (and_parts (nat_le (len u) 1024 && nat_le (tree_spelling_length u) greatest_spelling)
    (fits_part u) whole.0).1 in
    let here = all-find (pair_fits (entries u)) at content (entries u) (sym (part-pairs u) ∙ part)
    (sym (get-entries u at) ∙ put_there t at content) in
    absurd (true≢false
    (sym (and_parts (fits_content content) (nat_le (kids at (entries u)) 256) here).0 ∙ h))

pub less_nodes : (m n : ℕ) → m ≤ n → nat_le n 1024 ≡ true → nat_le m 1024 ≡ true
less_nodes m n h k = grind (arith, nat_tests)

pub less_size : (m n : ℕ) → m ≤ n → nat_le n 526336 ≡ true → nat_le m 526336 ≡ true
less_size m n h k = grind (arith, nat_tests)

or_true : (b : Bool) → (b || true) ≡ true
or_true true = refl
or_true false = refl

-- what is left of a tree keeps its limits
pub rest_fits : (t : Tree) (at : Path) → fits_replica t ≡ true →
    first_cause (place_causes t at) ≡ None → fits_replica (replace t at absent) ≡ true
rest_fits t at h place =
    let free = place_free t at place in
    let none = entries-absent in
    let whole = and_parts (nat_le (len t) 1024 && nat_le (tree_spelling_length t) greatest_spelling
    && fits_part t) (fits_paths t) h in
    let both = and_parts (nat_le (len t) 1024) (nat_le (tree_spelling_length t) greatest_spelling)
    (and_parts (nat_le (len t) 1024 && nat_le (tree_spelling_length t) greatest_spelling)
    (fits_part t) whole.0).0 in
    let count = length_replaced at (entries t) (entries absent) (rising-entries t) in
    let size = spelling_replaced at (entries t) (entries absent) (rising-entries t) in
    let fewer : length (replaced at (entries t) (entries absent)) ≤ length (entries t) =
    omega (arith, count, ap length none) in
    let smaller : spelling_length (replaced at (entries t) (entries absent)) ≤ spelling_length
    (entries t) = omega (arith, size, ap (λ es. spelling_length (under at es)) none) in
    let room : has_room t at absent ≡ true =
    ap (λ b. is_present t at || (not b || nat_lt (kids (parent at) (entries t)) 256))
    (ap is_some (get-entries absent root ∙ ap (find path_cmp root) none))
    ∙ or_true (is_present t at) in
    fits-replaced t at absent h (part-pairs absent ∙ ap (λ es. list_all (pair_fits es) es) none)
    (ap (λ es. list_all (λ pair. fits_path pair.0) (under at es)) none) free.0 free.1
    ∙ ap₂ (λ a b. a && b)
    (ap₂ (λ a b. a && b) (less_nodes (length (replaced at (entries t) (entries absent)))
    (length (entries t)) fewer (sym (ap (λ n. nat_le n 1024) (len-entries t)) ∙ both.0))
    (less_size (spelling_length (replaced at (entries t) (entries absent)))
    (spelling_length (entries t)) smaller both.1)) room

-- something was found exactly where something is
pub found_present : {X : Type 0} (f : X → Content) (t : Tree) (p : Path) (o : Option X) →
    option_map f o ≡ get t p → is_some o ≡ is_present t p
found_present {X = X} f t p o e = mapped o ∙ ap is_some e
  where
    mapped : (o : Option X) → is_some o ≡ is_some (option_map f o)
    mapped None = refl
    mapped (Some x) = refl

pub replace_answer : (t : Tree) (p : Path) (u : Tree) → first_cause (place_causes t p) ≡ None →
    replace_refusal t p u ≡ (if fits_replica (replace t p u) then None else Some Full)
replace_answer t p u place =
    let free = place_free t p place in
    ap (λ x. if x then Some Root else (if not (is_directory t (parent p)) then Some NoParent
    else (if not (fits_replica (replace t p u)) then Some Full else None))) free.0
    ∙ (ap (λ x. if not x then Some NoParent
    else (if not (fits_replica (replace t p u)) then Some Full else None)) free.1
    ∙ elim (fits_replica (replace t p u)) as (λ x. (if not x then Some Full else None)
    ≡ (if x then None else Some Full)) [ true ↦ refl | false ↦ refl ])

-- a put that is not refused may be made
pub put_prepared : (t : Tree) (p : Path) (b : Bytes) (change : Replacement) →
    edit_refusal t (Put p b) ≡ None → change.at ≡ p → change.new ≡ part_after t (Put p b) →
    IsPreparedFor t change
put_prepared t p b change none at new =
    let full = full_causes (after_edit t (Put p b)) in
    let root = first_cause-none (is_root p, Root) ((not (is_directory t (parent p)), NoParent)
    ∷ (is_directory t p, IsDirectory) ∷ full) none in
    let parents = first_cause-none (not (is_directory t (parent p)), NoParent)
    ((is_directory t p, IsDirectory) ∷ full) root.1 in
    let other = first_cause-none (is_directory t p, IsDirectory) full parents.1 in
    let fits = first_cause-none (not (fits_replica (after_edit t (Put p b))), Full) [] other.1 in
    record {
      below = ap is_root at ∙ root.0;
      parent = ap (λ q. is_directory t (parent q)) at
          ∙ not-false (is_directory t (parent p)) parents.0;
      fits = ap₂ (λ q u. fits_replica (replace t q u)) at new
          ∙ not-false (fits_replica (after_edit t (Put p b))) fits.0;
    }
