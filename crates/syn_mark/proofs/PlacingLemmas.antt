-- Entries that were looked at one by one are marks, and marks pass.
use Rattle.std.proofs.Common.{◌≡◌, ◌≤◌, ◌<◌, ℕ, true, false, ◌&&◌, nat_le, [], ◌∷◌, ◌++◌, ◌-◌, ◌==◌}
use Rattle.std.proofs.Common.{suc, length, take, drop, slice_index_or, refl, sym, ap, ap₂, ◌∙◌}
use Rattle.std.proofs.Common.{subst, Some, is_some, IsSome, Less, true≢false, arith}
use Rattle.std.specs.List.{list_all}
use Rattle.std.specs.FinMap.{find, get, len, len-entries}
use Rattle.std.proofs.Math.Seq.{take-length}
use Rattle.std.proofs.lemmas.Bool.{and_parts}
use Rattle.std.proofs.lemmas.Bool.Decides.{nat_tests}
use Rattle.std.proofs.lemmas.Option.{same_Some}
use Rattle.syn_model.specs.Path.{Path, path_cmp, root, is_root, parent}
use Rattle.syn_model.specs.Tree.{Content, Pair, Directory, File, is_directory_content, IsTree}
use Rattle.syn_model.specs.Limits.{fits_path, fits_paths}
use Rattle.syn_tree.specs.Contents.{IsLawful}
use Rattle.syn_placed.specs.Pairs.{Pairs, rooted, AreRising}
use Rattle.syn_tree.specs.Entries.{IsLawfulPair}
use Rattle.syn_placed.proofs.RisingLemmas.{rising_of, each-both}
use Rattle.syn_placed.proofs.CountLemmas.{no_root, child_is, child_of_parent}
use Rattle.syn_tree.proofs.FitLemmas.{all_of, each_of}
use Rattle.syn_placed.proofs.TreeLemmas.{get-with, entries-with}
use Rattle.syn_tree.proofs.CheckLemmas.{path_fits}
use Rattle.syn_tree.proofs.LawfulLemmas.{each-find, each_found, below_root, closed_by, lawful_tree}
use Rattle.syn_mark.specs.Marks.{marks_with, AreMarks, AreMarkPairs, IsMarkPair}
use Rattle.syn_mark.specs.Marks.{IsDigestOrDirectory}
use Rattle.syn_mark.specs.Placings.{stands_in}
use Rattle.syn_mark.proofs.MarkLemmas.{entries_of, get_of}
use Rattle.syn_model.proofs.BaseLemmas.{each_with}

lawful_of : (c : Content) → IsDigestOrDirectory c → IsLawful c
lawful_of Directory h = tt
lawful_of (File contents) h = h.0

few : (n : ℕ) → n ≤ 4096 → nat_le n 4096 ≡ true
few n h = grind (arith, nat_tests)

-- below a root directory
pub placed_marks : (below : Pairs) → AreRising (rooted below) →
    list_all (stands_in below) below ≡ true → AreMarkPairs below → length (rooted below) ≤ 4096 →
    AreMarks (rooted below)
placed_marks below rising stand lawful count =
    let tree : IsTree (marks_with (rooted below)) =
    lawful_tree below rising (closed_by below rising (each_of (stands_in below) below stand))
    (each_with IsMarkPair IsLawfulPair (λ e k. (k.0, lawful_of e.1 k.1)) below lawful) in
    let all = entries-with below rising in
    record {
      rising = rising;
      present = ap is_some tree.rooted;
      marks = record {
        part = tree.part;
        digests =
            λ path contents found. (each-find (λ q c. IsDigestOrDirectory c) path (File contents)
            (rooted below) (
              tt,
              each_with IsMarkPair (λ e. IsDigestOrDirectory e.1)
                  (λ e k. k.1) below lawful,
            ) (sym (get-with below path rising) ∙ found)).1;
      };
      fits =
          ap₂ (λ n es. nat_le n 4096 && list_all (λ (pair : Pair). fits_path pair.0) es)
          (len-entries (marks_with (rooted below)) ∙ ap length all) all
          ∙ ap₂ (λ a b. a && b) (few (length (rooted below)) count)
          (all_of (λ pair. fits_path pair.0) below (each_with IsMarkPair
          (λ e. fits_path e.0 ≡ true) (λ e k. path_fits e.0 k.0) below lawful));
    }

-- ---- marks pass

pub some_first : AreMarks [] → ⊥
some_first h = true≢false (sym h.present ∙ ap is_some (get_of [] root h))

root_of : (p : Path) → is_root p ≡ true → p ≡ root
root_of [] h = refl
root_of (n ∷ p) h = absurd (true≢false (sym h))

pub first_root : (first : Pair) (below : Pairs) → AreMarks (first ∷ below) →
    is_root first.0 ≡ false → ⊥
first_root ([], c) below h k = true≢false k
first_root ((n ∷ r), c) below h k =
    true≢false (sym h.present ∙ (ap is_some (get_of ((n ∷ r, c) ∷ below) root h)
    ∙ ap is_some (no_root n r below (rising_of ((n ∷ r, c) ∷ below) h.rising).0)))

many : (n : ℕ) → 4096 < n → nat_le n 4096 ≡ false
many n h = grind (arith, nat_tests)

pub not_many : (ds : Pairs) → AreMarks ds → 4096 < length ds → ⊥
not_many ds h l =
    let both = and_parts (nat_le (len (marks_with ds)) 4096) (fits_paths (marks_with ds)) h.fits in
    true≢false (sym both.0 ∙ (ap (λ n. nat_le n 4096)
    (len-entries (marks_with ds) ∙ ap length (entries_of ds h)) ∙ many (length ds) l))

-- where something is below the root, it is a directory
pub root_directory : (c : Content) (x : Pair) (more : Pairs) → AreMarks ((root, c) ∷ x ∷ more) →
    c ≡ Directory
root_directory c ([], d) more h =
    absurd (true≢false (below_root [] (rising_of ((root, c) ∷ ([], d) ∷ more) h.rising).0.0))
root_directory c (n ∷ r, d) more h =
    let ds = (root, c) ∷ (n ∷ r, d) ∷ more in
    let found = (each_found ds (rising_of ds h.rising)).1.0 in
    let up = h.marks.part.parents root n r (ap is_some (get_of ds (n ∷ r) h ∙ found)) in
    same_Some _ _ (sym (get_of ds root h) ∙ up)

pub marks_placed : (below : Pairs) → AreMarks (rooted below) →
    list_all (stands_in below) below ≡ true
marks_placed below h =
    let rising = rising_of (rooted below) h.rising in
    all_of (stands_in below) below
    (each_with (λ e. (path_cmp root e.0 ≡ Less) × (find path_cmp e.0 (rooted below) ≡ Some e.1))
    (λ e. stands_in below e ≡ true) (λ e k. one e k.0 k.1) below
    (each-both (λ e. path_cmp root e.0 ≡ Less) (λ e. find path_cmp e.0 (rooted below) ≡ Some e.1)
    below rising.0 (each_found (rooted below) rising).1))
  where
    one : (e : Pair) → path_cmp root e.0 ≡ Less → find path_cmp e.0 (rooted below) ≡ Some e.1 →
        stands_in below e ≡ true
    one e low there =
        let split = child_is (parent e.0) e.0 (child_of_parent e.0 (below_root e.0 low)) in
        let some : IsSome (get (marks_with (rooted below)) (parent e.0 ++ split.0 ∷ [])) =
        ap is_some (ap (get (marks_with (rooted below))) (sym split.1)
        ∙ (get_of (rooted below) e.0 h ∙ there)) in
        ap is_directory_content (sym (get_of (rooted below) (parent e.0) h)
        ∙ h.marks.part.parents (parent e.0) split.0 [] some)

-- ---- the first entry and the others

headed : (part : Pairs) (first : Pair) → 1 ≤ length part → first ≡ slice_index_or part 0 first →
    part ≡ first ∷ drop 1 part
headed [] first l is = absurd (omega (arith, l))
headed (x ∷ part) first l is = ap (λ y. y ∷ part) (sym is)

rest_of : (part : Pairs) → 1 ≤ length part → take (length part - 1) (drop 1 part) ≡ drop 1 part
rest_of [] l = absurd (omega (arith, l))
rest_of (x ∷ part) l =
    let size : length (x ∷ part) - 1 ≡ length part = omega arith in
    ap (λ n. take n part) size ∙ take-length part

abbrev pub others : Pairs → Pairs
others part = take (length part - 1) (drop 1 part)

pub items_are : (ds part : Pairs) (first : Pair) → part ≡ ds → 1 ≤ length part →
    first ≡ slice_index_or part 0 first → ds ≡ first ∷ others part
items_are ds part first same l is =
    sym same ∙ (headed part first l is ∙ ap (λ xs. first ∷ xs) (sym (rest_of part l)))

pub none_of : (part : Pairs) → length part < 1 → part ≡ []
none_of [] l = refl
none_of (x ∷ part) l = absurd (omega (arith, l))

pub empty_of : (part : Pairs) → (length part == 0) ≡ true → part ≡ []
empty_of [] h = refl
empty_of (x ∷ part) h = absurd (true≢false (sym h ∙ not_zero (length part)))
  where
    not_zero : (n : ℕ) → (suc n == 0) ≡ false
    not_zero n = grind (arith, nat_tests)

-- the entry at the root is its mark
pub rooted_is : (first : Pair) → is_root first.0 ≡ true → first ≡ (root, first.1)
rooted_is first h = ap (λ p. (p, first.1)) (root_of first.0 h)

directory_of : (c : Content) → is_directory_content (Some c) ≡ true → c ≡ Directory
directory_of Directory h = refl
directory_of (File contents) h = absurd (true≢false (sym h))

pub rooted_directory : (first : Pair) → is_root first.0 ≡ true →
    is_directory_content (Some first.1) ≡ true → first ≡ (root, Directory)
rooted_directory first h k =
    ap₂ (λ (p : Path) (c : Content). (p, c)) (root_of first.0 h) (directory_of first.1 k)

-- no marks have something below a file
pub not_below_file : (first : Pair) (below : Pairs) → is_root first.0 ≡ true →
    (length below == 0) ≡ false → is_directory_content (Some first.1) ≡ false →
    ¬ AreMarks (first ∷ below)
not_below_file first [] h some file marks = absurd (true≢false some)
not_below_file first (x ∷ more) h some file marks =
    absurd (true≢false (sym (ap (λ c. is_directory_content (Some c)) (root_directory first.1 x more
    (subst (λ e. AreMarks (e ∷ x ∷ more)) (rooted_is first h) marks))) ∙ file))
