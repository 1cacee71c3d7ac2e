-- Marks with a part replaced.
use Rattle.std.proofs.Common.{◌≡◌, ◌≤◌, ◌<◌, ◌+◌, ℕ, Bool, true, false, ◌&&◌, nat_le, [], ◌∷◌, ◌++◌}
use Rattle.std.proofs.Common.{length, length-append, refl, sym, ap, ap₂, ◌∙◌, subst, Option, Some}
use Rattle.std.proofs.Common.{None, is_some, inr, true≢false, if◌then◌else◌, not, arith, nat_lt}
use Rattle.std.proofs.Common.{◌-◌, append-nil}
use Rattle.std.specs.List.{list_all}
use Rattle.std.specs.Option.{option_map_or}
use Rattle.std.specs.FinMap.{entries, get, get-empty, len, len-entries}
use Rattle.std.proofs.lemmas.Bool.{and_parts, leb-true}
use Rattle.std.proofs.lemmas.Bool.Decides.{nat_tests}
use Rattle.std.proofs.lemmas.List.Folds.{list_all-append}
use Rattle.std.proofs.lemmas.Option.{none-some}
use Rattle.syn_model.specs.Path.{Path, path_cmp, root, is_root, parent, strip_prefix, IsPath}
use Rattle.syn_model.specs.Tree.{Tree, Pair, replace, absent, is_present}
use Rattle.syn_model.specs.Tree.{is_directory, Directory, empty_directory}
use Rattle.syn_model.specs.Mark.{IsMarks}
use Rattle.syn_model.specs.Laws.{ReplacedIsThere, SubtreeFitsPaths}
use Rattle.syn_model.specs.Limits.{fits_archive, fits_path, fits_paths}
use Rattle.syn_model.specs.Refusal.{Refusal, Root, NoParent, Full}
use Rattle.syn_model.proofs.TreeLemmas.{get-replace, replace-is_part}
use Rattle.syn_placed.specs.Pairs.{Pairs, within, before, beyond, under}
use Rattle.syn_tree.specs.Change.{taken_from}
use Rattle.syn_placed.proofs.RisingLemmas.{replaced, three_parts, counted, rising_of}
use Rattle.syn_placed.proofs.TreeLemmas.{entries-replace, entries-absent, rising-entries}
use Rattle.syn_tree.proofs.PartLemmas.{length_replaced, length_under}
use Rattle.syn_tree.proofs.CheckLemmas.{path_fits}
use Rattle.syn_tree.proofs.ChangeLemmas.{nothing_part, taken_same}
use Rattle.syn_mark.specs.Marks.{AreMarks}
use Rattle.syn_mark.specs.Changes.{Replacement, ArePlaced, IsPreparedFor, PutPartFits, after_change}
use Rattle.syn_mark.specs.Changes.{replace_refusal}
use Rattle.syn_mark.specs.inner.Spaces.{IsSpaced}
use Rattle.syn_mark.proofs.MarkLemmas.{are_marks}
use Rattle.syn_model.proofs.BaseLemmas.{and_true}
use Rattle.syn_model.proofs.RowLemmas.{entries-at_root}
use Rattle.syn_model.proofs.ArchiveImageLemmas.{replaced_marks}
use Rattle.syn_model.proofs.SyncLemmas.{directory_is}

abbrev pub paths_fit : Pairs → Bool
paths_fit es = list_all (λ pair. fits_path pair.0) es

true_and : (a b : Bool) → a ≡ true → (a && b) ≡ b
true_and a b h = ap (λ x. x && b) h

-- the paths that stay keep their limits, so those that are put decide
paths_replaced : (t : Tree) (at : Path) (us : Pairs) → fits_paths t ≡ true →
    paths_fit (replaced at (entries t) us) ≡ paths_fit (under at us)
paths_replaced t at us h =
    let f = λ (pair : Pair). fits_path pair.0 in
    let es = entries t in
    let whole = sym (list_all-append f (before at es) (within at es ++ beyond at es))
    ∙ (ap (list_all f) (sym (three_parts at es (rising-entries t))) ∙ h) in
    let first = and_parts (paths_fit (before at es))
    (paths_fit (within at es ++ beyond at es)) whole in
    let last = (and_parts (paths_fit (within at es)) (paths_fit (beyond at es))
    (sym (list_all-append f (within at es) (beyond at es)) ∙ first.1)).1 in
    list_all-append f (before at es) (under at us ++ beyond at es)
    ∙ (true_and (paths_fit (before at es)) (paths_fit (under at us ++ beyond at es)) first.0
    ∙ (list_all-append f (under at us) (beyond at es)
    ∙ (ap (λ b. paths_fit (under at us) && b) last ∙ and_true (paths_fit (under at us)))))

pub fits_replaced : (t : Tree) (at : Path) (u : Tree) (count : ℕ) → fits_archive t ≡ true →
    count + length (within at (entries t)) ≡ len t + len u →
    fits_archive (replace t at u) ≡ (nat_le count 4096 && paths_fit (under at (entries u)))
fits_replaced t at u count fits counts =
    let both = and_parts (nat_le (len t) 4096) (fits_paths t) fits in
    let es = entries t in
    let lengths = length_replaced at es (entries u) (rising-entries t) in
    let number : len (replace t at u) ≡ count = omega (
      arith,
      len-entries (replace t at u),
      ap length (entries-replace t at u),
      lengths,
      counts,
      len-entries t,
      len-entries u,
    ) in
    ap₂ (λ n b. nat_le n 4096 && b) number
    (ap paths_fit (entries-replace t at u) ∙ paths_replaced t at (entries u) both.1)

-- ---- marks put into marks

pub nothing_marks : IsMarks absent
nothing_marks = record {
  part = nothing_part;
  digests = λ path contents found. absurd (none-some _ (sym (none path) ∙ found));
}
  where
    none : (path : Path) → get absent path ≡ None
    none path = get-empty path_cmp path

not_below : (p : Path) → is_root p ≡ false → strip_prefix p root ≡ None
not_below [] h = absurd (true≢false h)
not_below (n ∷ p) h = refl

module _ (t : Tree) (change : Replacement) (ds added : Pairs) (same : ds ≡ entries t)
    (present : is_present t root ≡ true) (marks : IsMarks t)
    (ready : IsPreparedFor t change) (placed : ArePlaced change.at change.new added) where
  abbrev pub Made : Pairs → Type 0
  Made items = items ≡ before change.at ds ++ (added ++ beyond change.at ds)

  pub made_entries : (items : Pairs) → Made items → items ≡ entries (after_change t change)
  made_entries items is =
      is ∙ (ap₂ (λ es us. before change.at es ++ (us ++ beyond change.at es)) same placed.placed
      ∙ sym (entries-replace t change.at change.new))

  pub made_marks : (items : Pairs) → Made items → AreMarks items
  made_marks items is =
      let u = after_change t change in
      let part = replace-is_part t change.at change.new marks.part placed.marks.part
      (inr (directory_is (get t (parent change.at)) ready.parent)) placed.path.names in
      are_marks u items (made_entries items is)
      (ap is_some (get-replace t change.at change.new root ∙ ap (λ o. option_map_or
      (λ rest. get change.new rest) o (get t root)) (not_below change.at ready.below)) ∙ present)
      (replaced_marks t change.at change.new part marks placed.marks) ready.fits

  -- there is room for it
  pub made_room : length (before change.at ds) + length (beyond change.at ds) + length added
      ≤ change.room
  made_room =
      let count = counted change.at (entries t) (rising-entries t) in
      omega (
        arith,
        ready.room,
        len-entries t,
        len-entries change.new,
        ap length placed.placed,
        length_under change.at (entries change.new),
        count,
        ap (λ es. length (before change.at es)) same,
        ap (λ es. length (beyond change.at es)) same,
      )

-- ---- what is allowed

pub allowed_parts : (t : Tree) (p : Path) (u : Tree) →
    replace_refusal t p u ≡ None → (is_root p ≡ false)
    × ((is_directory t (parent p) ≡ true) × (fits_archive (replace t p u) ≡ true))
allowed_parts t p u h =
    by (is_root p) (is_directory t (parent p)) (fits_archive (replace t p u)) refl refl refl
  where
    asked : (a b c : Bool) → Option Refusal
    asked a b c =
        if a then Some Root
        else (if not b then Some NoParent else (if not c then Some Full else None))

    by : (a b c : Bool) → is_root p ≡ a → is_directory t (parent p) ≡ b →
        fits_archive (replace t p u) ≡ c → (is_root p ≡ false)
        × ((is_directory t (parent p) ≡ true) × (fits_archive (replace t p u) ≡ true))
    by false true true e f g = (e, (f, g))
    by true b c e f g =
        absurd (none-some _ (sym h
        ∙ ap (λ x. if x then Some Root else (if not (is_directory t (parent p)) then Some NoParent
        else (if not (fits_archive (replace t p u)) then Some Full else None))) e))
    by false false c e f g =
        absurd (none-some _
        (sym h ∙ (ap (λ x. if x then Some Root else (if not (is_directory t (parent p)) then Some
        NoParent else (if not (fits_archive (replace t p u)) then Some Full else None))) e
        ∙ ap (λ x. if not x then Some NoParent
        else (if not (fits_archive (replace t p u)) then Some Full else None)) f)))
    by false true false e f g =
        absurd (none-some _
        (sym h ∙ (ap (λ x. if x then Some Root else (if not (is_directory t (parent p)) then Some
        NoParent else (if not (fits_archive (replace t p u)) then Some Full else None))) e
        ∙ (ap (λ x. if not x then Some NoParent else (if not (fits_archive (replace t p u))
        then Some Full else None)) f ∙ ap (λ x. if not x then Some Full else None) g))))

-- the paths that are put keep their limits
pub allowed_paths : (t : Tree) (p : Path) (u : Tree) → fits_archive t ≡ true →
    replace_refusal t p u ≡ None → paths_fit (under p (entries u)) ≡ true
allowed_paths t p u fits h =
    let paths = (and_parts (nat_le (len t) 4096) (fits_paths t) fits).1 in
    let after = (and_parts (nat_le (len (replace t p u)) 4096) (fits_paths (replace t p u))
    (allowed_parts t p u h).1.1).1 in
    sym (ap paths_fit (entries-replace t p u) ∙ paths_replaced t p (entries u) paths) ∙ after

pub spaced_of : (at at' : Path) (u : Tree) (added space : Pairs) → at' ≡ at → IsPath at →
    IsMarks u → added ≡ under at (entries u) → space ≡ [] → IsSpaced at' added space
spaced_of at at' u added space same path marks e empty =
    let taken = ap (λ p. taken_from p added) same ∙ taken_same at u added e in
    record {
      placed = record {
        path = subst IsPath (sym same) path;
        marks = subst IsMarks (sym taken) marks;
        placed = e ∙ ap₂ (λ p w. under p (entries w)) (sym same) (sym taken);
      };
      empty = empty;
    }

pub placed_change : (at : Path) (added space : Pairs) (change : Replacement) → at ≡ change.at →
    taken_from at added ≡ change.new → IsSpaced at added space →
    ArePlaced change.at change.new added
placed_change at added space change e f h =
    subst (λ w. ArePlaced change.at w added) f
    (subst (λ p. ArePlaced p (taken_from at added) added) e h.placed)

pub under_all : (at : Path) (es : Pairs) →
    paths_fit (under at es) ≡ list_all (λ (pair : Pair). fits_path (at ++ pair.0)) es
under_all at [] = refl
under_all at (e ∷ es) = ap (λ b. fits_path (at ++ e.0) && b) (under_all at es)

pub none_under : (at : Path) → [] ≡ under at (entries absent)
none_under at = sym (ap (under at) entries-absent)

-- the limits by what is counted before the change
pub fits_count : (t u : Tree) (at : Path) (ds us : Pairs) (count : ℕ) → ds ≡ entries t →
    us ≡ entries u → fits_archive t ≡ true → count + length (within at ds) ≡ length ds + length us →
    fits_archive (replace t at u) ≡ (nat_le count 4096 && paths_fit (under at us))
fits_count t u at ds us count e f fits counts =
    fits_replaced t at u count fits (omega (
      arith,
      counts,
      len-entries t,
      len-entries u,
      ap length e,
      ap length f,
      ap (λ xs. length (within at xs)) e,
    ))
    ∙ ap (λ xs. nat_le count 4096 && paths_fit (under at xs)) (sym f)

few : (n : ℕ) → n ≤ 4096 → nat_le n 4096 ≡ true
few n h = grind (arith, nat_tests)

many : (n : ℕ) → 4096 < n → nat_le n 4096 ≡ false
many n h = grind (arith, nat_tests)

pub fits_none : (t : Tree) (at : Path) (ds : Pairs) (count : ℕ) → ds ≡ entries t →
    fits_archive t ≡ true → count + length (within at ds) ≡ length ds →
    nat_le count 4096 ≡ fits_archive (replace t at absent)
fits_none t at ds count e fits counts =
    sym (fits_count t absent at ds [] count e (sym entries-absent) fits (omega (arith, counts))
    ∙ and_true (nat_le count 4096))

pub fits_some : (whole parts paths : Bool) (count : ℕ) → whole ≡ (nat_le count 4096 && parts) →
    count ≤ 4096 → paths ≡ parts → paths ≡ whole
fits_some whole parts paths count limits l p =
    p ∙ sym (limits ∙ ap (λ b. b && parts) (few count l))

pub fits_not : (whole parts : Bool) (count : ℕ) → whole ≡ (nat_le count 4096 && parts) →
    4096 < count → nat_le count 4096 ≡ whole
fits_not whole parts count limits l =
    many count l ∙ sym (limits ∙ ap (λ b. b && parts) (many count l))

-- the part that is replaced is counted among the entries
pub part_counted : (at : Path) (ds part : Pairs) (count : ℕ) → AreMarks ds →
    part ≡ within at ds → count ≡ length ds →
    (length part ≤ count) × (count - length part + length (within at ds) ≡ length ds)
part_counted at ds part count marks is all =
    let counts = counted at ds (rising_of ds marks.rising) in
    (omega (arith, ap length is, counts, all), omega (arith, ap length is, counts, all))

-- what is put keeps the limits by itself
pub put_part_fits : ReplacedIsThere → SubtreeFitsPaths → PutPartFits
put_part_fits there below t at u fits =
    let both = and_parts (nat_le (len (replace t at u)) 4096) (fits_paths (replace t at u)) fits in
    let es = entries t in
    let us = entries u in
    let number = leb-true (len (replace t at u)) 4096 both.0 in
    let parts = length-append (before at es) (under at us ++ beyond at es) in
    let rest = length-append (under at us) (beyond at es) in
    let small : len u ≤ 4096 = omega (
      arith,
      number,
      parts,
      rest,
      len-entries (replace t at u),
      ap length (entries-replace t at u),
      length_under at us,
      len-entries u,
    ) in
    let paths : fits_paths u ≡ true = ap fits_paths (sym (there t at u))
    ∙ below (replace t at u) at both.1 in
    ap₂ (λ a b. a && b) (few (len u) small) paths

-- a directory alone has one node, at the path itself
next : (n : ℕ) → nat_lt n 4096 ≡ nat_le (n + 1) 4096
next n = grind (arith, nat_tests)

pub fits_dir : (t : Tree) (at : Path) (ds : Pairs) (count : ℕ) → ds ≡ entries t →
    fits_archive t ≡ true → count + length (within at ds) ≡ length ds → IsPath at →
    nat_lt count 4096 ≡ fits_archive (replace t at empty_directory)
fits_dir t at ds count e fits counts lawful =
    let us : Pairs = (root, Directory) ∷ [] in
    let one : paths_fit (under at us) ≡ true = ap (λ p. fits_path p && true) (append-nil at)
    ∙ ap (λ b. b && true) (path_fits at lawful) in
    next count ∙ sym (fits_count t empty_directory at ds us (count + 1) e
    (sym (entries-at_root Directory)) fits (omega (arith, counts))
    ∙ (ap (λ b. nat_le (count + 1) 4096 && b) one ∙ and_true (nat_le (count + 1) 4096)))
