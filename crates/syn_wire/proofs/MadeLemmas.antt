-- Entries that were read make the tree that the bytes spell.
use Rattle.std.proofs.Common.{◌≡◌, ◌≢◌, ◌<◌, ◌≤◌, ◌^◌, ℕ, Bool, true, false, cond, ◌&&◌, nat_le, []}
use Rattle.std.proofs.Common.{◌∷◌, ◌++◌, length, refl, sym, ap, ap₂, ◌∙◌, subst, Option, Some, None}
use Rattle.std.proofs.Common.{is_some, IsSome, true≢false, arith}
use Rattle.std.specs.Int.{to_be_bytes, w16}
use Rattle.std.specs.List.{list_all}
use Rattle.std.specs.Ordering.{eq_by_cmp}
use Rattle.std.specs.FinMap.{entries, entries_sorted, find, from_sorted, get, get-entries, len}
use Rattle.std.proofs.lemmas.Bool.{and_parts, le-leb, leb-true}
use Rattle.std.proofs.lemmas.Option.{none-some}
use Rattle.syn_model.specs.Path.{Bytes, Path, IsPath, path_cmp, root}
use Rattle.syn_model.specs.Tree.{Tree, Content, Directory, File, IsPart, IsPartIn, IsTree, absent}
use Rattle.syn_model.specs.Version.{Version}
use Rattle.syn_model.specs.Contents.{AreLawfulContentsIn, Contents, contents_spelling_in}
use Rattle.syn_model.specs.Tree.{file, at_root}
use Rattle.syn_model.specs.Limits.{fits_part, fits_path, fits_paths, fits_replica}
use Rattle.syn_model.specs.Limits.{greatest_spelling, tree_spelling_length}
use Rattle.syn_model.specs.Spelling.{spelling_in, content_spelling}
use Rattle.syn_model.proofs.PathLemmas.{same_path}
use Rattle.syn_model.proofs.SpellingLemmas.{spelling_unfolds}
use Rattle.syn_tree.specs.Entries.{AreEntries}
use Rattle.syn_placed.specs.Pairs.{Pairs, rooted, tree_with, AreRising, under}
use Rattle.syn_model.proofs.HistoryLemmas.{at_root-is_part, absent-is_part, same_file}
use Rattle.syn_model.proofs.VersionLemmas.{tree_now}
use Rattle.syn_tree.proofs.LawfulLemmas.{each-find}
use Rattle.syn_tree.proofs.CheckLemmas.{one_fits}
use Rattle.syn_tree.proofs.PlaceableLemmas.{fits-path}
use Rattle.syn_placed.proofs.TreeLemmas.{entries-absent, from_entries-same}
use Rattle.syn_wire.specs.Contents.{IsBriefFileIn}
use Rattle.syn_wire.specs.Reads.{BeginsWith, IsReading, NothingStands}
use Rattle.syn_wire.specs.Trees.{NoTreeBeginsAnother, IsDirectoryTree, IsDirectoryTreeIn}
use Rattle.syn_wire.specs.Trees.{IsOptionalTreeIn, IsWholeTreeIn}
use Rattle.syn_wire.specs.inner.Kinds.{IsContentOf, OfContents}
use Rattle.syn_wire.specs.inner.Parts.{AreContentsOf, ReadsParts, PartsAreRead, StandsAt}
use Rattle.syn_wire.specs.inner.Parts.{parts_pairs, parts_spelling}
use Rattle.syn_wire.proofs.KindLemmas.{files_tell, root_fits}
use Rattle.syn_wire.proofs.NameLemmas.{first_or}
use Rattle.syn_wire.proofs.NodeLemmas.{file_spelled}
use Rattle.syn_wire.proofs.NumberLemmas.{u16_tells}
use Rattle.syn_wire.proofs.PartsLemmas.{file_at, directory_at, parts_in, parts_stand}
use Rattle.syn_model.proofs.BaseLemmas.{is_true}
use Rattle.syn_model.proofs.RowLemmas.{entries-at_root}

-- ---- limits

path_found : (es : Pairs) (q : Path) → list_all (λ pair. fits_path pair.0) es ≡ true →
    is_some (find path_cmp q es) ≡ true → fits_path q ≡ true
path_found [] q h is = absurd (true≢false (sym is))
path_found (e ∷ es) q h is =
    by_path (eq_by_cmp path_cmp q e.0) refl is (λ some. path_found es q
    (and_parts (fits_path e.0) (list_all (λ pair. fits_path pair.0) es) h).1 some)
  where
    by_path : (b : Bool) → eq_by_cmp path_cmp q e.0 ≡ b →
        is_some (cond b (Some e.1) (find path_cmp q es)) ≡ true →
        (is_some (find path_cmp q es) ≡ true → fits_path q ≡ true) → fits_path q ≡ true
    by_path true same some later =
        ap fits_path (same_path q e.0 same)
        ∙ (and_parts (fits_path e.0) (list_all (λ pair. fits_path pair.0) es) h).0
    by_path false same some later = later some

pub as_optional : {version : Version} (t : Tree) → IsDirectoryTreeIn version t →
    IsOptionalTreeIn version t
as_optional t h = record { part = h.tree.part; fits = h.fits; paths = h.paths }

pub as_directory : {version : Version} (t : Tree) → IsWholeTreeIn version t →
    IsDirectoryTreeIn version t
as_directory t h =
    let whole = and_parts (nat_le (len t) 1024 && nat_le (tree_spelling_length t) greatest_spelling
    && fits_part t) (fits_paths t) h.fits in
    record {
      tree = h.tree;
      fits = (and_parts (nat_le (len t) 1024 && nat_le
          (tree_spelling_length t) greatest_spelling) (fits_part t) whole.0).1;
      paths = whole.1;
    }

-- each path of what keeps the limits of paths is a lawful one
pub paths_stand : {version : Version} (t : Tree) → IsPartIn version t → fits_paths t ≡ true →
    (q : Path) → IsSome (get t q) →
    IsPath q
paths_stand t part fits q some =
    fits-path q (part.names q some)
    (path_found (entries t) q fits (ap is_some (sym (get-entries t q)) ∙ some))

stands_at_root : (version : Version) (t : Tree) → IsDirectoryTreeIn version t → StandsAt
    (OfContents version)
    root t
stands_at_root version t h = record {
  part = (h.tree.part, h.fits);
  present = ap is_some h.tree.rooted;
  paths = paths_stand t h.tree.part h.paths;
}

-- ---- directories

-- a directory's count and parts stand after its kind
pub no_directory_read : (version : Version) (fields : Bytes) →
    IsReading (λ n. n < 2 ^ 16) (to_be_bytes w16) fields None → (t : Tree) (rest : Bytes) →
    IsDirectoryTreeIn version t → 2 ∷ fields ≡ spelling_in version t ++ rest → ⊥
no_directory_read version fields none t rest h e =
    let d = directory_at (OfContents version) t fields rest (h.tree.part, h.fits) e in
    none (length (parts_in t)) (parts_spelling (OfContents version) (parts_in t) ++ rest)
    (record { lawful = d.few; spelled = d.spelled })

module _ (version : Version) (fields below : Bytes) (above : Path) (count : ℕ)
    (found : BeginsWith (λ n. n < 2 ^ 16) (to_be_bytes w16) fields count below)
    (is_root : above ≡ root) where
  what_is_read : (old new : Pairs) (left : Option Bytes) →
      ReadsParts (OfContents version) above count below old new left → (t : Tree) (rest : Bytes) →
      IsDirectoryTreeIn version t → 2 ∷ fields ≡ spelling_in version t ++ rest →
      (left ≡ Some rest) × (new ≡ old ++ parts_pairs root (parts_in t))
  what_is_read old new left read t rest h e =
      let d = directory_at (OfContents version) t fields rest (h.tree.part, h.fits) e in
      let same = u16_tells count (length (parts_in t)) below (parts_spelling (OfContents version)
      (parts_in t) ++ rest) found.lawful d.few (sym found.spelled ∙ d.spelled) in
      subst (λ p. ReadsParts (OfContents version) p count below old new left) is_root read
      (parts_in t) rest (sym same.0) (parts_stand (OfContents version) root t
      (stands_at_root version t h)) same.1

  pub no_parts_read : (old new : Pairs) → ReadsParts (OfContents version) above count below old new
      None → (t : Tree) (rest : Bytes) → IsDirectoryTreeIn version t → 2 ∷ fields ≡ spelling_in
      version t
      ++ rest → ⊥
  no_parts_read old new none t rest h e = none-some _ (what_is_read old new None none t rest h e).0

  -- what was read is below the root of the tree
  pub all_entries : (old new : Pairs) (left : Bytes) → old ≡ [] →
      ReadsParts (OfContents version) above count below old new (Some left) →
      (t : Tree) (rest : Bytes) → IsDirectoryTreeIn version t → 2 ∷ fields ≡ spelling_in version t
      ++ rest →
      rooted new ≡ entries t
  all_entries old new left empty read t rest h e =
      let d = directory_at (OfContents version) t fields rest (h.tree.part, h.fits) e in
      ap rooted ((what_is_read old new (Some left) read t rest h e).1
      ∙ ap (λ es. es ++ parts_pairs root (parts_in t)) empty) ∙ sym d.whole

are_entries : (version : Version) (t : Tree) (list : Pairs) → IsDirectoryTreeIn version t → rooted
    list ≡ entries t →
    AreEntries list
are_entries version t list h all =
    let same : t ≡ tree_with list =
    sym (ap (λ es. from_sorted {R = path_cmp} es) all ∙ from_entries-same t) in
    record {
      rising = subst AreRising (sym all) (is_true _ (entries_sorted t));
      tree = subst IsTree same (tree_now version t h.tree);
      part = ap fits_part (sym same) ∙ h.fits;
      paths = ap fits_paths (sym same) ∙ h.paths;
    }

-- so that no other list is one's
pub not_made : (version : Version) (t : Tree) (list : Pairs) → IsDirectoryTreeIn version t → rooted
    list ≡ entries t →
    ¬ AreEntries list → ⊥
not_made version t list h all none = none (are_entries version t list h all)

pub under_root : (es : Pairs) → under root es ≡ es
under_root [] = refl
under_root (e ∷ es) = ap (λ xs. e ∷ xs) (under_root es)

-- a part whose files were read in a version is one of it
part_in : (version : Version) (t : Tree) → IsPart t →
    AreContentsOf (OfContents version) (entries t) →
    IsPartIn version t
part_in version t part files = record {
  parents = part.parents;
  names = part.names;
  lawful = λ p c found. (each-find (λ q content. IsContentOf (OfContents version) content) p
      (File c)
      (entries t) files (sym (get-entries t p) ∙ found)).0;
}

-- what was read is the tree that it makes
pub directory_made : (version : Version) (fields below : Bytes) (above : Path) (count : ℕ)
    (old list : Pairs) (left : Bytes) (u : Tree) → BeginsWith (λ n. n < 2 ^ 16) (to_be_bytes w16)
    fields count below → above ≡ root → old ≡ [] → PartsAreRead (OfContents version) above count
    below old list left → rooted list ≡ entries u → IsDirectoryTree u →
    BeginsWith (IsDirectoryTreeIn version) (spelling_in version) (2 ∷ fields) u left
directory_made version fields below above count old list left u found is_root empty read all h =
    let pairs : list ≡ read.0 = read.1 ∙ ap₂ (λ es p. es ++ under p read.0) empty is_root
    ∙ under_root read.0 in
    let whole : rooted read.0 ≡ entries u = ap rooted (sym pairs) ∙ all in
    let rising : AreRising (rooted read.0) =
    subst AreRising (sym whole) (is_true _ (entries_sorted u)) in
    let same : from_sorted (rooted read.0) ≡ u = ap (λ es. from_sorted {R = path_cmp} es) whole
    ∙ from_entries-same u in
    record {
      lawful = record {
        tree = record {
          rooted = h.tree.rooted;
          part = part_in version u h.tree.part
              (subst (AreContentsOf (OfContents version)) whole (tt, read.3));
        };
        fits = h.fits;
        paths = h.paths;
      };
      spelled = ap (λ b. 2 ∷ b) found.spelled
          ∙ (read.2 rising ∙ ap (λ t. spelling_in version t ++ left) same);
    }

-- ---- files, and nothing

pub absent_lawful : {version : Version} → IsOptionalTreeIn version absent
absent_lawful =
    record {
      part = absent-is_part;
      fits = ap (list_all _) entries-absent;
      paths = ap (list_all (λ pair. fits_path pair.0)) entries-absent;
    }

pub no_file_read : (version : Version) (fields : Bytes) →
    IsReading (IsBriefFileIn version) (contents_spelling_in version) fields None → IsReading
    (IsOptionalTreeIn version)
    (spelling_in version) (1 ∷ fields) None
no_file_read version fields none t rest begins =
    let f = file_at (OfContents version) t fields rest
    (begins.lawful.part, begins.lawful.fits) begins.spelled in
    none f.contents rest (record { lawful = f.lawful; spelled = f.spelled })

pub long_file_read : (version : Version) (fields : Bytes) (file : Contents) (after : Bytes) →
    BeginsWith (IsBriefFileIn version) (contents_spelling_in version) fields file after →
    16384 < length file.bytes → IsReading (IsOptionalTreeIn version) (spelling_in version)
    (1 ∷ fields) None
long_file_read version fields file after found long t rest begins =
    let f = file_at (OfContents version) t fields rest
    (begins.lawful.part, begins.lawful.fits) begins.spelled in
    let same = ap (λ (c : Contents). length c.bytes) (files_tell (OfContents version) file
    f.contents after rest found.lawful f.lawful (sym found.spelled ∙ f.spelled)).0 in
    let short = leb-true (length f.contents.bytes) 16384
    (root_fits t (File f.contents) begins.lawful.fits f.here).0 in
    absurd (omega (arith, same, short, long))

pub file_read : (version : Version) (fields : Bytes) (file : Contents) (after : Bytes) →
    BeginsWith (IsBriefFileIn version) (contents_spelling_in version) fields file after →
    length file.bytes ≤ 16384 → BeginsWith (IsOptionalTreeIn version) (spelling_in version)
    (1 ∷ fields)
    (at_root (File file)) after
file_read version fields file after found short = record {
  lawful = record {
    part = at_root-is_part (File file) (λ c same. subst (AreLawfulContentsIn version)
        (same_file file c same) found.lawful.0);
    fits = one_fits (File file) (le-leb (length file.bytes) 16384 short);
    paths = ap (list_all (λ pair. fits_path pair.0)) (entries-at_root (File file));
  };
  spelled = ap (λ b. 1 ∷ b) found.spelled ∙ ap (λ b. b ++ after) (sym (file_spelled version file));
}

-- ---- kinds

-- after the kind of a directory stands a directory
pub directory_none : (version : Version) (fields : Bytes) → IsReading (IsDirectoryTreeIn version)
    (spelling_in version) (2 ∷ fields) None → IsReading (IsOptionalTreeIn version)
    (spelling_in version)
    (2 ∷ fields) None
directory_none version fields none t rest begins =
    let d = directory_at (OfContents version) t fields rest
    (begins.lawful.part, begins.lawful.fits) begins.spelled in
    none t rest (record {
      lawful =
          record {
            tree = record { rooted = d.here; part = begins.lawful.part };
            fits = begins.lawful.fits;
            paths = begins.lawful.paths;
          };
      spelled = begins.spelled;
    })

-- a spelling has a kind
kind_of : (version : Version) (t : Tree) (rest bytes : Bytes) → bytes ≡ spelling_in version t
    ++ rest → (kind : ℕ) × (fields : Bytes) × (bytes ≡ kind ∷ fields) × (kind ≤ 2)
kind_of version t rest bytes e =
    by_content (get t root) (e ∙ ap (λ b. b ++ rest)
    (spelling_unfolds (contents_spelling_in version) t))
  where
    by_content : (o : Option Content) →
        bytes ≡ content_spelling (contents_spelling_in version) (spelling_in version) t o ++ rest →
        (kind : ℕ) × (fields : Bytes) × (bytes ≡ kind ∷ fields) × (kind ≤ 2)
    by_content None k = (0, _, k, omega arith)
    by_content (Some (File c)) k = (1, _, k, omega arith)
    by_content (Some Directory) k = (2, _, k, omega arith)

pub none_without_kind : (version : Version) (P : Tree → Type 0) (bytes : Bytes) → bytes ≡ [] →
    NothingStands P (spelling_in version) bytes
none_without_kind version P bytes empty t rest begins =
    let k = kind_of version t rest bytes begins.spelled in
    absurd (omega (arith, ap length (sym empty ∙ k.2)))

pub none_of_other_kind : (version : Version) (P : Tree → Type 0) (bytes fields : Bytes) (kind : ℕ) →
    bytes ≡ kind ∷ fields → 2 < kind → IsReading P (spelling_in version) bytes None
none_of_other_kind version P bytes fields kind is other t rest begins =
    let k = kind_of version t rest bytes begins.spelled in
    let same : k.0 ≡ kind = ap (λ b. first_or b 0) (sym k.2 ∙ is) in
    absurd (omega (arith, same, k.3, other))

-- the root of a whole tree is a directory
pub no_whole_of_kind : (version : Version) (bytes fields : Bytes) (kind : ℕ) →
    bytes ≡ kind ∷ fields → kind ≢ 2 → IsReading (IsWholeTreeIn version) (spelling_in version) bytes
    None
no_whole_of_kind version bytes fields kind is other t rest begins =
    other (ap (λ b. first_or b 0) (sym is ∙ (begins.spelled ∙ ap (λ b. b ++ rest)
    (spelling_unfolds (contents_spelling_in version) t
    ∙ ap (content_spelling (contents_spelling_in version) (spelling_in version) t)
    begins.lawful.tree.rooted))))

-- ---- whole trees

pub full_whole : NoTreeBeginsAnother → (version : Version) (fields after : Bytes) (t : Tree) →
    BeginsWith (IsDirectoryTreeIn version) (spelling_in version) (2 ∷ fields) t after → fits_replica
    t ≡ false →
    IsReading (IsWholeTreeIn version) (spelling_in version) (2 ∷ fields) None
full_whole tells version fields after t found full u rest begins =
    let lawful = as_directory u begins.lawful in
    let same = tells version u t rest after (as_optional u lawful) (as_optional t found.lawful)
    (sym begins.spelled ∙ found.spelled) in
    true≢false (sym begins.lawful.fits ∙ (ap fits_replica same.0 ∙ full))
