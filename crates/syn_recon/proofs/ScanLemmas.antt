-- How far the scan of a tree has come.
use Rattle.std.proofs.Common.{◌≡◌, ◌≤◌, ◌+◌, ◌∷◌, [], ◌∙◌, ◌&&◌, ◌||◌, ℕ, Bool, List, true, false}
use Rattle.std.proofs.Common.{Some, ap, ap₂, arith, cond, inl, inr, length, nat_le, not, refl}
use Rattle.std.proofs.Common.{subst, sym, true≢false}
use Rattle.std.proofs.lemmas.Bool.{and_parts}
use Rattle.std.proofs.lemmas.Bool.Decides.{nat_tests}
use Rattle.std.proofs.lemmas.List.{length-map}
use Rattle.std.proofs.lemmas.Option.{none-some}
use Rattle.std.specs.FinMap.{empty, entries, get, get-empty, insert, len, len-empty, len-entries}
use Rattle.std.specs.FinMap.{len-insert}
use Rattle.syn_model.specs.Dirty.{IsScanBy}
use Rattle.syn_model.specs.Limits.{children, fits_part, fits_paths, fits_replica}
use Rattle.syn_model.specs.Limits.{greatest_spelling, tree_spelling_length}
use Rattle.syn_model.specs.Mark.{mark, mark_of}
use Rattle.syn_model.specs.Path.{Name, Path, path_cmp}
use Rattle.syn_model.specs.Plan.{scan_of as scan_of_tree}
use Rattle.syn_model.specs.Tree.{Content, IsTree, Pair, Tree, is_directory}
use Rattle.syn_model.proofs.PathLemmas.{path_itself, path_total}
use Rattle.syn_mark.proofs.MarkLemmas.{entries-mark, mark_fits}
use Rattle.syn_recon.proofs.LimitLemmas.{directory_in, few_listed, few_shown}
use Rattle.syn_recon.proofs.ListingLemmas.{few_names, names_in_order, paths_fit}
use Rattle.syn_scan.specs.Asked.{AreAllOut, Asked, Belongs, ListsOnly, fit_below, handed_out}
use Rattle.syn_scan.specs.Asked.{is_out, is_too_large, names_rise, nothing_found, with_listing}
use Rattle.syn_scan.specs.Asked.{without}
use Rattle.syn_scan.specs.Found.{Found, IsFound, IsWhole, Positions, WasListedIn}
use Rattle.syn_scan.specs.Found.{WasNoDirectoryIn, is_open, position_of, scan_of}
use Rattle.syn_scan.specs.declared.error.ScanError.{ScanError}
use Rattle.syn_scan.specs.declared.error.ScanError.TheVariants.{BadMessage, Memory, TooLarge}
use Rattle.syn_scan.proofs.FoundLemmas.{opened}
use Rattle.syn_scan.proofs.ListingLemmas.{not_too_large}
use Rattle.syn_model.proofs.ShownLemmas.{scan_is_tree}

-- nothing waits, nothing was answered as no directory, and each listing is one of the tree
pub record IsScannedSo (tree : Tree) (asked : Asked) : Type 0 where
  pub none_out : asked.out ≡ []
  pub steady : asked.found.not_dirs ≡ empty
  pub listed : (at : Path) (since : ℕ) (entries : List (Name × Content)) →
      WasListedIn asked.found at since entries → entries ≡ children (mark tree) at

nothing_yet : (tree : Tree) → IsScannedSo tree (record { found = nothing_found; out = [] })
nothing_yet tree = record {
  none_out = refl;
  steady = refl;
  listed = λ at since entries was.
      absurd (none-some _ (sym (get-empty path_cmp at) ∙ was.answered));
}

pub begins : (tree : Tree) (asked : Asked)
    → asked ≡ record { found = nothing_found; out = [] } → IsScannedSo tree asked
begins tree asked is = subst (IsScannedSo tree) (sym is) (nothing_yet tree)

pub one_more : (tree : Tree) (old asked new : Asked) (path : Path)
    (entries : List (Name × Content)) → IsScannedSo tree old → asked.found ≡ old.found
    → asked.out ≡ handed_out old.out (Some path) → entries ≡ children (mark tree) path
    → new.found ≡ with_listing asked.found path 0 entries → new.out ≡ without asked.out path
    → ListsOnly asked.found path 0 entries new.found → IsScannedSo tree new
one_more tree old asked new path entries so same handed is found left only = record {
  none_out =
      left ∙ (ap (λ ps. without ps path) (handed ∙ ap (λ ps. handed_out ps (Some path)) so.none_out)
      ∙ ap (λ b. cond (not b) (path ∷ []) []) (path_itself path));
  steady =
      ap (λ (f : Found). f.not_dirs) found ∙ (ap (λ (f : Found). f.not_dirs) same ∙ so.steady);
  listed = λ at since shows was.
      elim (only at since shows was) [
        | inl here ↦ here.2 ∙ (is ∙ ap (children (mark tree)) (sym here.0))
        | inr before ↦
            so.listed at since shows
            (subst (λ (f : Found). WasListedIn f at since shows) same before)
      ];
}

not_and : (b : Bool) → (b && true) ≡ false → b ≡ false
not_and true e = e
not_and false e = refl

pub is_whole : (tree : Tree) (old asked : Asked) → IsScannedSo tree old
    → asked.found ≡ old.found → AreAllOut old → IsWhole asked.found
is_whole tree old asked so same out path =
    let none = subst (λ ps. AreAllOut (record { found = old.found; out = ps })) so.none_out out in
    ap (λ (f : Found). is_open f path) same ∙ not_and (is_open old.found path) (none path)

pub is_scan : (tree : Tree) (old asked : Asked) (shown : Found) → IsTree tree
    → IsScannedSo tree old → asked.found ≡ old.found
    → IsScanBy (WasListedIn asked.found) (WasNoDirectoryIn asked.found) (scan_of shown)
    (position_of shown) → scan_of shown ≡ scan_of_tree tree
is_scan tree old asked shown whole so same by =
    scan_is_tree (WasListedIn asked.found) (WasNoDirectoryIn asked.found) (scan_of shown)
    (position_of shown) by tree whole
    (λ at since entries was. so.listed at since entries
    (subst (λ (f : Found). WasListedIn f at since entries) same was))
    (λ at since was. absurd (none-some _ (sym (get-empty path_cmp at)
    ∙ (ap (λ (ps : Positions). get ps at) (sym so.steady)
    ∙ (ap (λ (f : Found). get f.not_dirs at) (sym same) ∙ was)))))

-- ---- what is refused

-- as many listings were taken
pub record IsScannedTimes (tree : Tree) (asked : Asked) (times : ℕ) : Type 0 where
  pub so : IsScannedSo tree asked
  pub count : len asked.found.listed ≡ times

pub begins_counted : (tree : Tree) (asked : Asked)
    → asked ≡ record { found = nothing_found; out = [] } → IsScannedTimes tree asked 0
begins_counted tree asked is = record {
  so = begins tree asked is;
  count = ap (λ (a : Asked). len a.found.listed) is ∙ len-empty path_cmp ℕ;
}

pub counts_one : (old asked new : Found) (path : Path) (entries : List (Name × Content))
    (times : ℕ) → len old.listed ≡ times → asked ≡ old → is_open old path ≡ true
    → new ≡ with_listing asked path 0 entries → len new.listed ≡ times + 1
counts_one old asked new path entries times count same opens found =
    ap (λ (f : Found). len f.listed) found
    ∙ (ap (λ (f : Found). len (insert f.listed path 0)) same
    ∙ (len-insert path_total old.listed path 0
    ∙ (ap (λ b. cond b (len old.listed) (len old.listed + 1)) (opened old path opens).not_listed
    ∙ ap (λ n. n + 1) count)))

-- a directory that is asked for is one of the tree
pub is_in_tree : (tree : Tree) (old : Asked) (path : Path) → IsTree tree → IsFound old.found
    → IsScannedSo tree old → is_open old.found path ≡ true → is_directory tree path ≡ true
is_in_tree tree old path whole kept so opens =
    directory_in tree whole old.found kept so.listed path (opened old.found path opens).directory

module _ (tree : Tree) (fits : fits_replica tree ≡ true) where
  limits : (nat_le (len tree) 1024 ≡ true) × (fits_paths tree ≡ true)
  limits =
      let all = and_parts (nat_le (len tree) 1024
      && nat_le (tree_spelling_length tree) greatest_spelling && fits_part tree) (fits_paths tree)
      fits in
      let each = and_parts (nat_le (len tree) 1024
      && nat_le (tree_spelling_length tree) greatest_spelling) (fits_part tree) all.0 in (
        (and_parts (nat_le (len tree) 1024)
            (nat_le (tree_spelling_length tree) greatest_spelling) each.0).0,
        all.1,
      )

  few_nodes : len tree ≤ 1024
  few_nodes = by (len tree) limits.0
    where
      by : (n : ℕ) → nat_le n 1024 ≡ true → n ≤ 1024
      by n is = grind (arith, nat_tests)

  marks_fit : (len (mark tree) ≤ 1024) × (fits_paths (mark tree) ≡ true)
  marks_fit = (
    omega (
      arith,
      few_nodes,
      len-entries tree,
      len-entries (mark tree),
      ap length (entries-mark tree),
      length-map {B = Pair} (entries tree) (λ (pair : Pair). (pair.0, mark_of pair.1)),
    ),
    (and_parts (nat_le (len (mark tree)) 4096) (fits_paths (mark tree))
        (mark_fits tree (omega (arith, few_nodes)) limits.1)).1,
  )

  -- its listing is not too large for the scan
  pub listing_is_small : (old asked : Asked) (path : Path) (entries : List (Name × Content))
      → IsTree tree → IsFound old.found → IsScannedSo tree old → asked.found ≡ old.found
      → entries ≡ children (mark tree) path → is_too_large asked.found entries ≡ false
  listing_is_small old asked path entries whole kept so same is =
      ap₂ (λ (f : Found) es. is_too_large f es) same is
      ∙ not_too_large old.found (children (mark tree) path)
      (omega (
        arith,
        few_shown tree whole old.found kept so.listed,
        few_names (mark tree) path,
        few_nodes,
        marks_fit.0,
      ))

  -- and belongs to it
  pub listing_belongs : (old asked : Asked) (path : Path) (entries : List (Name × Content))
      → IsScannedSo tree old → asked.out ≡ handed_out old.out (Some path)
      → entries ≡ children (mark tree) path → Belongs asked path entries
  listing_belongs old asked path entries so handed is = record {
    is_out =
        ap (λ out. is_out out path)
        (handed ∙ ap (λ ps. handed_out ps (Some path)) so.none_out)
        ∙ ap (λ b. b || false) (path_itself path);
    rising = ap names_rise is ∙ names_in_order (mark tree) path;
    fits = ap (fit_below path) is ∙ paths_fit (mark tree) path marks_fit.1;
  }

  -- so it is refused for lack of memory alone
  pub refused_for_memory : (old asked : Asked) (path : Path) (entries : List (Name × Content))
      → IsTree tree → IsFound old.found → IsScannedSo tree old → asked.found ≡ old.found
      → asked.out ≡ handed_out old.out (Some path) → entries ≡ children (mark tree) path
      → (e : ScanError) → (e ≡ TooLarge → is_too_large asked.found entries ≡ true)
      → (e ≡ BadMessage → (is_too_large asked.found entries ≡ false)
      × ¬ Belongs asked path entries) → e ≡ Memory
  refused_for_memory old asked path entries whole kept so same handed is Memory large bad = refl
  refused_for_memory old asked path entries whole kept so same handed is TooLarge large bad =
      absurd (true≢false (sym (large refl)
      ∙ listing_is_small old asked path entries whole kept so same is))
  refused_for_memory old asked path entries whole kept so same handed is BadMessage large bad =
      absurd ((bad refl).1 (listing_belongs old asked path entries so handed is))

  -- and there are no more listings than nodes
  pub no_more_listings : (asked : Asked) (times : ℕ) → IsTree tree → IsFound asked.found
      → IsScannedTimes tree asked times → times ≤ 4096
  no_more_listings asked times whole kept so =
      omega (
        arith,
        few_listed tree whole asked.found kept so.so.listed,
        few_nodes,
        so.count,
      )
