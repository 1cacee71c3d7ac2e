-- What a scanner was told so far, and what it handed out.
use Rattle.std.specs.Prelude.{◌≡◌, ◌+◌, Bool, true, false, not, ◌&&◌, List, [], ◌∷◌, ◌++◌, map}
use Rattle.std.specs.Prelude.{length, filter, Option, Some, None, nat_lt, refl, ◌⊎◌, ℕ}
use Rattle.std.specs.Ordering.{eq_by_cmp, is_lt}
use Rattle.std.specs.List.{list_any, list_all}
use Rattle.std.specs.Coded.{Coded, code_by, coded×, coded_ℕ, coded_list}
use Rattle.std.specs.FinMap.{len, insert, empty}
use Rattle.std.specs.FinMap.Entries.{is_sorted}
use Rattle.syn_model.specs.Path.{Path, Name, path_cmp, name_cmp, root, child}
use Rattle.syn_model.specs.Tree.{Tree, Content, Directory, empty_directory, replace}
use Rattle.syn_model.specs.Limits.{fits_path, most_nodes}
use Rattle.syn_placed.specs.Pairs.{Pairs}
use Rattle.syn_mark.specs.Marks.{marks_with, content_of}
use Rattle.syn_mark.specs.declared.mark.Mark.{Mark}
use Rattle.syn_scan.specs.Found.{Found, coded_found, is_open, WasListedIn}

-- what was found so far, and the paths that were handed out and not answered yet
pub record Asked : Type 0 where
  pub found : Found
  pub out : List Path

abbrev pub coded_asked : Coded Asked
coded_asked = code_by (Found × List Path) (coded× coded_found (coded_list (coded_list (coded_list
    coded_ℕ)))) (λ a. (a.found, a.out)) (λ p. record { found = p.0; out = p.1 }) (λ _. refl)

-- before anything is answered: a directory, and nothing below it
abbrev pub nothing_found : Found
nothing_found = record { marks = empty_directory; listed = empty; not_dirs = empty }

abbrev pub is_out : List Path → Path → Bool
is_out out path = list_any (eq_by_cmp path_cmp path) out

-- the directory is open, and was not handed out
abbrev pub is_next : Found → List Path → Path → Bool
is_next found out path = is_open found path && not (is_out out path)

-- the first of these in path order
pub record IsNext (asked : Asked) (path : Path) : Type 0 where
  pub opened : is_open asked.found path ≡ true
  pub unasked : is_out asked.out path ≡ false
  pub first : (other : Path) → is_next asked.found asked.out other ≡ true →
      is_lt (path_cmp other path) ≡ false

-- each directory that is open was handed out
abbrev pub AreAllOut : Asked → Type 0
AreAllOut asked = (path : Path) → is_next asked.found asked.out path ≡ false

abbrev pub handed_out : List Path → Option Path → List Path
handed_out out None = out
handed_out out (Some path) = out ++ path ∷ []

abbrev pub without : List Path → Path → List Path
without out path = filter (λ other. not (eq_by_cmp path_cmp path other)) out

-- the names of a listing, each with what its mark is
abbrev pub contents_in : List (Name × Mark) → List (Name × Content)
contents_in entries = map (λ entry. (entry.0, content_of entry.1)) entries

-- a listing as the pairs of a directory
abbrev pub named : List (Name × Content) → Pairs
named entries = map (λ entry. (entry.0 ∷ [], entry.1)) entries

abbrev pub listing_pairs : List (Name × Content) → Pairs
listing_pairs entries = (root, Directory) ∷ named entries

abbrev pub directory_with : List (Name × Content) → Tree
directory_with entries = marks_with (listing_pairs entries)

-- with the listing of a directory
abbrev pub with_listing : Found → Path → ℕ → List (Name × Content) → Found
with_listing found path position entries = record found {
  marks = replace found.marks path (directory_with entries);
  listed = insert found.listed path position;
}

-- with the answer that no directory is at the path
abbrev pub with_no_directory : Found → Path → ℕ → Found
with_no_directory found path position = record found {
  not_dirs = insert found.not_dirs path position;
}

-- with the listing the scan would be too large
abbrev pub is_too_large : Found → List (Name × Content) → Bool
is_too_large found entries = nat_lt most_nodes (len found.marks + length entries)

-- the names strictly rise
abbrev pub names_rise : List (Name × Content) → Bool
names_rise entries = is_sorted name_cmp entries

-- the path of each entry keeps the limits of paths
abbrev pub fit_below : Path → List (Name × Content) → Bool
fit_below path entries = list_all (λ entry. fits_path (child path entry.0)) entries

-- a listing belongs where its path was handed out, its names rise, and each path below keeps the
-- limits
pub record Belongs (asked : Asked) (path : Path) (entries : List (Name × Content)) : Type 0 where
  pub is_out : is_out asked.out path ≡ true
  pub rising : names_rise entries ≡ true
  pub fits : fit_below path entries ≡ true

-- what was listed is what had been, and this
abbrev pub ListsOnly : Found → Path → ℕ → List (Name × Content) → Found → Type 0
ListsOnly old path position entries new =
    (at : Path) (since : ℕ) (shows : List (Name × Content)) → WasListedIn new at since shows →
    ((at ≡ path) × (since ≡ position) × (shows ≡ entries)) ⊎ WasListedIn old at since shows
