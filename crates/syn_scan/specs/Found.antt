-- What the answers of a side show: marks, which directory was listed at which position, and which
-- path was answered as no directory.
use Rattle.std.specs.Prelude.{◌≡◌, ◌⊎◌, Contains, ℕ, Bool, true, false, not, ◌&&◌, List, Some, None}
use Rattle.std.specs.Prelude.{refl, unwrap_or}
use Rattle.std.specs.Option.{option_or}
use Rattle.std.specs.Coded.{Coded, code_by, coded×, coded_ℕ, coded_list}
use Rattle.std.specs.FinMap.{FinMap, code, get, keys, contains_key}
use Rattle.syn_model.specs.Path.{Path, Name, path_cmp, root, child}
use Rattle.syn_model.specs.Tree.{Tree, Content, Directory, is_directory, coded_tree}
use Rattle.syn_model.specs.Limits.{children, fits_archive}
use Rattle.syn_model.specs.Mark.{IsMarks}
use Rattle.syn_model.specs.Dirty.{Scan}

-- the position of the answer for each of some paths
abbrev pub Positions : Type 0
Positions = FinMap path_cmp ℕ

abbrev pub coded_positions : Coded Positions
coded_positions = code (coded_list (coded_list coded_ℕ)) coded_ℕ

pub record Found : Type 0 where
  pub marks : Tree
  pub listed : Positions
  pub not_dirs : Positions

-- it is stored as its parts
abbrev pub coded_found : Coded Found
coded_found = code_by (Tree × (Positions × Positions))
    (coded× coded_tree (coded× coded_positions coded_positions))
    (λ f. (f.marks, (f.listed, f.not_dirs)))
    (λ p. record { marks = p.0; listed = p.1.0; not_dirs = p.1.1 }) (λ _. refl)

-- the scan that it is, once each directory was answered
abbrev pub scan_of : Found → Scan
scan_of found = record { marks = found.marks; unstable = keys found.not_dirs }

abbrev pub was_listed : Found → Path → Bool
was_listed found path = contains_key found.listed path

abbrev pub was_no_directory : Found → Path → Bool
was_no_directory found path = contains_key found.not_dirs path

-- a directory is shown there, and was not answered yet
abbrev pub is_open : Found → Path → Bool
is_open found path = is_directory found.marks path && not (was_listed found path)
    && not (was_no_directory found path)

-- each directory was answered
abbrev pub IsWhole : Found → Type 0
IsWhole found = (path : Path) → is_open found path ≡ false

-- the directory was listed so at the position
pub record WasListedIn (found : Found) (path : Path) (position : ℕ)
    (entries : List (Name × Content)) : Type 0 where
  pub answered : get found.listed path ≡ Some position
  pub shows : children found.marks path ≡ entries

-- the path is the root, or a listing shows a directory there
abbrev pub IsShownIn : Found → Path → Type 0
IsShownIn found path = (path ≡ root)
    ⊎ ((above : Path) × (name : Name) × (position : ℕ) × (entries : List (Name × Content))
    × (path ≡ child above name) × WasListedIn found above position entries
    × Contains entries (name, Directory))

-- the path was answered as no directory at the position
abbrev pub WasNoDirectoryIn : Found → Path → ℕ → Type 0
WasNoDirectoryIn found path position = get found.not_dirs path ≡ Some position

-- the position of the answer for a path
abbrev pub position_of : Found → Path → ℕ
position_of found path = unwrap_or (option_or (get found.listed path) (get found.not_dirs path)) 0

-- marks of a directory within the limits of an archive; only a directory was answered, in one way,
-- and nothing is shown below a directory that was not listed
pub record IsFound (found : Found) : Type 0 where
  pub rooted : get found.marks root ≡ Some Directory
  pub marks : IsMarks found.marks
  pub fits : fits_archive found.marks ≡ true
  pub listed : (path : Path) → was_listed found path ≡ true → is_directory found.marks path ≡ true
  pub not_dir : (path : Path) → was_no_directory found path ≡ true →
      is_directory found.marks path ≡ true
  pub one_answer : (path : Path) → was_no_directory found path ≡ true →
      was_listed found path ≡ false
  pub nothing_below : (path : Path) (name : Name) → was_listed found path ≡ false →
      get found.marks (child path name) ≡ None
