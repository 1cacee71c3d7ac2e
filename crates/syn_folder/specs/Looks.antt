-- What the looks at a folder of the system make of it.
use Rattle.std.specs.Prelude.{◌≡◌, ◌≢◌, ◌≤◌, ◌<◌, ◌↔◌, ◌⊎◌, ◌%◌, ◌==◌, ◌&&◌, not}
use Rattle.std.specs.Prelude.{Bool, true, false, if◌then◌else◌, List, [], ◌∷◌, ◌++◌, length, map}
use Rattle.std.specs.Prelude.{All, Contains, filter_map, Option, Some, None, option_map}
use Rattle.std.specs.Prelude.{string_bytes}
use Rattle.std.specs.Prelude.{bytes_eq, codes}
use Rattle.std.specs.List.{flat_map, slice_split, starts_with}
use Rattle.std.specs.Str.Lossy.{utf8_lossy}
use Rattle.std.specs.FinMap.{entries, get}
use Rattle.std.specs.Fs.{file_type, metadata_len, metadata_mode, IsDir, IsFile}
use Rattle.std.specs.declared.fs.attrs.Metadata.{Metadata}
use Rattle.std.specs.declared.io.ErrorKind.{ErrorKind}
use Rattle.std.specs.declared.io.ErrorKind.TheVariants as error
use Rattle.syn_model.specs.Contents.{contents_with}
use Rattle.syn_model.specs.Limits.{fits_replica, greatest_file}
use Rattle.syn_model.specs.Path.{Bytes, IsName, IsPath, Path, is_root, root}
use Rattle.syn_model.specs.Tree.{Content, Directory, File, IsTree, Pair, Tree, empty_directory}
use Rattle.syn_path.specs.Paths.{printed_form}
use Rattle.syn_placed.specs.Pairs.{Pairs, rooted}
use Rattle.syn_folder.specs.declared.stranger.Strangeness.{Strangeness}
use Rattle.syn_folder.specs.declared.stranger.Strangeness.TheVariants as why
use Rattle.syn_folder.specs.declared.stranger.Stranger.{Stranger}
use Rattle.syn_folder.specs.declared.system.listing.Fit.{Fit}
use Rattle.syn_folder.specs.declared.system.listing.Fit.TheVariants as fit
use Rattle.syn_folder.specs.declared.system.listing.TheConstants.{OWN, PART}
use Rattle.syn_folder.specs.declared.system.looks.Look.{Look}
use Rattle.syn_folder.specs.declared.system.looks.Looked.{Looked}
use Rattle.syn_folder.specs.declared.system.looks.Seen.{Seen}
use Rattle.syn_folder.specs.declared.system.looks.Shown.{Shown}
use Rattle.syn_folder.specs.declared.system.looks.Shown.TheVariants as shown

-- the second list has exactly what the elements of the first show
abbrev pub AreShown : {A B : Type 0} → (A → B → Type 0) → List A → List B → Type 0
AreShown {A} {B} Shows from found =
    (one : B) → Contains found one ↔ ((seen : A) × Contains from seen × Shows seen one)

-- the path of the system to what has these names in the folder: each after a slash
abbrev pub system_path_of : Bytes → Path → Bytes
system_path_of folder names = folder ++ flat_map (λ name. 47 ∷ name) names

-- why what looks so can stand in no replica
abbrev pub IsWhyStrange : Metadata → Option Strangeness → Type 0
IsWhyStrange there None =
    IsDir (file_type there) ⊎ (IsFile (file_type there) × (metadata_len there ≤ greatest_file))
IsWhyStrange there (Some why.Kind) = ¬ IsDir (file_type there) × ¬ IsFile (file_type there)
IsWhyStrange there (Some why.Size) = IsFile (file_type there) × (greatest_file < metadata_len there)
IsWhyStrange there (Some _) = ⊥

-- what is shown where the system shows nothing for this reason
abbrev pub shown_of : ErrorKind → Option Shown
shown_of error.NotFound = Some shown.Changed
shown_of error.NotADirectory = Some shown.Changed
shown_of error.PermissionDenied = Some (shown.Strange why.Locked)
shown_of _ = None

-- what is shown of a file that looks so
abbrev pub IsReadAs : Metadata → Shown → Type 0
IsReadAs there (shown.File look bytes) = look.mode ≡ metadata_mode there
IsReadAs there (shown.Strange because) = because ≡ why.Locked
IsReadAs there shown.Changed = Unit {0}
IsReadAs there _ = ⊥

-- what is shown of a directory that looks so, where this is listed
abbrev pub IsListedAs : Metadata → Bytes → Shown → Type 0
IsListedAs there bytes (shown.Directory look listing) = listing.items ≡ bytes
IsListedAs there bytes (shown.Crowded listing) = listing.items ≡ bytes
IsListedAs there bytes _ = ⊥

-- what is shown where something looks so
abbrev pub IsShownAs : Metadata → Shown → Type 0
IsShownAs there (shown.Directory look listing) = IsDir (file_type there)
IsShownAs there (shown.Crowded listing) = IsDir (file_type there)
IsShownAs there (shown.File look bytes) = IsWhyStrange there None
    × ¬ IsDir (file_type there) × (look.mode ≡ metadata_mode there)
IsShownAs there (shown.Strange because) =
    IsWhyStrange there (Some because) ⊎ ((because ≡ why.Locked) × IsWhyStrange there None)
IsShownAs there shown.Unread = IsWhyStrange there None × ¬ IsDir (file_type there)
IsShownAs there shown.Changed = IsWhyStrange there None

-- what the system lists and is neither the directory itself, the one above it, what belongs to
-- `syn` itself, nor a part of an export
abbrev pub is_listed : Bytes → Bool
is_listed name = not (length name == 0) && (not (bytes_eq name (codes "."))
    && (not (bytes_eq name (codes "..")) && (not (bytes_eq name OWN.now)
    && not (starts_with ◌==◌ name PART.now))))

-- the pieces of what is listed, each of which ends with a zero byte
abbrev pub pieces : Bytes → List Bytes
pieces listing = slice_split (λ b. b == 0) listing

-- a name in the directory at the path, where the folder is for the path `at` of a replica
abbrev pub IsFit : Path → Path → Bytes → Fit → Type 0
IsFit at path name (fit.Child child) =
    IsName name × (child ≡ path ++ name ∷ []) × IsPath (at ++ child)
IsFit at path name fit.NoName = ¬ IsName name
IsFit at path name fit.NoPath = IsName name × ¬ IsPath (at ++ (path ++ name ∷ []))

-- it is listed, and a replica can have it at this path
pub record IsChildOf (at path : Path) (name : Bytes) (child : Path) : Type 0 where
  pub listed : is_listed name ≡ true
  pub named : IsName name
  pub is : child ≡ path ++ name ∷ []
  pub lawful : IsPath (at ++ child)

-- a stranger as it is told: its text, its path and why it is one
abbrev pub Told : Type 0
Told = Bytes × Option Path × Strangeness

abbrev pub told : Stranger → Told
told stranger = (string_bytes stranger.text, stranger.path, stranger.why)

-- the text of a name in the directory at the path
abbrev pub text_below : Path → Bytes → Bytes
text_below path name = if is_root path then utf8_lossy name
    else printed_form path ++ (47 ∷ utf8_lossy name)

-- why a name in the directory at the path is told: it is none of a replica, or its path is none.
-- Of a crowded directory only the former are told.
abbrev pub IsWhyTold : Path → Path → Bool → Bytes → Strangeness → Type 0
IsWhyTold at path is_crowded name why.Name = ¬ IsName name
IsWhyTold at path is_crowded name why.Path =
    IsName name × ¬ IsPath (at ++ (path ++ name ∷ [])) × (is_crowded ≡ false)
IsWhyTold at path is_crowded name _ = ⊥

pub record IsStrangeName (at path : Path) (is_crowded : Bool) (name : Bytes) (one : Told) : Type 0
  where
    pub listed : is_listed name ≡ true
    pub text : one.0 ≡ text_below path name
    pub no_path : one.1 ≡ None
    pub why : IsWhyTold at path is_crowded name one.2

-- what stands at the path itself, as it is told
abbrev pub told_at : Path → Strangeness → Told
told_at path why = (printed_form path, Some path, why)

-- some of the names in the listing is told so
abbrev pub ShowsName : Path → Path → Bool → Bytes → Told → Type 0
ShowsName at path is_crowded listing one =
    (name : Bytes) × Contains (pieces listing) name × IsStrangeName at path is_crowded name one

-- what was shown at the path can stand in no replica, or something that is listed there
abbrev pub IsToldOf : Path → Path → Shown → Told → Type 0
IsToldOf at path (shown.Directory look listing) one = ShowsName at path false listing.items one
IsToldOf at path (shown.Crowded listing) one =
    ShowsName at path true listing.items one ⊎ (one ≡ told_at path why.Names)
IsToldOf at path (shown.Strange because) one = one ≡ told_at path because
IsToldOf at path _ one = ⊥

abbrev pub ShowsStranger : Path → Seen → Told → Type 0
ShowsStranger at seen one = IsToldOf at seen.path seen.shown one

-- the file or directory that is shown; a file has the nine lowest bits of the system's mode
abbrev pub content_in : Shown → Option Content
content_in (shown.Directory look listing) = Some Directory
content_in (shown.File look bytes) = Some (File (contents_with (look.mode % 512) bytes.items))
content_in _ = None

-- the file or directory that is seen below the folder itself
abbrev pub node_of : Seen → Option Pair
node_of seen = if is_root seen.path then None
    else option_map (λ content. (seen.path, content)) (content_in seen.shown)

-- both show the same file or directory at one path
abbrev pub IsSameNode : Seen → Seen → Type 0
IsSameNode seen other = (seen.path ≡ other.path)
    × (content_in seen.shown ≡ content_in other.shown)

-- what was seen is no file or directory, or was seen again
abbrev pub IsSeenAgain : List Seen → Seen → Type 0
IsSeenAgain again seen = (content_in seen.shown ≡ None)
    ⊎ ((other : Seen) × Contains again other × IsSameNode other seen)

abbrev pub look_in : Shown → Option Look
look_in (shown.Directory look listing) = Some look
look_in (shown.File look bytes) = Some look
look_in _ = None

-- how a file or directory below the folder itself looked
abbrev pub look_of : Seen → Option (Path × Look)
look_of seen = if is_root seen.path then None
    else option_map (λ look. (seen.path, look)) (look_in seen.shown)

abbrev pub placed : Looked → Path × Look
placed looked = (looked.path, looked.look)

-- the names that a directory lists, where they are looked at
abbrev pub listed_in : Shown → List Bytes
listed_in (shown.Directory look listing) = pieces listing.items
listed_in _ = []

-- each listed name whose path a replica can have was looked at, or is still to be
abbrev pub IsFollowed : Path → List Seen → List Path → Type 0
IsFollowed at looks pending = (seen : Seen) (name : Bytes) (child : Path) → Contains looks seen
    → Contains (listed_in seen.shown) name → IsChildOf at seen.path name child
    → Contains (map (λ (s : Seen). s.path) looks ++ pending) child

abbrev pub IsOfDirectory : Shown → Type 0
IsOfDirectory (shown.Directory look listing) = Unit {0}
IsOfDirectory (shown.Crowded listing) = Unit {0}
IsOfDirectory _ = ⊥

-- the folder itself was looked at
abbrev pub IsEntered : List Seen → Type 0
IsEntered looks =
    (seen : Seen) × Contains looks seen × (seen.path ≡ root) × IsOfDirectory seen.shown

-- no replica has these below its root
abbrev pub FitsNoReplica : Pairs → Type 0
FitsNoReplica pairs = (tree : Tree) → entries tree ≡ rooted pairs → IsTree tree
    → fits_replica tree ≡ true → ⊥

-- at the path is the root, or what a look shows there
abbrev pub IsSeenAt : List Seen → Path → Content → Type 0
IsSeenAt looks path content = ((path ≡ root) × (content ≡ Directory))
    ⊎ ((seen : Seen) × Contains looks seen × (node_of seen ≡ Some (path, content)))

-- A walk that looked at all: the tree has at each path what the look shows there, and nothing
-- elsewhere. What can stand in no replica is told, and nothing else is.
pub record IsWhole (at : Path) (looks : List Seen) (pending : List Path) (tree : Tree)
    (strangers : List Stranger) : Type 0 where
  pub all : pending ≡ []
  pub read : All (λ seen. seen.shown ≢ shown.Unread) looks
  pub there : (path : Path) (content : Content) → (get tree path ≡ Some content)
      ↔ IsSeenAt looks path content
  pub tells : AreShown (ShowsStranger at) looks (map told strangers)

-- A walk that saw more than a replica may have. Nothing is in the tree, and the folder itself is
-- told beside what can stand in no replica.
pub record IsOver (at : Path) (looks : List Seen) (tree : Tree) (strangers : List Stranger) : Type 0
  where
    pub empty : tree ≡ empty_directory
    pub because : Strangeness
    pub reason : (because ≡ why.Count) ⊎ ((because ≡ why.Room)
        × FitsNoReplica (filter_map node_of looks))
    pub more : List Told
    pub tells : AreShown (ShowsStranger at) looks more
    pub itself : map told strangers ≡ more ++ told_at root because ∷ []

-- what the looks make of the folder
abbrev pub IsPicture : Path → List Seen → List Path → Tree → List Stranger → Type 0
IsPicture at looks pending tree strangers =
    IsWhole at looks pending tree strangers ⊎ IsOver at looks tree strangers

-- What is read of a folder for the path `at` of a replica. There are looks, one at each path that
-- was looked at, of which none found a change: the folder itself was looked at, and each name that
-- a directory lists, as far as a replica can have it.
pub record IsFolderRead (at : Path) (tree : Tree) (strangers : List Stranger) : Type 0 where
  pub looks : List Seen
  pub pending : List Path
  pub entered : IsEntered looks
  pub followed : IsFollowed at looks pending
  pub unchanged : All (λ seen. seen.shown ≢ shown.Changed) looks
  pub picture : IsPicture at looks pending tree strangers

-- what is read of a folder for the root, which may be missing
abbrev pub IsReadOrMissing : Tree → List Stranger → Type 0
IsReadOrMissing tree strangers = IsFolderRead root tree strangers
    ⊎ ((tree ≡ empty_directory) × (strangers ≡ []))
