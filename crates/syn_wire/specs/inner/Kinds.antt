-- The two kinds of trees, of contents and of marks, in each version. They are spelled alike but for
-- their files.
use Rattle.std.specs.Prelude.{◌≡◌, ◌≤◌, true, Result, Ok, Err}
use Rattle.std.specs.FinMap.{len}
use Rattle.syn_model.specs.Path.{Bytes}
use Rattle.syn_model.specs.Version.{Version}
use Rattle.syn_model.specs.Contents.{Contents, IsDigestIn, contents_spelling_in, digest_spelling_in}
use Rattle.syn_model.specs.Tree.{Tree, Content, Directory, File, IsPartIn}
use Rattle.syn_model.specs.Mark.{IsMarksIn}
use Rattle.syn_model.specs.Limits.{fits_part, most_nodes}
use Rattle.syn_model.specs.Spelling.{spelling_in}
use Rattle.syn_model.specs.MarkSpelling.{mark_spelling_in}
use Rattle.syn_wire.specs.Contents.{IsBriefFileIn}
use Rattle.syn_wire.specs.Reads.{BeginsWith, NothingStands}
use Rattle.syn_wire.specs.declared.error.ReadError.{ReadError}
use Rattle.syn_wire.specs.declared.error.ReadError.TheVariants.{Malformed}

pub data Kind : Type 0 where
  OfContents : Version → Kind
  OfMarks : Version → Kind

abbrev pub spelling_of : Kind → Tree → Bytes
spelling_of (OfContents version) = spelling_in version
spelling_of (OfMarks version) = mark_spelling_in version

-- what is spelled of a file, and of a mark
abbrev pub file_spelling_of : Kind → Contents → Bytes
file_spelling_of (OfContents version) = contents_spelling_in version
file_spelling_of (OfMarks version) = digest_spelling_in version

-- a file of a length that four bytes spell, or a digest
abbrev pub IsFileOf : Kind → Contents → Type 0
IsFileOf (OfContents version) contents = IsBriefFileIn version contents
IsFileOf (OfMarks version) digest = IsDigestIn version digest

-- what may stand at a path of such a tree, within the limits there
abbrev pub IsPartOf : Kind → Tree → Type 0
IsPartOf (OfContents version) t = IsPartIn version t × (fits_part t ≡ true)
IsPartOf (OfMarks version) t = IsMarksIn version t × (len t ≤ most_nodes)

-- a file that may be spelled, or a directory
abbrev pub IsContentOf : Kind → Content → Type 0
IsContentOf kind Directory = Unit {0}
IsContentOf kind (File contents) = IsFileOf kind contents

-- what a reader did after the kind of a file: it went past the file that it gives, or none is there
abbrev pub ReadsFile : {X : Type 0} → Kind → (X → Content) → Bytes → Bytes → Result X ReadError
    → Type 0
ReadsFile kind content old new (Ok found) = (file : Contents) × (content found ≡ File file)
    × BeginsWith (IsFileOf kind) (file_spelling_of kind) old file new
ReadsFile kind content old new (Err error) =
    error ≡ Malformed → NothingStands (IsFileOf kind) (file_spelling_of kind) old
