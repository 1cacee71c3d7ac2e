-- The one spelling in bytes of a tree of marks, of what an archive keeps, and of an archive.
use Rattle.std.specs.Prelude.{ℕ, ◌≡◌, ◌≤◌, [], ◌∷◌, ◌++◌}
use Rattle.std.specs.Int.{to_be_bytes, w64}
use Rattle.std.specs.FinMap.{len}
use Rattle.syn_model.specs.Limits.{most_nodes}
use Rattle.syn_model.specs.Path.{Bytes, path_spelling}
use Rattle.syn_model.specs.Version.{Version, One, current_version, version_number}
use Rattle.syn_model.specs.Contents.{digest_spelling_in}
use Rattle.syn_model.specs.Tree.{Tree}
use Rattle.syn_model.specs.Mark.{IsMarksIn}
use Rattle.syn_model.specs.Spelling.{spelling_by}
use Rattle.syn_model.specs.Archive.{Archive, Kept, Session, Recorded, RecordedDir}

-- marks are spelled as trees are, with a digest in the place of what a file holds
abbrev pub mark_spelling_in : Version → Tree → Bytes
mark_spelling_in version marks = spelling_by (digest_spelling_in version) marks

abbrev pub mark_spelling : Tree → Bytes
mark_spelling marks = mark_spelling_in current_version marks

-- a kind, and what is kept
abbrev pub kept_spelling_in : Version → Kept → Bytes
kept_spelling_in version (Session session) = 1 ∷ to_be_bytes w64 session
kept_spelling_in version (Recorded path marks) =
    2 ∷ path_spelling path ++ mark_spelling_in version marks
kept_spelling_in version (RecordedDir path) = 3 ∷ path_spelling path

abbrev pub kept_spelling : Kept → Bytes
kept_spelling kept = kept_spelling_in current_version kept

-- "SYNA" and the version
abbrev pub archive_front : Version → Bytes
archive_front version = 83 ∷ 89 ∷ 78 ∷ 65 ∷ version_number version ∷ []

-- an image of the first version, whatever follows
abbrev pub IsOldArchiveImage : Bytes → Type 0
IsOldArchiveImage image = (rest : Bytes) × (image ≡ archive_front One ++ rest)

-- the front, the pair, the last session and the marks
abbrev pub archive_spelling_in : Version → ℕ → Archive → Bytes
archive_spelling_in version pair archive = archive_front version ++ (to_be_bytes w64 pair
    ++ (to_be_bytes w64 archive.last_session ++ mark_spelling_in version archive.marks))

abbrev pub archive_spelling : ℕ → Archive → Bytes
archive_spelling pair archive = archive_spelling_in current_version pair archive

-- What follows

-- no spelling of marks begins that of others, so that a spelling tells its marks
abbrev pub NoMarkSpellingBeginsAnother : Type 0
NoMarkSpellingBeginsAnother = (version : Version) (t u : Tree) (r s : Bytes) →
    IsMarksIn version t → IsMarksIn version u → len t ≤ most_nodes → len u ≤ most_nodes →
    mark_spelling_in version t ++ r ≡ mark_spelling_in version u ++ s → (t ≡ u) × (r ≡ s)
