-- The lines that are printed of an image: of a replica, or of an archive.
use Rattle.std.specs.Prelude.{ℕ, List, [], length, filter, flat_map, ◌++◌, codes}
use Rattle.std.specs.Fmt.{decimal}
use Rattle.std.specs.FinMap.{entries}
use Rattle.hex.specs.Hex.{encode_lower}
use Rattle.sha2.specs.Sha256.{sha256}
use Rattle.syn_archive.specs.Archive as archive
use Rattle.syn_archive.specs.declared.archive.Archive.{Archive}
use Rattle.syn_disk.specs.declared.disk.Disk.{Ghosts}
use Rattle.syn_model.specs.Path.{Path}
use Rattle.syn_model.specs.Contents.{Contents}
use Rattle.syn_model.specs.Tree.{Tree, Pair, Content, Directory, File}
use Rattle.syn_placed.specs.Pairs.{is_below}
use Rattle.syn_path.specs.Paths.{printed_form}
use Rattle.syn_replica.specs.Replica as replica
use Rattle.syn_replica.specs.declared.replica.Replica.{Replica}
use Rattle.syn_tree.specs.Modes.{mode_digits}

-- the line of a file: its path, its mode, its length, and its digest in lower case hexadecimal
-- digits
abbrev pub file_line : Path → Contents → List ℕ
file_line path contents = codes "f "
    ++ (printed_form path ++ (codes " " ++ (mode_digits contents.mode ++ (codes " "
    ++ (decimal (length contents.bytes) ++ (codes " "
    ++ (encode_lower (sha256 contents.bytes) ++ codes "\n")))))))

-- the line of a directory
abbrev pub directory_line : Path → List ℕ
directory_line path = codes "d " ++ (printed_form path ++ codes "\n")

abbrev pub content_line : Path → Content → List ℕ
content_line path Directory = directory_line path
content_line path (File contents) = file_line path contents

-- the lines of these pairs, in their order
abbrev pub lines_of : List Pair → List ℕ
lines_of pairs = flat_map (λ pair. content_line pair.0 pair.1) pairs

-- the lines of all that stands strictly below a path, in path order
abbrev pub lines_below : Tree → Path → List ℕ
lines_below tree at = lines_of (filter (is_below at) (entries tree))

-- the first line of a replica
abbrev pub replica_line : ℕ → ℕ → List ℕ
replica_line pair position = codes "replica pair "
    ++ (decimal pair ++ (codes " position " ++ (decimal position ++ codes "\n")))

-- the first line of a replica that is served, which does not tell its pair
abbrev pub served_line : ℕ → List ℕ
served_line position = codes "replica position " ++ (decimal position ++ codes "\n")

-- the line of a file in an archive: its path, its mode, and its digest in lower case hexadecimal
-- digits
abbrev pub digest_line : Path → Contents → List ℕ
digest_line path digest = codes "f "
    ++ (printed_form path ++ (codes " " ++ (mode_digits digest.mode ++ (codes " "
    ++ (encode_lower digest.bytes ++ codes "\n")))))

abbrev pub mark_line : Path → Content → List ℕ
mark_line path Directory = directory_line path
mark_line path (File digest) = digest_line path digest

-- the lines of marks, in their order
abbrev pub lines_of_marks : List Pair → List ℕ
lines_of_marks pairs = flat_map (λ pair. mark_line pair.0 pair.1) pairs

-- the first line of an archive
abbrev pub archive_line : ℕ → ℕ → List ℕ
archive_line pair session = codes "archive pair "
    ++ (decimal pair ++ (codes " session " ++ (decimal session ++ codes "\n")))

-- a line with the numbers of a replica, and a line for each path but the root
abbrev pub replica_shown : {D : Type 0} → {disk : Ghosts D} → Replica D disk → List ℕ
replica_shown r = replica_line (replica.pair_of r) (replica.position_shown r)
    ++ lines_below (replica.tree_shown r) []

-- the same of the tree of a replica that is served
abbrev pub served_shown : ℕ → Tree → List ℕ
served_shown position tree = served_line position ++ lines_below tree []

-- the same of an archive
abbrev pub archive_shown : {D : Type 0} → {disk : Ghosts D} → Archive D disk → List ℕ
archive_shown a = archive_line (archive.pair_of a) (archive.session_shown a)
    ++ lines_of_marks (filter (is_below []) (entries (archive.marks_shown a)))
