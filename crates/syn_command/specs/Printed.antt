-- The lines that the program prints.
use Rattle.std.specs.Prelude.{ℕ, List, ◌++◌, codes}
use Rattle.std.specs.Fmt.{decimal}
use Rattle.syn_model.specs.Path.{Path}
use Rattle.syn_model.specs.Tree.{Tree, Content, Directory, File}
use Rattle.syn_print.specs.Images.{lines_below}

-- what is printed of a path: the bytes of a file, or the lines of what is below a directory
abbrev pub content_shown : Tree → Path → Content → List ℕ
content_shown tree path Directory = lines_below tree path
content_shown tree path (File contents) = contents.bytes

-- the numbers of a replica: its pair, generation, position, floor and last session
abbrev pub replica_numbers : ℕ → ℕ → ℕ → ℕ → ℕ → List ℕ
replica_numbers pair generation position floor session = codes "replica pair "
    ++ (decimal pair ++ (codes " generation " ++ (decimal generation ++ (codes " position "
    ++ (decimal position ++ (codes " floor " ++ (decimal floor ++ (codes " session "
    ++ (decimal session ++ codes "\n")))))))))

-- the numbers of an archive: its pair, generation and last session
abbrev pub archive_numbers : ℕ → ℕ → ℕ → List ℕ
archive_numbers pair generation session = codes "archive pair "
    ++ (decimal pair ++ (codes " generation " ++ (decimal generation ++ (codes " session "
    ++ (decimal session ++ codes "\n")))))
