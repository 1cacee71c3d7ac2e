-- Which files are read.
use Rattle.std.specs.Prelude.{◌<◌, ◌^◌, length}
use Rattle.syn_model.specs.Version.{Version}
use Rattle.syn_model.specs.Contents.{Contents, AreLawfulContentsIn}

-- a file of a length that four bytes spell
abbrev pub IsBriefFileIn : Version → Contents → Type 0
IsBriefFileIn version contents = AreLawfulContentsIn version contents
    × (length contents.bytes < 2 ^ 32)
