-- How marks are spelled, and which of them are read.
use Rattle.std.specs.Prelude.{◌≡◌, true}
use Rattle.syn_model.specs.Path.{root}
use Rattle.syn_model.specs.Version.{Version, current_version}
use Rattle.syn_model.specs.Tree.{Tree, is_present}
use Rattle.syn_model.specs.Limits.{fits_archive}
use Rattle.syn_model.specs.Mark.{IsMarksIn}
use Rattle.syn_model.specs.MarkSpelling.{mark_spelling_in}
use Rattle.syn_wire.specs.Reads.{NoneBeginsAnother}

-- the marks of a file, of a directory with all below it, or of nothing, within the limits of an
-- archive
pub record IsOptionalMarkTreeIn (version : Version) (t : Tree) : Type 0 where
  pub marks : IsMarksIn version t
  pub fits : fits_archive t ≡ true

-- something is there
pub record IsMarkTreeIn (version : Version) (t : Tree) : Type 0 where
  pub optional : IsOptionalMarkTreeIn version t
  pub present : is_present t root ≡ true

abbrev pub IsMarkTree : Tree → Type 0
IsMarkTree t = IsMarkTreeIn current_version t

-- in no version does the spelling of marks begin that of others
abbrev pub NoMarksBeginOthers : Type 0
NoMarksBeginOthers =
    (version : Version) → NoneBeginsAnother (IsOptionalMarkTreeIn version)
    (mark_spelling_in version)
