-- How the machine of a coordinator keeps its archive, and what a call asks it to keep.
use Rattle.std.specs.Borrow.{Bor}
use Rattle.std.specs.Prelude.{ℕ, Option, option_map}
use Rattle.syn_machine.specs.Coordinator.{archive_layout}
use Rattle.syn_journal.specs.Meaning.{Keeping}
use Rattle.syn_mark.specs.Marks.{or_absent}
use Rattle.syn_model.specs.Archive.{Archive, Kept, CanKeep, Recorded}
use Rattle.syn_model.specs.ArchiveImage.{ArchiveStandsFor}
use Rattle.syn_model.specs.Path.{Path}
use Rattle.syn_model.specs.Tree.{Tree}

abbrev pub of_archive : ℕ → Keeping Archive Kept
of_archive pair =
    record { layout = archive_layout pair; CanAdd = CanKeep; Stands = ArchiveStandsFor pair }

-- the marks at and below the path, or that nothing is there
abbrev pub recorded_at : Path → Option (Bor Tree) → Kept
recorded_at path marks = Recorded path (or_absent (option_map (λ there. there.now) marks))
