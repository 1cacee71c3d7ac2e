-- What a disk in a file shows.
use Rattle.std.specs.Prelude.{ℕ}
use Rattle.syn_disk.specs.declared.file.DiskFile.{Ghosts}
use Rattle.syn_disk.specs.declared.file.FileDisk.{FileDisk}

module _ {F : Type 0} {file : Ghosts F} (disk : FileDisk F file) where
  abbrev pub file_of : F
  file_of = disk.file

  -- how many calls have failed
  abbrev pub failures_of : ℕ
  failures_of = disk.failed
