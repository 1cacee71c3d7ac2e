-- What a file of the system shows.
use Rattle.std.specs.Prelude.{Bool, ℕ, List}
use Rattle.syn_disk.specs.Mirror.{FileMayLeave, bytes_of}
use Rattle.syn_disk.specs.declared.file.mirror.MirroredFile.{MirroredFile}

module _ {H : Type 0} (file : MirroredFile H) where
  -- the file of the system
  abbrev pub host_of : H
  host_of = file.file

  -- what a read gives
  abbrev pub seen_of : List ℕ
  seen_of = bytes_of file.bytes

  -- what a stop now may leave
  abbrev pub MayBeLeft : List ℕ → Type 0
  MayBeLeft = FileMayLeave (file.bytes, file.unsynced)

  -- a write or a sync of it failed
  abbrev pub has_failed_of : Bool
  has_failed_of = file.has_failed
