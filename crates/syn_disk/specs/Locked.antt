-- A file that is locked, and of which nothing was read yet.
use Rattle.std.specs.Prelude.{◌≡◌}
use Rattle.syn_disk.specs.declared.file.host.Access.{Access}
use Rattle.syn_disk.specs.declared.file.locked.LockedFile.{LockedFile}

module _ {H : Type 0} (IsHeld : H → Access → Type 0) where
  -- it was locked for this access, and the lock is held
  abbrev pub IsLockedFile : LockedFile H → Access → Type 0
  IsLockedFile locked access = (locked.access ≡ access) × IsHeld locked.file access
