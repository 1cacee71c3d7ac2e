-- Locks of a file, by what each is taken for.
use Rattle.syn_disk.specs.declared.file.host.Access.{Access}

-- each lock that was held is held still
abbrev pub StillHeld : (Access → Type 0) → (Access → Type 0) → Type 0
StillHeld old new = (access : Access) → old access → new access
