-- The versions of what is spelled in bytes: in the first a file has no mode.
use Rattle.std.specs.Prelude.{ℕ}

pub data Version : Type 0 where
  One : Version
  Two : Version

-- the one that is written, and the only one of messages
abbrev pub current_version : Version
current_version = Two

abbrev pub version_number : Version → ℕ
version_number One = 1
version_number Two = 2
