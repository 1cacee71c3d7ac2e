-- What is written to a side, as its contracts see it.
use Rattle.std.specs.Prelude.{◌≡◌, Bool, true, false, Option}
use Rattle.std.specs.Io.KnownBytes.{Appends}
use Rattle.syn_link.specs.Frames.{AppendsSome, Bytes}
use Rattle.syn_sync.specs.States.{writer_of}
use Rattle.syn_sync.specs.declared.session_connection.SessionConnection.{SessionConnection}

-- what was written, and whether the connection goes on
pub record Outlet : Type 0 where
  pub written : Option Bytes
  pub goes : Bool

abbrev pub outlet_of : {R W : Type 0} → (W → Option Bytes) → SessionConnection R W → Outlet
outlet_of contents side = record { written = contents (writer_of side); goes = side.open }

-- all of the bytes were written, or a beginning of them
abbrev pub Adds : Bool → Option Bytes → Option Bytes → Bytes → Type 0
Adds true old new bytes = Appends old new bytes
Adds false old new bytes = AppendsSome old new bytes

-- the bytes were written, whole or not; on a closed connection nothing was
pub record Writes (old new : Outlet) (bytes : Bytes) (whole : Bool) : Type 0 where
  pub adds : Adds whole old.written new.written bytes
  pub closed : old.goes ≡ false → new ≡ old
