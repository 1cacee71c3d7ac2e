-- The bytes of a key, and the path that they are of.
use Rattle.std.specs.Prelude.{◌≡◌, ℕ, ◌-◌, ◌==◌, nat_lt, ◌++◌, filter, length, replicate}
use Rattle.std.specs.List.{slice_split}
use Rattle.syn_model.specs.Path.{Bytes, Path, IsPath, parent, path_key}

-- the names, each followed by a zero byte, filled with zeros to 255 bytes
unfoldable pub filled : Path → Bytes
filled path = path_key path ++ replicate (255 - length (path_key path)) 0

-- what stands between zero bytes, where anything does
unfoldable pub names_of : Bytes → Path
names_of bytes = filter (λ name. nat_lt 0 (length name)) (slice_split (λ b. b == 0) bytes)

-- these bytes are those of a path, so many of them are of its names, and there the last one begins
pub record IsKey (bytes : Bytes) (len start : ℕ) : Type 0 where
  pub lawful : IsPath (names_of bytes)
  pub spelled : bytes ≡ filled (names_of bytes)
  pub counted : len ≡ length (path_key (names_of bytes))
  pub begun : start ≡ length (path_key (parent (names_of bytes)))

-- these bytes are of the names of a path alone, and there the last one begins
pub record IsSpelling (bytes : Bytes) (start : ℕ) : Type 0 where
  pub lawful : IsPath (names_of bytes)
  pub spelled : bytes ≡ path_key (names_of bytes)
  pub begun : start ≡ length (path_key (parent (names_of bytes)))
