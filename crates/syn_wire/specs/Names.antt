-- How names are spelled: each with its length before it.
use Rattle.std.specs.Prelude.{ℕ, ◌∷◌, length}
use Rattle.std.specs.List.{flat_map}
use Rattle.syn_model.specs.Path.{Bytes, Name, Path, IsName}
use Rattle.syn_wire.specs.Reads.{AreSoMany}

abbrev pub name_spelling : Name → Bytes
name_spelling name = length name ∷ name

abbrev pub names_spelling : Path → Bytes
names_spelling names = flat_map name_spelling names

-- so many lawful names
abbrev pub AreNames : ℕ → Path → Type 0
AreNames = AreSoMany IsName
