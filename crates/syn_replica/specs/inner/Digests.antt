-- The digests of a replica's files that are kept in memory.
use Rattle.std.specs.Prelude.{◌≡◌, ◌≤◌, ℕ, List, Option, map, sum_by, length}
use Rattle.std.specs.List.{AllByRecursion}
use Rattle.std.specs.Map.{lookup}
use Rattle.std.specs.Str.{bytes_eq}
use Rattle.sha2.specs.Sha256.{sha256}
use Rattle.syn_replica.specs.declared.digests.Digests.TheInside.{Inside}

-- the bytes of a file, and a digest
abbrev pub Hashed : Type 0
Hashed = List ℕ × List ℕ

-- the digest that stands beside these bytes
abbrev pub digest_beside : List ℕ → List Hashed → Option (List ℕ)
digest_beside bytes files = lookup (bytes_eq bytes) files

abbrev pub IsRight : Hashed → Type 0
IsRight file = file.1 ≡ sha256 file.0

-- how many bytes the files have in all
abbrev pub size_of : List Hashed → ℕ
size_of files = sum_by (λ file. length file.0) files

abbrev pub files_in : Inside → List Hashed
files_in digests = map (λ entry. (entry.0.items, entry.1)) digests.by_bytes.entries

-- each digest is that of its file, and no more files are kept than a tree may hold
pub record AreDigests (digests : Inside) : Type 0 where
  pub right : AllByRecursion IsRight (files_in digests)
  pub size : size_of (files_in digests) ≤ digests.size
  pub bytes : digests.size ≤ 526336
  pub files : length digests.by_bytes.entries ≤ 1024
