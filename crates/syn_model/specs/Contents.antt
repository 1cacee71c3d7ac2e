-- What a file holds, and all that is said of it alone: a file that holds more changes here.
use Rattle.std.specs.Prelude.{ℕ, ◌≡◌, ◌+◌, ◌<◌, ◌^◌, ◌==◌, ◌&&◌, ◌++◌, Bool, All, length, bytes_eq}
use Rattle.std.specs.Prelude.{refl, []}
use Rattle.std.specs.Coded.{Coded, code_by, coded_ℕ, coded_list, coded×}
use Rattle.std.specs.Int.{to_be_bytes, w16, w32}
use Rattle.sha2.specs.Sha256.{sha256}
use Rattle.syn_model.specs.Path.{Bytes}
use Rattle.syn_model.specs.Version.{Version, One, Two, current_version}

-- its mode, the nine permission bits of POSIX, and its bytes
pub record Contents : Type 0 where
  pub mode : ℕ
  pub bytes : Bytes

-- that of a new file, octal 644: its owner reads and writes it, and all others read it
abbrev pub new_file_mode : ℕ
new_file_mode = 420

-- nine bits; where none is spelled, it is that of a new file
abbrev pub IsModeIn : Version → ℕ → Type 0
IsModeIn One mode = mode ≡ new_file_mode
IsModeIn Two mode = mode < 2 ^ 9

abbrev pub IsMode : ℕ → Type 0
IsMode mode = IsModeIn current_version mode

abbrev pub contents_with : ℕ → Bytes → Contents
contents_with mode bytes = record { mode = mode; bytes = bytes }

-- what a new file with these bytes holds
abbrev pub contents_of : Bytes → Contents
contents_of bytes = contents_with new_file_mode bytes

-- they are stored as both
abbrev pub coded_contents : Coded Contents
coded_contents = code_by (ℕ × Bytes) (coded× coded_ℕ (coded_list coded_ℕ))
    (λ contents. (contents.mode, contents.bytes))
    (λ both. contents_with both.0 both.1) (λ contents. refl)

pub record AreLawfulContentsIn (version : Version) (contents : Contents) : Type 0 where
  pub mode : IsModeIn version contents.mode
  pub bytes : All (λ byte. byte < 256) contents.bytes

abbrev pub AreLawfulContents : Contents → Type 0
AreLawfulContents contents = AreLawfulContentsIn current_version contents

abbrev pub are_same_contents : Contents → Contents → Bool
are_same_contents a b = a.mode == b.mode && bytes_eq a.bytes b.bytes

-- the first version spells no mode
abbrev pub mode_spelling_in : Version → ℕ → Bytes
mode_spelling_in One mode = []
mode_spelling_in Two mode = to_be_bytes w16 mode

-- the mode and the length
abbrev pub contents_front_in : Version → Contents → Bytes
contents_front_in version contents =
    mode_spelling_in version contents.mode ++ to_be_bytes w32 (length contents.bytes)

abbrev pub contents_front : Contents → Bytes
contents_front contents = contents_front_in current_version contents

-- the mode, the length and the bytes
abbrev pub contents_spelling_in : Version → Contents → Bytes
contents_spelling_in version contents = contents_front_in version contents ++ contents.bytes

abbrev pub contents_spelling : Contents → Bytes
contents_spelling contents = contents_spelling_in current_version contents

abbrev pub contents_spelling_length : Contents → ℕ
contents_spelling_length contents = 6 + length contents.bytes

-- the same mode, with the digest in place of the bytes
abbrev pub digest_of : Contents → Contents
digest_of contents = record contents { bytes = sha256 contents.bytes }

abbrev pub HasDigest : Contents → Type 0
HasDigest contents = length contents.bytes ≡ 32

-- what a mark has of a file
abbrev pub IsDigestIn : Version → Contents → Type 0
IsDigestIn version digest = AreLawfulContentsIn version digest × HasDigest digest

abbrev pub IsDigest : Contents → Type 0
IsDigest digest = IsDigestIn current_version digest

-- the mode and the digest, which has no length before it
abbrev pub digest_spelling_in : Version → Contents → Bytes
digest_spelling_in version digest = mode_spelling_in version digest.mode ++ digest.bytes

abbrev pub digest_spelling : Contents → Bytes
digest_spelling digest = digest_spelling_in current_version digest

-- equal digests are of equal bytes
abbrev pub AreApartContents : Contents → Contents → Type 0
AreApartContents a b = sha256 a.bytes ≡ sha256 b.bytes → a.bytes ≡ b.bytes
