-- What a file holds.
use Rattle.std.proofs.Common.{◌≡◌, ◌<◌, All, List, ℕ, zero, suc, refl, ap₂, arith, Option, Some}
use Rattle.std.proofs.Common.{None}
use Rattle.std.specs.Int.{w32, to_be_bytes, byte_at, bytes_high_first}
use Rattle.std.proofs.lemmas.List.Elements.{All-nil, All-cons, All-append}
use Rattle.sha2.specs.Sha256.{sha256, digest_bytes}
use Rattle.syn_model.specs.Path.{Bytes}
use Rattle.syn_model.specs.Version.{Version, One, Two}
use Rattle.syn_model.specs.Contents.{Contents, AreLawfulContents, IsMode, IsModeIn, contents_of}
use Rattle.syn_model.specs.Contents.{contents_with, new_file_mode}
use Rattle.syn_model.specs.Tree.{Content, Directory, File}
use Rattle.syn_model.specs.Event.{AreBytes, put_mode}

pub same_contents : (a b : Contents) → a.mode ≡ b.mode → a.bytes ≡ b.bytes → a ≡ b
same_contents a b m e = ap₂ contents_with m e

-- the mode that a file has where none is spelled is a mode
pub mode_now : (version : Version) (mode : ℕ) → IsModeIn version mode → IsMode mode
mode_now One mode is = omega (arith, is)
mode_now Two mode is = is

pub with_are_lawful : (mode : ℕ) (bytes : Bytes) → IsMode mode → All (λ byte. byte < 256) bytes →
    AreLawfulContents (contents_with mode bytes)
with_are_lawful mode bytes is h = record { mode = is; bytes = h }

pub new_are_lawful : (bytes : Bytes) → All (λ byte. byte < 256) bytes →
    AreLawfulContents (contents_of bytes)
new_are_lawful bytes h = with_are_lawful new_file_mode bytes (omega arith) h

-- so is the mode that a put leaves, where that of a file that is there is one
pub put_mode-is_mode : (before : Option Content) →
    ((was : Contents) → before ≡ Some (File was) → IsMode was.mode) → IsMode (put_mode before)
put_mode-is_mode None is = omega arith
put_mode-is_mode (Some Directory) is = omega arith
put_mode-is_mode (Some (File was)) is = is was refl

-- digests are bytes
byte_below : (k n : ℕ) → byte_at k n < 256
byte_below zero n = omega arith
byte_below (suc k) n = omega arith

high_bytes : (k n : ℕ) → AreBytes (bytes_high_first k n)
high_bytes zero n = All-nil (λ byte. byte < 256)
high_bytes (suc k) n =
    All-cons (λ byte. byte < 256) (byte_at k n) (bytes_high_first k n) (byte_below k n)
    (high_bytes k n)

words_bytes : (h : List ℕ) (n : ℕ) → AreBytes (digest_bytes h n)
unfolding digest_bytes
words_bytes h zero = All-nil (λ byte. byte < 256)
words_bytes h (suc n) =
    All-append (λ byte. byte < 256) (digest_bytes h n) (to_be_bytes w32 _) (words_bytes h n)
    (high_bytes 4 _)

pub digest_is_bytes : (bytes : List ℕ) → AreBytes (sha256 bytes)
unfolding sha256
digest_is_bytes bytes = words_bytes _ 8
