-- What a file and a mark hold: a mode, and bytes or a digest.
use Rattle.std.proofs.Common.{◌≡◌, ◌<◌, ℕ, ◌++◌, length, sym, ap, ◌∙◌, append_assoc, arith}
use Rattle.std.specs.Int.{to_be_bytes, w32}
use Rattle.std.proofs.lemmas.List.{length-append}
use Rattle.syn_model.specs.Path.{Bytes}
use Rattle.syn_model.specs.Version.{Version, One, Two}
use Rattle.syn_model.specs.Contents.{IsDigestIn, IsModeIn, contents_with, digest_spelling_in}
use Rattle.syn_model.specs.Contents.{contents_spelling_in, mode_spelling_in}
use Rattle.syn_model.specs.Event.{AreBytes}
use Rattle.syn_wire.specs.Contents.{IsBriefFileIn}
use Rattle.syn_wire.specs.Events.{IsFile, file_spelling}
use Rattle.syn_wire.specs.Reads.{BeginsWith, NoneBeginsAnother, NothingStands}
use Rattle.syn_wire.proofs.NumberLemmas.{u16_tells}

-- a mode is told, in the first version by its being the only one
modes_tell : (version : Version) → NoneBeginsAnother (IsModeIn version) (mode_spelling_in version)
modes_tell One m n r s hm hn e = (hm ∙ sym hn, e)
modes_tell Two m n r s hm hn e = u16_tells m n r s (omega (arith, hm)) (omega (arith, hn)) e

-- where no bytes follow a mode, nothing is a file
pub contents_none : (version : Version) (bytes after : Bytes) (mode : ℕ) →
    BeginsWith (IsModeIn version) (mode_spelling_in version) bytes mode after →
    NothingStands IsFile file_spelling after →
    NothingStands (IsBriefFileIn version) (contents_spelling_in version) bytes
contents_none version bytes after mode found none contents rest begins =
    let file = file_spelling contents.bytes in
    let whole = begins.spelled ∙ (ap (λ xs. xs ++ rest)
    (append_assoc (mode_spelling_in version contents.mode) (to_be_bytes w32 (length contents.bytes))
    contents.bytes) ∙ append_assoc (mode_spelling_in version contents.mode) file rest) in
    let same = modes_tell version mode contents.mode after (file ++ rest) found.lawful
    begins.lawful.0.mode (sym found.spelled ∙ whole) in
    none contents.bytes rest (record {
      lawful = record { bytes = begins.lawful.0.bytes; brief = begins.lawful.1 };
      spelled = same.1;
    })

pub digest_found : (version : Version) (bytes after : Bytes) (mode : ℕ) →
    BeginsWith (IsModeIn version) (mode_spelling_in version) bytes mode after →
    (digest rest : Bytes) → after ≡ digest ++ rest → AreBytes digest → length digest ≡ 32 →
    BeginsWith (IsDigestIn version) (digest_spelling_in version) bytes (contents_with mode digest)
    rest
digest_found version bytes after mode found digest rest whole are long = record {
  lawful = (record { mode = found.lawful; bytes = are }, long);
  spelled =
      found.spelled ∙ (ap (λ xs. mode_spelling_in version mode ++ xs) whole
      ∙ sym (append_assoc (mode_spelling_in version mode) digest rest));
}

-- nor is there a digest where fewer bytes follow
pub digest_none : (version : Version) (bytes after : Bytes) (mode : ℕ) →
    BeginsWith (IsModeIn version) (mode_spelling_in version) bytes mode after →
    length after < 32 → NothingStands (IsDigestIn version) (digest_spelling_in version) bytes
digest_none version bytes after mode found short digest rest begins =
    let same = modes_tell version mode digest.mode after (digest.bytes ++ rest) found.lawful
    begins.lawful.0.mode (sym found.spelled ∙ (begins.spelled
    ∙ append_assoc (mode_spelling_in version digest.mode) digest.bytes rest)) in
    absurd (omega (
      arith,
      ap length same.1,
      length-append digest.bytes rest,
      begins.lawful.1,
      short,
    ))
