-- What holds of spellings, for the layers above.
use Rattle.std.specs.Prelude.{◌<◌, ◌^◌}
use Rattle.std.specs.Int.{to_be_bytes, w16, w32, w64}
use Rattle.syn_model.specs.Path.{IsPath, path_spelling}
use Rattle.syn_model.specs.Version.{Version}
use Rattle.syn_model.specs.Spelling.{event_spelling_in}
use Rattle.syn_wire.specs.Events.{IsFile, IsSpelledEventIn, file_spelling}
use Rattle.syn_wire.specs.Reads.{NoneBeginsAnother}

abbrev pub NoU16BeginsAnother : Type 0
NoU16BeginsAnother = NoneBeginsAnother (λ n. n < 2 ^ 16) (to_be_bytes w16)

abbrev pub NoU32BeginsAnother : Type 0
NoU32BeginsAnother = NoneBeginsAnother (λ n. n < 2 ^ 32) (to_be_bytes w32)

abbrev pub NoU64BeginsAnother : Type 0
NoU64BeginsAnother = NoneBeginsAnother (λ n. n < 2 ^ 64) (to_be_bytes w64)

abbrev pub NoPathBeginsAnother : Type 0
NoPathBeginsAnother = NoneBeginsAnother IsPath path_spelling

-- nor bytes after their length others
abbrev pub NoFileBeginsAnother : Type 0
NoFileBeginsAnother = NoneBeginsAnother IsFile file_spelling

-- nor in any version does the spelling of an event begin that of another
abbrev pub NoEventBeginsAnother : Type 0
NoEventBeginsAnother = (version : Version) → NoneBeginsAnother (IsSpelledEventIn version)
    (event_spelling_in version)
