-- A connection as its contracts see it: its reader, what came from it and was not handed out yet,
-- and its writer.
use Rattle.std.specs.Prelude.{◌≡◌}
use Rattle.syn_link.specs.Frames.{Bytes}
use Rattle.syn_link.specs.declared.connection.Connection.{Connection}

module _ {R W : Type 0} where
  abbrev pub reader_of : Connection R W → R
  reader_of connection = connection.reader

  abbrev pub writer_of : Connection R W → W
  writer_of connection = connection.writer

  -- what came and was not handed out
  abbrev pub held_by : Connection R W → Bytes
  held_by connection = connection.framer

  -- nothing was read
  abbrev pub IsUnread : Connection R W → Connection R W → Type 0
  IsUnread old new = (reader_of new ≡ reader_of old) × (held_by new ≡ held_by old)
