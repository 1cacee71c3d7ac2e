-- What is read of a listing, part by part.
use Rattle.std.specs.Prelude.{ℕ, flat_map}
use Rattle.syn_model.specs.Path.{Bytes}
use Rattle.syn_message.specs.Listings.{Entries, IsEntry, entry_spelling}
use Rattle.syn_wire.specs.Reads.{AreSoMany}

abbrev pub each_spelling : Entries → Bytes
each_spelling entries = flat_map entry_spelling entries

-- so many lawful entries
abbrev pub AreEntries : ℕ → Entries → Type 0
AreEntries = AreSoMany IsEntry
