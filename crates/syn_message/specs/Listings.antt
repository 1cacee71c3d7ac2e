-- The names in a directory with the mark of each, as they are spelled.
use Rattle.std.specs.Prelude.{◌≡◌, ◌≤◌, List, [], ◌∷◌, ◌++◌, length, flat_map, map, All}
use Rattle.std.specs.Int.{to_be_bytes, w16}
use Rattle.std.specs.List.{AllAdjacentBelow}
use Rattle.std.specs.declared.cmp.Ordering.TheVariants.{Less}
use Rattle.syn_mark.specs.Marks.{IsDigestOrDirectory, content_of}
use Rattle.syn_mark.specs.declared.mark.Mark.{Mark}
use Rattle.syn_model.specs.Path.{Bytes, Name, IsName, name_cmp}
use Rattle.syn_model.specs.Contents.{digest_spelling}
use Rattle.syn_model.specs.Tree.{Content, Directory, File}

abbrev pub Entries : Type 0
Entries = List (Name × Content)

abbrev pub entry_of : Name × Mark → Name × Content
entry_of entry = (entry.0, content_of entry.1)

abbrev pub entries_of : List (Name × Mark) → Entries
entries_of entries = map entry_of entries

-- a file's mark is its digest
abbrev pub mark_spelling : Content → Bytes
mark_spelling (File digest) = 1 ∷ digest_spelling digest
mark_spelling Directory = 2 ∷ []

abbrev pub entry_spelling : Name × Content → Bytes
entry_spelling entry = length entry.0 ∷ entry.0 ++ mark_spelling entry.1

abbrev pub entries_spelling : Entries → Bytes
entries_spelling entries = to_be_bytes w16 (length entries) ++ flat_map entry_spelling entries

abbrev pub IsEntry : Name × Content → Type 0
IsEntry entry = IsName entry.0 × IsDigestOrDirectory entry.1

-- each name is below the next
abbrev pub AreRising : Entries → Type 0
AreRising entries = AllAdjacentBelow (λ x y. name_cmp x.0 y.0 ≡ Less) entries (length entries)

-- as many as a directory may have, in strict byte order
pub record IsListing (entries : Entries) : Type 0 where
  pub few : length entries ≤ 256
  pub each : All IsEntry entries
  pub rising : AreRising entries
