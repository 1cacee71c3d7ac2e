-- Why a part of the disk cannot be read.
use Rattle.syn_journal.specs.declared.error.JournalError.{JournalError}
use Rattle.syn_journal.specs.declared.error.JournalError.TheVariants.{Device, Memory, Damaged}

-- of reading a part of the disk, which is damaged where this holds
abbrev pub IsReadRefusal : JournalError → Type 0 → Type 0
IsReadRefusal Damaged cause = cause
IsReadRefusal Memory cause = Unit {0}
IsReadRefusal Device cause = Unit {0}
IsReadRefusal _ cause = ⊥
