-- Which of the model's refusals each one is.
use Rattle.syn_model.specs.Refusal.{Refusal as Cause}
use Rattle.syn_model.specs.Refusal as why
use Rattle.syn_refusal.specs.declared.refusal.Refusal.{Refusal}
use Rattle.syn_refusal.specs.declared.refusal.Refusal.TheVariants as code

abbrev pub cause_of : Refusal → Cause
cause_of code.BadPath = why.BadPath
cause_of code.NoParent = why.NoParent
cause_of code.IsDirectory = why.IsDirectory
cause_of code.Exists = why.Exists
cause_of code.Absent = why.Absent
cause_of code.Root = why.Root
cause_of code.Full = why.Full
cause_of code.JournalFull = why.JournalFull
cause_of code.Device = why.Device
cause_of code.Halted = why.Halted
cause_of code.Memory = why.Memory
cause_of code.Busy = why.Busy
cause_of code.Touched = why.Touched
cause_of code.OldSession = why.OldSession
cause_of code.BelowFloor = why.BelowFloor
cause_of code.NotStaged = why.NotStaged
cause_of code.BadStage = why.BadStage
cause_of code.NoImage = why.NoImage
cause_of code.Damaged = why.Damaged
cause_of code.WrongPair = why.WrongPair
cause_of code.BadFrame = why.BadFrame
cause_of code.TooLarge = why.TooLarge
cause_of code.BadMessage = why.BadMessage
cause_of code.NoSeat = why.NoSeat
cause_of code.NoAnswer = why.NoAnswer
cause_of code.OldVersion = why.OldVersion
