-- Why a folder is not read or written, as a refusal of the product.
use Rattle.std.specs.IoError.{error_kind}
use Rattle.std.specs.declared.io.ErrorKind.{ErrorKind}
use Rattle.std.specs.declared.io.ErrorKind.TheVariants.{OutOfMemory}
use Rattle.syn_model.specs.Refusal.{Refusal}
use Rattle.syn_model.specs.Refusal as why
use Rattle.syn_tree.specs.Refusals.{refusal_of as of_tree}
use Rattle.syn_tree.specs.declared.error.TreeError.TheVariants as tree
use Rattle.syn_folder.specs.declared.error.FolderError.{FolderError}
use Rattle.syn_folder.specs.declared.error.FolderError.TheVariants.{Changed, NotEmpty, Strange}
use Rattle.syn_folder.specs.declared.error.FolderError.TheVariants.{System, Tree}

-- that of a call of the system that failed so
abbrev pub refusal_in : ErrorKind → Refusal
refusal_in OutOfMemory = why.Memory
refusal_in _ = why.Device

abbrev pub refusal_of : FolderError → Refusal
refusal_of (Tree error) = of_tree error
refusal_of NotEmpty = why.Exists
refusal_of (Strange strangers) = why.Full
refusal_of (Changed paths) = why.Touched
refusal_of (System error) = refusal_in (error_kind error)

-- memory was refused, before anything was written
abbrev pub no_memory : FolderError
no_memory = Tree tree.Memory

-- a call of the system failed: a part may be written
abbrev pub IsOfSystem : FolderError → Type 0
IsOfSystem (System error) = Unit {0}
IsOfSystem _ = ⊥
