-- Why a call of a scanner is refused, as a refusal of the product.
use Rattle.syn_model.specs.Refusal.{Refusal}
use Rattle.syn_model.specs.Refusal as why
use Rattle.syn_path.specs.declared.error.PathError.{PathError}
use Rattle.syn_path.specs.declared.error.PathError.TheVariants as path
use Rattle.syn_tree.specs.declared.error.TreeError.{TreeError}
use Rattle.syn_tree.specs.declared.error.TreeError.TheVariants as tree
use Rattle.syn_scan.specs.declared.error.ScanError.{ScanError}
use Rattle.syn_scan.specs.declared.error.ScanError.TheVariants.{Memory, TooLarge, BadMessage}

abbrev pub refusal_of : ScanError → Refusal
refusal_of Memory = why.Memory
refusal_of TooLarge = why.TooLarge
refusal_of BadMessage = why.BadMessage

abbrev pub of_path : PathError → ScanError
of_path path.BadPath = BadMessage
of_path path.Memory = Memory

abbrev pub of_tree : TreeError → ScanError
of_tree tree.NoParent = BadMessage
of_tree tree.IsDirectory = BadMessage
of_tree tree.Exists = BadMessage
of_tree tree.Absent = BadMessage
of_tree tree.Root = BadMessage
of_tree tree.Full = BadMessage
of_tree tree.Memory = Memory
