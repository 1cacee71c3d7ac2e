-- Why a call of a tree is refused, as a refusal of the product.
use Rattle.std.specs.Prelude.{Result, Ok, Err, Option, Some, None}
use Rattle.syn_model.specs.Refusal.{Refusal}
use Rattle.syn_model.specs.Refusal as why
use Rattle.syn_path.specs.declared.error.PathError.{PathError}
use Rattle.syn_path.specs.declared.error.PathError.TheVariants as path
use Rattle.syn_tree.specs.declared.error.TreeError.{TreeError}
use Rattle.syn_tree.specs.declared.error.TreeError.TheVariants.{NoParent, IsDirectory, Exists}
use Rattle.syn_tree.specs.declared.error.TreeError.TheVariants.{Absent, Root, Full, Memory}

abbrev pub refusal_of : TreeError → Refusal
refusal_of NoParent = why.NoParent
refusal_of IsDirectory = why.IsDirectory
refusal_of Exists = why.Exists
refusal_of Absent = why.Absent
refusal_of Root = why.Root
refusal_of Full = why.Full
refusal_of Memory = why.Memory

abbrev pub of_path : PathError → TreeError
of_path path.BadPath = Full
of_path path.Memory = Memory

-- why a call was refused, if it was
abbrev pub refusal_in : {X : Type 0} → Result X TreeError → Option Refusal
refusal_in (Ok x) = None
refusal_in (Err e) = Some (refusal_of e)
