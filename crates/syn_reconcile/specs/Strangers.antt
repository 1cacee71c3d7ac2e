-- Which items leave alone what can stand in no replica.
use Rattle.std.specs.Prelude.{◌≡◌, ◌⊎◌, false, List, Contains, Some, None}
use Rattle.std.specs.FinMap.{get}
use Rattle.syn_folder.specs.declared.stranger.Stranger.{Stranger}
use Rattle.syn_model.specs.Decision.{Item, ToLeft, ToRight, MarkSame, MarkDir, Conflict}
use Rattle.syn_model.specs.Path.{Path, comparable, is_prefix}
use Rattle.syn_model.specs.Tree.{Tree}

-- Nothing is put at, above or below it in the folder. What the replica has at its path stays: what
-- is put into the replica lies beside it, or above it where nothing is.
abbrev pub LeavesOneAlone : Stranger → Tree → Item → Type 0
LeavesOneAlone stranger replica (ToLeft path) =
    (at : Path) → stranger.path ≡ Some at → comparable at path ≡ false
LeavesOneAlone stranger replica (ToRight path) =
    (at : Path) → stranger.path ≡ Some at → (comparable at path ≡ false)
    ⊎ ((is_prefix at path ≡ false) × (get replica at ≡ None))
LeavesOneAlone stranger replica (MarkSame path) = Unit {0}
LeavesOneAlone stranger replica (MarkDir path) = Unit {0}
LeavesOneAlone stranger replica (Conflict path) = Unit {0}

abbrev pub LeavesAlone : List Stranger → Tree → Item → Type 0
LeavesAlone strangers replica item =
    (stranger : Stranger) → Contains strangers stranger → LeavesOneAlone stranger replica item
