-- What is refused before a folder and a replica are compared.
use Rattle.std.specs.Prelude.{◌<◌, ◌≤◌}
use Rattle.std.specs.FinMap.{len}
use Rattle.syn_model.specs.Tree.{Tree}
use Rattle.syn_path.specs.declared.side.Side.TheVariants.{Left, Right}
use Rattle.syn_reconcile.specs.declared.error.ReconcileError.{ReconcileError}
use Rattle.syn_reconcile.specs.declared.error.ReconcileError.TheVariants.{Empty}

-- a side that is told to be empty is, and the marks are not
abbrev pub IsEmptied : Tree → Tree → Tree → ReconcileError → Type 0
IsEmptied folder replica marks (Empty Left) = (len folder ≤ 1) × (1 < len marks)
IsEmptied folder replica marks (Empty Right) = (len replica ≤ 1) × (1 < len marks)
IsEmptied folder replica marks _ = ⊥
