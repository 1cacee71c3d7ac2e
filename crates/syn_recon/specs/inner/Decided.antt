-- What the code decides, as the model has it.
use Rattle.std.specs.Prelude.{if◌then◌else◌, List, [], ◌∷◌, ◌++◌, Option}
use Rattle.syn_model.specs.Path.{Path}
use Rattle.syn_model.specs.Decision.{Item, Decision, Clean, Do, DoAndGoOn, GoOn}
use Rattle.syn_model.specs.Decision as model
use Rattle.syn_recon.specs.declared.decided.Decided.{Decided}
use Rattle.syn_recon.specs.declared.decided.Decided.TheVariants as code
use Rattle.syn_recon.specs.inner.Walks.{Row, Rows, is_settled, settled_by, item_in}

abbrev pub decision_at : Path → Decided → Decision
decision_at path code.Clean = Clean
decision_at path code.GoOn = GoOn
decision_at path code.MarkDir = DoAndGoOn (model.MarkDir path)
decision_at path code.MarkSame = Do (model.MarkSame path)
decision_at path code.ToRight = Do (model.ToRight path)
decision_at path code.ToLeft = Do (model.ToLeft path)
decision_at path code.Conflict = Do (model.Conflict path)

-- the items at a path, and the path at and below which nothing is decided afterwards
abbrev pub items_at : (Row → Decision) → Row → Option Path → List Item
items_at decide row settled = if is_settled settled row.0 then [] else item_in (decide row)

abbrev pub settled_at : (Row → Decision) → Row → Option Path → Option Path
settled_at decide row settled = if is_settled settled row.0 then settled
    else settled_by (decide row) row.0 settled

-- the items of a walk, by what is decided at each path
abbrev pub walk : (Row → Decision) → Rows → Option Path → List Item
walk decide [] settled = []
walk decide (row ∷ rows) settled = items_at decide row settled
    ++ walk decide rows (settled_at decide row settled)
