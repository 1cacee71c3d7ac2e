-- How a standing goes on by an event.
use Rattle.std.specs.Prelude.{◌≡◌, ◌<◌, List, [], ◌∷◌, Option, Some, None, IfSome, refl}
use Rattle.std.specs.Coded.{Coded, code_by, coded×}
use Rattle.syn_model.specs.Tree.{Tree, coded_tree}
use Rattle.syn_model.specs.Limits.{greatest}
use Rattle.syn_model.specs.Event.{Event, Edited, Began, Replaced, after_event}
use Rattle.syn_model.specs.Refusal.{Refusal, Cause, OldSession}
use Rattle.syn_model.specs.Standing.{Standing, causes_at, edit_refusal, is_old}
use Rattle.syn_tree.specs.Change.{Replacement, IsPreparedFor, after_change}
use Rattle.syn_tree.specs.Lists.{replace_refusal}
use Rattle.syn_history.specs.Past.{Past, coded_past, past_in, standing_with}
use Rattle.syn_history.specs.Trails.{step_of}
use Rattle.syn_replica.specs.declared.standing.Update.{Update}

-- what is looked at before any memory is taken for the event
abbrev pub early_causes : Standing → Event → List Cause
early_causes standing (Edited user edit) = causes_at standing (Edited user edit)
early_causes standing (Began session) = causes_at standing (Began session)
early_causes standing (Replaced token path since new) =
    (is_old standing.session standing.token token, OldSession) ∷ []

-- why the tree refuses what the event makes of it
abbrev pub tree_refusal : Tree → Event → Option Refusal
tree_refusal tree (Edited user edit) = edit_refusal tree edit
tree_refusal tree (Began session) = None
tree_refusal tree (Replaced token path since new) = replace_refusal tree path new

abbrev pub tree_after : Tree → Option Replacement → Tree
tree_after tree None = tree
tree_after tree (Some change) = after_change tree change

-- the update may be made there
pub record IsReady (standing : Standing) (update : Update) : Type 0 where
  pub change : IfSome update.change (IsPreparedFor standing.tree)
  pub position : standing.position < greatest

-- and it is what the event makes
pub record IsOf (standing : Standing) (event : Event) (update : Update) : Type 0 where
  pub step : update.step ≡ step_of event
  pub tree : tree_after standing.tree update.change ≡ after_event standing.tree event

-- a standing is stored as its tree and its past
abbrev pub coded_standing : Coded Standing
coded_standing = code_by (Tree × Past) (coded× coded_tree coded_past) (λ s. (s.tree, past_in s))
    (λ p. standing_with p.0 p.1) (λ _. refl)
