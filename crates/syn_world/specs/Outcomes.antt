-- What came of a step, as the lists of the world have it.
use Rattle.std.specs.Global.{Vec}
use Rattle.std.specs.Prelude.{◌≡◌, List, [], ◌∷◌, Option, Some, None, IfSome, map, option_map}
use Rattle.syn_machine.specs.Coordinator.{Call}
use Rattle.syn_world.specs.declared.outcome.CoordinatorOutcome.{CoordinatorOutcome}
use Rattle.syn_world.specs.declared.outcome.SideOutcome.{SideOutcome}
use Rattle.syn_world.specs.declared.outcome.SideOutcome.TheVariants.{Nothing, Acknowledged, Refused}
use Rattle.syn_model.specs.Event.{Event}
use Rattle.syn_model.specs.Refusal as model
use Rattle.syn_model.specs.Spelling.{event_spelling}
use Rattle.syn_refusal.specs.Refusals.{cause_of}
use Rattle.syn_refusal.specs.declared.refusal.Refusal.{Refusal}
use Rattle.syn_coordinator.specs.Coordinators.{in_report}
use Rattle.syn_session.specs.Reports.{report_model}
use Rattle.syn_session.specs.Sendings.{messages_of}
use Rattle.syn_image.specs.Archives.{kept_of}
use Rattle.syn_image.specs.declared.kept.Kept.{Kept}

-- what a user was refused
abbrev pub refused_in : SideOutcome → List model.Refusal
refused_in Nothing = []
refused_in (Acknowledged spelled) = []
refused_in (Refused why) = cause_of why ∷ []

-- these events were acknowledged
abbrev pub Acknowledges : SideOutcome → List Event → Type 0
Acknowledges Nothing events = events ≡ []
Acknowledges (Acknowledged spelled) events = (event : Event) × (events ≡ event ∷ [])
    × (spelled.items ≡ event_spelling event)
Acknowledges (Refused why) events = events ≡ []

-- a refusal, if there is one
abbrev pub causes_in : Option Refusal → List model.Refusal
causes_in None = []
causes_in (Some why) = cause_of why ∷ []

-- A call of the coordinator kept, sent and reported this, and was refused so
pub record Tells (outcome : CoordinatorOutcome) (call : Call)
    (refusals : List model.Refusal) : Type 0 where
  pub kept : map kept_of outcome.kept.items ≡ call.kept
  pub sent : messages_of outcome.sent.items ≡ call.messages
  pub reports : in_report (option_map report_model outcome.ended) ≡ call.reports
  pub refusals_are : causes_in outcome.refused ≡ refusals

-- only this was kept, and nothing else came of the call
pub record TellsKept (outcome : CoordinatorOutcome) (kept : Vec Kept) : Type 0 where
  pub kept_is : outcome.kept ≡ kept
  pub sent : outcome.sent.items ≡ []
  pub ended : outcome.ended ≡ None
  pub refused : outcome.refused ≡ None

-- it was refused so, if it was, and nothing else came of it
pub record TellsRefused (outcome : CoordinatorOutcome) (refused : Option Refusal) : Type 0 where
  pub kept : outcome.kept.items ≡ []
  pub sent : outcome.sent.items ≡ []
  pub ended : outcome.ended ≡ None
  pub refused_is : outcome.refused ≡ refused

-- the same of what is told, if anything is
abbrev pub TellsKeptOf : Option CoordinatorOutcome → Option CoordinatorOutcome → Type 0
TellsKeptOf None told = told ≡ None
TellsKeptOf (Some outcome) told = IfSome told (λ now. TellsKept now outcome.kept)
