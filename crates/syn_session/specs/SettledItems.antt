-- What became of the items of a session, and what a report of the model has of it.
use Rattle.std.specs.Prelude.{ℕ, List, [], map}
use Rattle.syn_machine.specs.Report.{Report}
use Rattle.syn_model.specs.Path.{Path}
use Rattle.syn_model.specs.Refusal.{Refusal}
use Rattle.syn_refusal.specs.Refusals.{cause_of}
use Rattle.syn_session.specs.declared.settled_items.SettledItems.{SettledItems}

-- how many items were carried and marked, and which are in conflict or refused
pub record Settled : Type 0 where
  pub done : ℕ
  pub marked : ℕ
  pub conflicts : List Path
  pub refused : List (Refusal × Path)

abbrev pub settled_by : SettledItems → Settled
settled_by items = record {
  done = items.done;
  marked = items.marked;
  conflicts = items.conflicts.now;
  refused = map (λ one. (cause_of one.0, one.1)) items.refused.now;
}

abbrev pub settled_in : Report → Settled
settled_in report = record {
  done = report.done;
  marked = report.marked;
  conflicts = report.conflicts;
  refused = report.refused;
}

abbrev pub nothing_settled : Settled
nothing_settled = record { done = 0; marked = 0; conflicts = []; refused = [] }
