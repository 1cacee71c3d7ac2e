-- What a run told.
use Rattle.std.specs.Prelude.{ℕ, List}
use Rattle.syn_model.specs.Refusal.{Refusal}
use Rattle.syn_runs.specs.Acknowledged.{Ack}
use Rattle.syn_machine.specs.Report.{Report}

-- What was acknowledged, and what users were refused, each in order of time; and the reports, each
-- with how much was acknowledged as its session ended
pub record Told : Type 0 where
  pub acknowledged : List Ack
  pub refused : List Refusal
  pub reports : List (Report × ℕ)
