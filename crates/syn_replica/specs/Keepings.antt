-- How the machine of a side keeps its history.
use Rattle.std.specs.Prelude.{ℕ}
use Rattle.syn_machine.specs.SideMachine.{side_layout}
use Rattle.syn_journal.specs.Meaning.{Keeping}
use Rattle.syn_model.specs.Event.{Event}
use Rattle.syn_model.specs.History.{History, IsAllowed}
use Rattle.syn_model.specs.Image.{StandsFor}

abbrev pub of_side : ℕ → Keeping History Event
of_side pair = record { layout = side_layout pair; CanAdd = IsAllowed; Stands = StandsFor pair }
