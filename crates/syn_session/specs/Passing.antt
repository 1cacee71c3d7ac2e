-- How far a session has come with a new plan, and after an item.
use Rattle.std.specs.Prelude.{[], ◌++◌, Some, suc, ◌∷◌}
use Rattle.syn_machine.specs.Planning.{Planned}
use Rattle.syn_model.specs.Archive.{Kept}
use Rattle.syn_model.specs.Decision.{path_of}
use Rattle.syn_model.specs.Refusal.{Refusal as Why}
use Rattle.syn_session.specs.Plans.{Plan}
use Rattle.syn_session.specs.Stages.{Reached}

-- a session that has just made its plan
abbrev pub first_reached : Plan → Reached
first_reached plan = record { plan = Some plan; cursor = 0; kept = []; refused = [] }

-- How far a session came after an item: it is past, its record is kept, or it is refused so
abbrev pub past_at : Reached → Reached
past_at reached = record reached { cursor = suc reached.cursor }

abbrev pub kept_at : Reached → Kept → Reached
kept_at reached what = record reached {
  cursor = suc reached.cursor;
  kept = reached.kept ++ what ∷ [];
}

abbrev pub refused_at : Reached → Why → Planned → Reached
refused_at reached why planned = record reached {
  cursor = suc reached.cursor;
  refused = reached.refused ++ (why, path_of planned.item) ∷ [];
}
