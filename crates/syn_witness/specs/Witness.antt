-- Runs that the definitions are to allow, step by step: a session that carries a file.
use Rattle.std.specs.Prelude.{ℕ, ◌≡◌, false, [], ◌∷◌, Option, None, map, length}
use Rattle.syn_model.specs.Rows.{a_name}
use Rattle.syn_model.specs.Path.{Path}
use Rattle.syn_model.specs.Event.{Put, Edit, Edited, Began, Replaced}
use Rattle.syn_model.specs.Tree.{Tree, file, subtree}
use Rattle.syn_model.specs.Image.{image_spelling}
use Rattle.syn_model.specs.MarkSpelling.{archive_spelling}
use Rattle.syn_model.specs.History.{standing_of, tree_of}
use Rattle.syn_model.specs.Mark.{mark}
use Rattle.syn_model.specs.Archive.{Session, Recorded, new_archive}
use Rattle.syn_machine.specs.Network.{Which, Left, Right}
use Rattle.syn_runs.specs.Acknowledged.{Happened, Kept_by}
use Rattle.syn_machine.specs.Report.{Report, Complete}
use Rattle.syn_machine.specs.Machine.{Up, Journaled, unarmed, room_after}
use Rattle.syn_machine.specs.SideMachine.{SideMachine}
use Rattle.syn_runs.specs.World.{World, Edits, Start, Deliver, Runs}
use Rattle.syn_runs.specs.Runs.{IsStart, stores_of}
use Rattle.syn_runs.specs.Headline.{formatted, IsQuietSession, PlansWith}
use Rattle.syn_machine.specs.Side.{token_of}

-- what the image of no events leaves of a half of the disk
abbrev pub new_room : ℕ
new_room = 4194247

-- and that of an archive of no marks
abbrev pub new_archive_room : ℕ
new_archive_room = 4194266

abbrev pub NewRoomIs : Type 0
NewRoomIs = (room_after (image_spelling 7 (standing_of [])) ≡ new_room)
    × (room_after (archive_spelling 7 new_archive) ≡ new_archive_room)

-- a journal that was just formatted and opened
abbrev pub new_journal : {V W : Type 0} → V → ℕ → Journaled V W
new_journal value room = record {
  status = Up;
  value = value;
  room = room;
  generation = 1;
  compacting = false;
  writing = None;
  arms = unarmed;
  failures = 0;
}

abbrev pub new_machine : SideMachine
new_machine = record { journal = new_journal [] new_room; staging = None }

-- three formatted disks of pair 7, opened, where the archive's journal has this room left
abbrev pub opened_with : ℕ → World
opened_with room = record {
  pair = 7;
  left = new_machine;
  right = new_machine;
  coordinator = record { journal = new_journal formatted.archive room; running = None };
  sent = [];
  acknowledged = [];
  refusals = [];
  reports = [];
  log = [];
}

abbrev pub OpenedIsStart : Type 0
OpenedIsStart = (room : ℕ) → IsStart (opened_with room)

-- the file `a` with the byte `1`
abbrev pub a_path : Path
a_path = a_name ∷ []

abbrev pub put_one : Edit
put_one = Put a_path (49 ∷ [])

abbrev pub one : Tree
one = file (49 ∷ [])

-- a session that carried one item
abbrev pub carried_report : Report
carried_report = record {
  session = 1;
  end = Complete;
  ended = None;
  done = 1;
  marked = 0;
  conflicts = [];
  refused = [];
}

-- A run from these disks, by which a session without loss carries a file that the left alone has,
-- whichever side it prefers. Both sides have it then and the archive its mark, and the session is
-- one of those that synchronize what they find
pub record CarriesFile (preference : Option Which) (room generation : ℕ) : Type 0 where
  pub world : World
  pub runs : Runs (opened_with room) (Edits Left 1 put_one ∷ Start preference
      ∷ map Deliver (0 ∷ 1 ∷ 2 ∷ 3 ∷ 4 ∷ 5 ∷ 6 ∷ 7 ∷ 8 ∷ 9 ∷ 10 ∷ 11 ∷ 12 ∷ 13 ∷ [])) world
  pub sent : length world.sent ≡ 14
  pub acknowledged : world.acknowledged
      ≡ Happened Left (Edited 1 put_one) ∷ Kept_by (Session 1) ∷ Happened Left (Began 1)
      ∷ Happened Right (Began 1) ∷ Happened Right (Replaced (token_of 1 0) a_path 1 one)
      ∷ Kept_by (Recorded a_path (mark one)) ∷ []
  pub reported : world.reports ≡ (carried_report, 6) ∷ []
  pub left : subtree (tree_of world.left.journal.value) a_path ≡ one
  pub right : subtree (tree_of world.right.journal.value) a_path ≡ one
  pub archive : subtree world.coordinator.journal.value.marks a_path ≡ mark one
  pub quiet : IsQuietSession formatted world.acknowledged world.reports carried_report
      (record { left = Edited 1 put_one ∷ []; right = []; archive = new_archive }) (stores_of world)
  pub plans : PlansWith world.log 1 preference
  pub generation_then : world.coordinator.journal.generation ≡ generation

-- the record of the file has room
abbrev pub FileIsCarried : Type 0
FileIsCarried = (preference : Option Which) → CarriesFile preference new_archive_room 1

-- It has none, where 50 bytes are left: a checkpoint makes room for it within the answer
abbrev pub RoomIsMade : Type 0
RoomIsMade = (preference : Option Which) → CarriesFile preference 50 2
