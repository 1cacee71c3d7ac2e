-- A whole session over one file: its sides, its messages and its plan.
use Rattle.std.proofs.Common.{ℕ, List, ◌∷◌, ◌++◌, take, Some, None, [], Option}
use Rattle.syn_model.specs.Path.{Path, root}
use Rattle.syn_model.specs.Tree.{empty_directory, replace, subtree}
use Rattle.syn_model.specs.Limits.{children}
use Rattle.syn_model.specs.Mark.{mark}
use Rattle.syn_model.specs.Event.{Edited, Began, Replaced}
use Rattle.syn_model.specs.Archive.{Archive, Session, Recorded}
use Rattle.syn_model.specs.Decision.{ToRight}
use Rattle.syn_model.specs.Dirty.{Scan}
use Rattle.syn_machine.specs.Side.{Side, Begin, ListAt, Fetch, Stage, Replace, Begun, Listed}
use Rattle.syn_machine.specs.Side.{Piece, Staged, Done, token_of}
use Rattle.syn_machine.specs.Network.{Which, Left, Right, Asks, Answers, Sent}
use Rattle.syn_runs.specs.Acknowledged.{Ack, Happened, Kept_by}
use Rattle.syn_machine.specs.Planning.{Planned, SessionPlan}
use Rattle.syn_machine.specs.Coordinator.{Exchange, Running}
use Rattle.syn_witness.specs.Rows.{file_bytes}
use Rattle.syn_witness.specs.Witness.{a_path, put_one, one}
use Rattle.syn_witness.proofs.WitnessScans.{left_history, right_history, left_scan, right_scan}
use Rattle.syn_witness.proofs.WitnessSteps.{waits, took, runs_with}

-- The sides, as they are listed and after that
abbrev pub left_side : Side
left_side = record { history = left_history; staging = None }

abbrev pub right_side : Side
right_side = record { history = right_history; staging = None }

abbrev pub right_staged : Side
right_staged =
    record {
      history = right_history;
      staging = Some (record { token = token_of 1 0; bytes = file_bytes });
    }

abbrev pub right_done : Side
right_done =
    record {
      history = right_history ++ Replaced (token_of 1 0) a_path 1 one ∷ [];
      staging = right_staged.staging;
    }

-- and before the session
abbrev pub edited_side : Side
edited_side = record { history = Edited 1 put_one ∷ []; staging = None }

abbrev pub new_right : Side
new_right = record { history = []; staging = None }

-- the messages of the whole session
abbrev pub messages : Sent
messages =
    Asks Left 1 0 (Begin 7) ∷ Asks Right 1 0 (Begin 7) ∷ Answers Left 1 0 (Begun 2)
    ∷ Answers Right 1 0 (Begun 1)
    ∷ Asks Left 1 1 (ListAt root) ∷ Asks Right 1 1 (ListAt root)
    ∷ Answers Left 1 1 (Listed 2 (children left_scan.marks root))
    ∷ Answers Right 1 1 (Listed 1 (children right_scan.marks root))
    ∷ Asks Left 1 2 (Fetch a_path 2 0) ∷ Answers Left 1 2 (Piece 8 file_bytes)
    ∷ Asks Right 1 2 (Stage 0 0 file_bytes) ∷ Answers Right 1 2 Staged
    ∷ Asks Right 1 3 (Replace 0 a_path 1 8) ∷ Answers Right 1 3 Done ∷ []

abbrev pub acks : List Ack
acks =
    Happened Left (Edited 1 put_one) ∷ Kept_by (Session 1) ∷ Happened Left (Began 1)
    ∷ Happened Right (Began 1)
    ∷ Happened Right (Replaced (token_of 1 0) a_path 1 one) ∷ Kept_by (Recorded a_path (mark one))
    ∷ []

-- the answers that the coordinator takes, in order
abbrev pub transcript : List Exchange
transcript =
    took Left 0 (Begin 7) (Begun 2) ∷ took Right 0 (Begin 7) (Begun 1)
    ∷ took Left 1 (ListAt root) (Listed 2 (children left_scan.marks root))
    ∷ took Right 1 (ListAt root) (Listed 1 (children right_scan.marks root))
    ∷ took Left 2 (Fetch a_path 2 0) (Piece 8 file_bytes)
    ∷ took Right 2 (Stage 0 0 file_bytes) Staged ∷ took Right 3 (Replace 0 a_path 1 8) Done ∷ []

-- The plan
abbrev pub planned : Planned
planned =
    record {
      item = ToRight a_path;
      left = record { marks = mark one; since = 2 };
      right = record { marks = subtree right_scan.marks a_path; since = 1 };
    }

abbrev pub plan : List Planned
plan = planned ∷ []

abbrev pub begun_archive : Archive
begun_archive = record { marks = empty_directory; last_session = 1 }

abbrev pub recorded_archive : Archive
recorded_archive = record { marks = replace empty_directory a_path (mark one); last_session = 1 }

-- what the sides listed
abbrev pub scans : Which → Scan
scans Left = left_scan
scans Right = right_scan

abbrev pub listed_at : Which → Path → ℕ
listed_at Left path = 2
listed_at Right path = 1

-- the session, as it is logged
abbrev pub made : Option Which → SessionPlan
made preference =
    record {
      session = 1;
      preference = preference;
      scan = scans;
      since = listed_at;
      archive = empty_directory;
      plan = plan;
    }

-- The session, from one request that waits to the next
abbrev pub both_begin : Option Which → Running
both_begin preference = runs_with preference [] (waits 0 (Begin 7)) (waits 0 (Begin 7)) None

abbrev pub right_begins : Option Which → Running
right_begins preference = runs_with preference (take 1 transcript) [] (waits 0 (Begin 7)) None

abbrev pub both_list : Option Which → Running
both_list preference =
    runs_with preference (take 2 transcript) (waits 1 (ListAt root)) (waits 1 (ListAt root)) None

abbrev pub right_lists : Option Which → Running
right_lists preference = runs_with preference (take 3 transcript) [] (waits 1 (ListAt root)) None

abbrev pub left_fetches : Option Which → Running
left_fetches preference =
    runs_with preference (take 4 transcript) (waits 2 (Fetch a_path 2 0)) [] (Some plan)

abbrev pub right_stages : Option Which → Running
right_stages preference =
    runs_with preference (take 5 transcript) [] (waits 2 (Stage 0 0 file_bytes)) (Some plan)

abbrev pub right_replaces : Option Which → Running
right_replaces preference =
    runs_with preference (take 6 transcript) [] (waits 3 (Replace 0 a_path 1 8)) (Some plan)
