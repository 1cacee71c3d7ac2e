-- The coordinator as a machine: its archive's journal, the session that runs, and what it does by
-- itself in a call.
use Rattle.std.specs.Option.{option_map_or}
use Rattle.std.specs.List.{list_any, count_by}
use Rattle.std.specs.Prelude.{ℕ, suc, Bool, true, false, not, nat_le, nat_lt, if◌then◌else◌, ◌&&◌}
use Rattle.std.specs.Prelude.{◌+◌, ◌≡◌, ◌≢◌, ◌⊎◌, List, [], ◌∷◌, ◌++◌, map, filter_map, length}
use Rattle.std.specs.Prelude.{take, slice_get, Option, Some, None, is_some, IsSome}
use Rattle.syn_model.specs.Path.{Path}
use Rattle.syn_model.specs.Limits.{greatest}
use Rattle.syn_model.specs.Refusal.{Refusal, Device, Memory, Full, JournalFull, Busy, NoAnswer}
use Rattle.syn_model.specs.Refusal.{Cause}
use Rattle.syn_model.specs.Refusal as why_refused
use Rattle.syn_model.specs.Archive.{Archive, Kept, Session, Recorded, RecordedDir, CanKeep}
use Rattle.syn_model.specs.Archive.{kept_refusal}
use Rattle.syn_model.specs.Decision.{MarkSame, MarkDir, Conflict, path_of}
use Rattle.syn_machine.specs.Machine.{Status, Up, Halted, Down, Journaled, IsBefore, unarmed}
use Rattle.syn_machine.specs.Machine.{has_room, cut, with_record, Writes, Compacts}
use Rattle.syn_machine.specs.MachineSteps.{Kind, Effect, Calls}
use Rattle.syn_machine.specs.Side.{Request, Begin, Fetch, Stage, Replace, IsLawfulRequest, Reply}
use Rattle.syn_machine.specs.Side.{Done, Refused}
use Rattle.syn_machine.specs.Network.{Which, Left, Right, other, is_side, Message}
use Rattle.syn_machine.specs.Planning.{Planned, seen_on, Log, WritesTo}
use Rattle.syn_machine.specs.Report.{Report, Complete, Incomplete, is_kept, is_carrying}
use Rattle.syn_machine.specs.Report.{is_marking, conflict_at}
pub use Rattle.syn_machine.specs.Session.{Exchange, Outstanding, Running, CoordinatorMachine}
pub use Rattle.syn_machine.specs.Session.{is_recorded, archive_layout, outstanding, asked_in}
pub use Rattle.syn_machine.specs.Session.{asked_of, without, asked_count, numbered, asking}
pub use Rattle.syn_machine.specs.Session.{messages_to, most_listings, IsListing, MayWait}
pub use Rattle.syn_machine.specs.Session.{AreRising, Waits, WasTaken, WasAsked, AsksOnce}
pub use Rattle.syn_machine.specs.Session.{BothBegun, IsShown, is_not_dir, took_not_dir, entries_in}
pub use Rattle.syn_machine.specs.Session.{nodes_shown, piece_total, first_total, fits_piece}
pub use Rattle.syn_machine.specs.Session.{fault_of, plan_of, MakesPlan, HasPlan, record_for}
pub use Rattle.syn_machine.specs.Session.{AtCursor, IsStagedTo, MayAsk, AsksNext, stays, makes}

-- How a session goes through its plan

-- the archive, the item that the session has come to, what it refused so far, and whether the last
-- that it did was a checkpoint for the record that is due
pub record Walk : Type 0 where
  pub journal : Journaled Archive Kept
  pub cursor : ℕ
  pub refused : List (Refusal × Path)
  pub made_room : Bool

-- past an item: it is settled, or refused so
abbrev pub past : Walk → Journaled Archive Kept → Walk
past walk journal = record walk { journal = journal; cursor = suc walk.cursor; made_room = false }

abbrev pub refusing : Walk → Refusal → Planned → Walk
refusing walk why planned = record walk {
  cursor = suc walk.cursor;
  refused = walk.refused ++ (why, path_of planned.item) ∷ [];
  made_room = false;
}

-- a checkpoint was made for the record that is due
abbrev pub making_room : Walk → Journaled Archive Kept → Walk
making_room walk journal = record walk { journal = journal; made_room = true }

-- the request is for the item of that number
abbrev pub IsFor : ℕ → Planned → Request → Type 0
IsFor item planned (Fetch path since offset) = path ≡ path_of planned.item
IsFor item planned (Stage at offset bytes) = at ≡ item
IsFor item planned (Replace at path since size) = at ≡ item
IsFor item planned _ = ⊥

-- a record is due once the item's replacement is done, or where both scans agree, or for a
-- directory of both
pub data IsDue (item : ℕ) (planned : Planned) (taken : Exchange) : Kept → Type 0 where
  done : (path : Path) (since size : ℕ) → taken.reply ≡ Done →
      taken.request ≡ Replace item path since size →
      WritesTo planned.item taken.side path →
      IsDue item planned taken (Recorded path (seen_on planned (other taken.side)).marks)
  same : (path : Path) → planned.item ≡ MarkSame path → planned.left.marks ≡ planned.right.marks →
      IsDue item planned taken (Recorded path planned.left.marks)
  directory : (path : Path) → planned.item ≡ MarkDir path →
      IsDue item planned taken (RecordedDir path)

-- a record is due for the item at the cursor, and the archive does not refuse it
pub record IsToKeep (plan : List Planned) (taken : Exchange) (walk : Walk)
    (kept : Kept) : Type 0 where
  pub planned : Planned
  pub at : slice_get plan walk.cursor ≡ Some planned
  pub due : IsDue walk.cursor planned taken kept
  pub can : CanKeep walk.journal.value kept
  pub up : walk.journal.status ≡ Up

-- and what the journal has left does not suffice for it
pub record HasNoRoom (pair : ℕ) (plan : List Planned) (taken : Exchange) (walk : Walk)
    (kept : Kept) : Type 0 where
  pub to_keep : IsToKeep plan taken walk kept
  pub no_room : has_room (archive_layout pair) walk.journal kept ≡ false

-- a record is written; a stop may also come right after it
pub data Keeps (pair : ℕ) (journal : Journaled Archive Kept)
    (kept : Kept) : Journaled Archive Kept → List Kept → Type 0 where
  writes : (new : Journaled Archive Kept) (acknowledged : List Kept) →
      Writes (archive_layout pair) journal kept new acknowledged →
      Keeps pair journal kept new acknowledged
  cut_after : is_recorded journal.value kept ≡ false → IsBefore 4 journal.arms.fail →
      journal.arms.stop ≡ 4 →
      Keeps pair journal kept (cut (with_record (archive_layout pair) journal kept unarmed))
      (kept ∷ [])

-- A call goes on through the plan from item to item, as far as it can: it passes a conflict; it
-- refuses an item as the side did, or as the archive refuses its record; it keeps a record that is
-- due. For one that does not fit it makes a checkpoint first, once, and does nothing else before
-- that record; or it refuses the item 7 where no checkpoint can be made. A device that fails and a
-- stop end it
pub data Advances (pair : ℕ) (plan : List Planned) (taken : Exchange) : Walk → List Kept → Walk →
    Type 0 where
  stands : (walk : Walk) → Advances pair plan taken walk [] walk
  conflicts : (walk later : Walk) (kept : List Kept) (planned : Planned) (path : Path) →
      walk.made_room ≡ false →
      slice_get plan walk.cursor ≡ Some planned → planned.item ≡ Conflict path →
      Advances pair plan taken (past walk walk.journal) kept later →
      Advances pair plan taken walk kept later
  side_refuses : (walk later : Walk) (kept : List Kept) (planned : Planned) (why : Refusal) →
      walk.made_room ≡ false →
      slice_get plan walk.cursor ≡ Some planned → taken.reply ≡ Refused why →
      IsFor walk.cursor planned taken.request →
      Advances pair plan taken (refusing walk why planned) kept later →
      Advances pair plan taken walk kept later
  archive_refuses : (walk later : Walk) (kept : List Kept) (planned : Planned) (what : Kept)
      (why : Refusal) →
      walk.made_room ≡ false → slice_get plan walk.cursor ≡ Some planned →
      record_for planned planned.item ≡ Some what →
      (is_carrying planned.item ≡ true) ⊎ (walk.journal.status ≡ Up) →
      kept_refusal walk.journal.value what ≡ Some why →
      Advances pair plan taken (refusing walk why planned) kept later →
      Advances pair plan taken walk kept later
  no_checkpoint : (walk later : Walk) (kept : List Kept) (what : Kept) → walk.made_room ≡ false →
      (full : HasNoRoom pair plan taken walk what) →
      nat_le greatest walk.journal.generation ≡ true →
      Advances pair plan taken (refusing walk Full full.to_keep.planned) kept later →
      Advances pair plan taken walk kept later
  checkpoints : (walk later : Walk) (kept : List Kept) (what : Kept)
      (journal : Journaled Archive Kept) →
      walk.made_room ≡ false → HasNoRoom pair plan taken walk what →
      nat_le greatest walk.journal.generation ≡ false →
      Compacts (archive_layout pair) walk.journal journal → journal.status ≡ Up →
      Advances pair plan taken (making_room walk journal) kept later →
      Advances pair plan taken walk kept later
  checkpoint_breaks : (walk : Walk) (what : Kept) (journal : Journaled Archive Kept) →
      walk.made_room ≡ false → HasNoRoom pair plan taken walk what →
      nat_le greatest walk.journal.generation ≡ false →
      Compacts (archive_layout pair) walk.journal journal → journal.status ≢ Up →
      Advances pair plan taken walk [] (record walk { journal = journal })
  keeps : (walk later : Walk) (what : Kept) (kept : List Kept) (journal : Journaled Archive Kept) →
      IsToKeep plan taken walk what → has_room (archive_layout pair) walk.journal what ≡ true →
      Keeps pair walk.journal what journal (what ∷ []) → journal.status ≡ Up →
      Advances pair plan taken (past walk journal) kept later →
      Advances pair plan taken walk (what ∷ kept) later
  record_breaks : (walk : Walk) (what : Kept) (kept : List Kept)
      (journal : Journaled Archive Kept) →
      IsToKeep plan taken walk what → has_room (archive_layout pair) walk.journal what ≡ true →
      Keeps pair walk.journal what journal kept → journal.status ≢ Up →
      Advances pair plan taken walk kept (record walk { journal = journal })

-- How it ends

-- What a session reports that ends so: the conflicts that it came to, and Complete where nothing
-- ended it early, no item was refused and no path was unstable
abbrev pub is_whole : Running → Option Refusal → Bool
is_whole running ended = not (is_some ended) && not (nat_lt 0 (length running.refused))
    && not (took_not_dir running)

abbrev pub report_of : Running → Option Refusal → Report
report_of running ended = record {
  session = running.session;
  end = if is_whole running ended then Complete else Incomplete;
  ended = ended;
  done = count_by (λ planned. is_carrying planned.item && is_kept running.kept planned.item)
      (plan_of running);
  marked = count_by (λ planned. is_marking planned.item && is_kept running.kept planned.item)
      (plan_of running);
  conflicts = filter_map (λ planned. conflict_at planned.item)
      (take running.cursor (plan_of running));
  refused = running.refused;
}

-- why a call that has come so far ends the session: each item is settled; or the archive's device
-- failed in this call or had failed before, or the checkpoint that was just made left no room for
-- the record either, or memory is refused
pub data EndsFor (pair : ℕ) (running : Running) (taken : Exchange) (was : Status)
    (walk : Walk) : Option Refusal → Type 0 where
  settled : IsSome running.plan → slice_get (plan_of running) walk.cursor ≡ None →
      walk.journal.status ≡ was →
      EndsFor pair running taken was walk None
  fails : was ≡ Up → walk.journal.status ≡ Halted →
      EndsFor pair running taken was walk (Some Device)
  failed_before : (planned : Planned) (kept : Kept) →
      slice_get (plan_of running) walk.cursor ≡ Some planned →
      IsDue walk.cursor planned taken kept → was ≡ Halted → walk.journal.status ≡ Halted →
      EndsFor pair running taken was walk (Some why_refused.Halted)
  no_room_left : (kept : Kept) → HasNoRoom pair (plan_of running) taken walk kept →
      walk.made_room ≡ true → EndsFor pair running taken was walk (Some JournalFull)
  no_memory : walk.journal.status ≡ was → EndsFor pair running taken was walk (Some Memory)

-- the last answer to an item: its request was refused, or its replacement is done
abbrev pub is_last : Reply → Bool
is_last (Refused why) = true
is_last Done = true
is_last _ = false

-- A call

-- what a call gives beside the machine: what it acknowledged of the archive, the requests that it
-- sent, the report of a session that it ended, and the plan that it made
pub record Call : Type 0 where
  pub kept : List Kept
  pub messages : List Message
  pub reports : List Report
  pub logged : Log

abbrev pub no_call : Call
no_call = record { kept = []; messages = []; reports = []; logged = [] }

abbrev pub sent_now : Running → List Request → List Request → List Message
sent_now running left right =
    messages_to running.session Left (numbered (asked_count running Left) left)
    ++ messages_to running.session Right (numbered (asked_count running Right) right)

-- the answer has the session and number of a request that waits
pub record IsExpected (machine : CoordinatorMachine) (from : Which) (session number : ℕ)
    (running : Running) (request : Request) : Type 0 where
  pub runs : machine.running ≡ Some running
  pub of_session : session ≡ running.session
  pub asked : asked_of running from number ≡ Some request

-- the session, once the answer is taken
abbrev pub hearing : Running → Exchange → Running
hearing running exchange = record running {
  taken = running.taken ++ exchange ∷ [];
  left = if is_side Left exchange.side then without exchange.number running.left else running.left;
  right = if is_side Right exchange.side then without exchange.number running.right
      else running.right;
}

-- with its plan, as far as the call has carried it out
abbrev pub advanced : Running → Option (List Planned) → Walk → List Kept → Running
advanced running plan walk kept = record running {
  plan = plan;
  cursor = walk.cursor;
  kept = running.kept ++ kept;
  refused = walk.refused;
}

abbrev pub start_of : CoordinatorMachine → Running → Walk
start_of machine running = record {
  journal = machine.journal;
  cursor = running.cursor;
  refused = running.refused;
  made_room = false;
}

-- the call goes through the plan so far, from where the session was
abbrev pub GoesThrough : ℕ → CoordinatorMachine → Running → Exchange → Option (List Planned) →
    List Kept → Walk → Type 0
GoesThrough pair machine running taken plan kept walk =
    Advances pair (option_map_or (λ plan. plan) plan []) taken (start_of machine running) kept walk

-- and the session is so after it
abbrev pub after_taking : Running → Exchange → Option (List Planned) → Walk → List Kept → Running
after_taking running taken plan walk kept = advanced (hearing running taken) plan walk kept

-- how an answer is taken: it ends the session at once, or for lack of memory; or the call goes
-- through the plan, and then the machine is down, or the session ends, or it goes on, past an item
-- that had its last answer, and asks for what comes next
pub data Takes (pair : ℕ) (machine : CoordinatorMachine) (running : Running) (taken : Exchange) :
    CoordinatorMachine → Call → Type 0 where
  ends_at_once : (why : Refusal) →
      (fault_of running.taken taken.side taken.request taken.reply ≡ Some why) ⊎ (why ≡ Memory) →
      Takes pair machine running taken (record machine { running = None })
      (record no_call { reports = report_of running (Some why) ∷ [] })
  stops : (plan : Option (List Planned)) (logged : Log) (walk : Walk) (kept : List Kept) →
      fault_of running.taken taken.side taken.request taken.reply ≡ None →
      HasPlan machine.journal.value (hearing running taken) plan logged →
      GoesThrough pair machine running taken plan kept walk → walk.journal.status ≡ Down →
      Takes pair machine running taken (record { journal = walk.journal; running = None })
      (record no_call { kept = kept; logged = logged })
  ends : (plan : Option (List Planned)) (logged : Log) (walk : Walk) (kept : List Kept)
      (why : Option Refusal) →
      fault_of running.taken taken.side taken.request taken.reply ≡ None →
      HasPlan machine.journal.value (hearing running taken) plan logged →
      GoesThrough pair machine running taken plan kept walk →
      EndsFor pair (after_taking running taken plan walk kept) taken machine.journal.status walk
      why →
      Takes pair machine running taken (record { journal = walk.journal; running = None })
      (record no_call {
        kept = kept;
        reports = report_of (after_taking running taken plan walk kept) why ∷ [];
        logged = logged;
      })
  goes_on : (plan : Option (List Planned)) (logged : Log) (walk : Walk) (kept : List Kept)
      (left right : List Request) →
      fault_of running.taken taken.side taken.request taken.reply ≡ None →
      HasPlan machine.journal.value (hearing running taken) plan logged →
      GoesThrough pair machine running taken plan kept walk →
      walk.made_room ≡ false → walk.journal.status ≡ machine.journal.status →
      (is_last taken.reply ≡ true → walk.cursor ≢ running.cursor) →
      AsksNext walk.journal.value (after_taking running taken plan walk kept) left right →
      Takes pair machine running taken
      (record {
        journal = walk.journal;
        running = Some (asking (after_taking running taken plan walk kept) left right);
      })
      (record no_call {
        kept = kept;
        messages = sent_now (after_taking running taken plan walk kept) left right;
        logged = logged;
      })

-- A coordinator takes an answer that it waits for, and ignores any other
pub data CoordinatorTakes (pair : ℕ) (machine : CoordinatorMachine) (from : Which)
    (session number : ℕ) (reply : Reply) :
    CoordinatorMachine → Call → Type 0 where
  takes : (running : Running) (request : Request) (new : CoordinatorMachine) (call : Call) →
      IsExpected machine from session number running request →
      Takes pair machine running (record {
        side = from;
        number = number;
        request = request;
        reply = reply;
      }) new call →
      CoordinatorTakes pair machine from session number reply new call
  ignores : ((running : Running) (request : Request) →
      IsExpected machine from session number running request → ⊥) →
      CoordinatorTakes pair machine from session number reply machine no_call

-- A start

-- why a coordinator that is up refuses it
abbrev pub start_causes : ℕ → CoordinatorMachine → List Cause
start_causes pair machine =
    let last = machine.journal.value.last_session in
    (is_some machine.running, Busy) ∷ (nat_le greatest last, Full)
    ∷ (not (has_room (archive_layout pair) machine.journal (Session (last + 1))), JournalFull) ∷ []

abbrev pub new_session : Option Which → ℕ → Running
new_session preference session = record {
  session = session;
  preference = preference;
  taken = [];
  left = [];
  right = [];
  plan = None;
  cursor = 0;
  kept = [];
  refused = [];
}

abbrev pub begins : ℕ → List Request
begins pair = Begin pair ∷ []

-- the next number is kept and both sides are to begin it, with the preference; or the device fails
-- as it is written, or the machine stops
pub data CoordinatorStarts (pair : ℕ) (preference : Option Which)
    (machine : CoordinatorMachine) : CoordinatorMachine → Call → Type 0 where
  starts : (session : ℕ) (journal : Journaled Archive Kept) →
      session ≡ machine.journal.value.last_session + 1 →
      IsLawfulRequest session (Begin pair) →
      Keeps pair machine.journal (Session session) journal (Session session ∷ []) →
      journal.status ≡ Up →
      CoordinatorStarts pair preference machine
      (record {
        journal = journal;
        running = Some (asking (new_session preference session) (begins pair) (begins pair));
      })
      (record no_call {
        kept = Session session ∷ [];
        messages = sent_now (new_session preference session)
            (begins pair) (begins pair);
      })
  start_breaks : (session : ℕ) (journal : Journaled Archive Kept) (kept : List Kept) →
      session ≡ machine.journal.value.last_session + 1 →
      Keeps pair machine.journal (Session session) journal kept → journal.status ≢ Up →
      CoordinatorStarts pair preference machine (record { journal = journal; running = None })
      (record no_call { kept = kept })

-- A tick

-- a request is sent again, at most so many times
abbrev pub most_resends : ℕ
most_resends = 8

abbrev pub is_resent : Running → Bool
is_resent running = list_any (λ waiting. nat_le most_resends waiting.resent)
    (running.left ++ running.right)

abbrev pub once_more : List Outstanding → List Outstanding
once_more waiting =
    let again = λ (one : Outstanding). record one { resent = suc one.resent } in map again waiting

-- each request that waits is sent again; where one was sent again so often already, that ends the
-- session, and where none was, lack of memory alone does. A tick makes no device call
pub data CoordinatorTicks (machine : CoordinatorMachine) : CoordinatorMachine → Call → Type 0 where
  no_session : machine.running ≡ None → CoordinatorTicks machine machine no_call
  resends : (running : Running) → machine.running ≡ Some running → is_resent running ≡ false →
      CoordinatorTicks machine
      (record machine {
        running = Some (record running {
          left = once_more running.left;
          right = once_more running.right;
        });
      })
      (record no_call {
        messages = messages_to running.session Left running.left
            ++ messages_to running.session Right running.right;
      })
  gives_up : (running : Running) (why : Refusal) → machine.running ≡ Some running →
      ((is_resent running ≡ true) × (why ≡ NoAnswer))
      ⊎ ((is_resent running ≡ false) × (why ≡ Memory)) →
      CoordinatorTicks machine (record machine { running = None })
      (record no_call { reports = report_of running (Some why) ∷ [] })

-- The coordinator as a kind of machine

-- a stop loses the session
abbrev pub running_after : Status → Option Running → Option Running
running_after Down running = None
running_after Up running = running
running_after Halted running = running

-- a call on the journal left it so
abbrev pub with_archive : CoordinatorMachine → Journaled Archive Kept → CoordinatorMachine
with_archive machine journal = record {
  journal = journal;
  running = running_after journal.status machine.running;
}

abbrev pub coordinator_kind : ℕ → Kind CoordinatorMachine Call Archive Kept
coordinator_kind pair = record {
  layout = archive_layout pair;
  CanKeep = CanKeep;
  journal_of = λ machine. machine.journal;
  with_journal = with_archive;
  acknowledging = λ kept. record no_call { kept = kept };
}

-- a start, made or refused
abbrev pub Starts : ℕ → Option Which → CoordinatorMachine → Effect CoordinatorMachine Call
Starts pair preference machine = Calls (coordinator_kind pair) machine
    (start_causes pair machine) (CoordinatorStarts pair preference machine)
