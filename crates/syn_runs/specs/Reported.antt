-- What each report of a run says: which session it is of, why that ended, and why its items were
-- refused.
use Rattle.std.specs.Prelude.{ℕ, ◌≡◌, ◌≢◌, ◌↔◌, ◌++◌, true, List, [], ◌∷◌, take, slice_get, Option}
use Rattle.std.specs.Prelude.{Some, None, IsSome, IfSome, All, Contains}
use Rattle.syn_model.specs.Path.{Path}
use Rattle.syn_model.specs.Refusal.{Refusal, Memory, Full, NoAnswer, Device, Halted, JournalFull}
use Rattle.syn_model.specs.Refusal.{BadMessage}
use Rattle.syn_model.specs.Archive.{Archive, Kept, archive_of, kept_refusal}
use Rattle.syn_model.specs.Decision.{Conflict, path_of}
use Rattle.syn_machine.specs.Side.{Refused}
use Rattle.syn_machine.specs.Network.{Which, Sent, Asks, Answers}
use Rattle.syn_runs.specs.Acknowledged.{Stores, kept_in_session}
use Rattle.syn_machine.specs.Planning.{Planned, SessionPlan, Log}
use Rattle.syn_machine.specs.Report.{is_kept}
use Rattle.syn_machine.specs.Coordinator.{Exchange, Running, IsFor, IsDue, took_not_dir, fault_of}
use Rattle.syn_machine.specs.Coordinator.{plan_of, record_for, report_of, is_resent}
use Rattle.syn_runs.specs.Picture.{Picture}

-- an item of a plan is settled: it is a conflict, or it was recorded, or refused
pub data IsSettledBy (kept : List Kept) (refused : List (Refusal × Path)) (planned : Planned) :
    Type 0 where
  as_conflict : (path : Path) → planned.item ≡ Conflict path → IsSettledBy kept refused planned
  as_kept : is_kept kept planned.item ≡ true → IsSettledBy kept refused planned
  as_refused : (why : Refusal) → Contains refused (why, path_of planned.item) →
      IsSettledBy kept refused planned

-- the archive that the session found as it made its plan
abbrev pub archive_found : SessionPlan → Archive
archive_found made = record { marks = made.archive; last_session = made.session }

-- Why an item of a plan was refused, where the session took these answers and recorded this: a side
-- answered so to a request for it; or the archive refuses its record, as it was after a first part
-- of what was recorded; or its record was due, and it is 7: no checkpoint can make room for it
pub data IsRefusedFor (made : SessionPlan) (taken : List Exchange) (kept : List Kept)
    : Refusal × Path → Type 0 where
  by_side : (item : ℕ) (planned : Planned) (exchange : Exchange) (why : Refusal) →
      slice_get made.plan item ≡ Some planned → Contains taken exchange →
      exchange.reply ≡ Refused why → IsFor item planned exchange.request →
      IsRefusedFor made taken kept (why, path_of planned.item)
  by_archive : (item : ℕ) (planned : Planned) (what : Kept) (before later : List Kept)
      (why : Refusal) → slice_get made.plan item ≡ Some planned →
      record_for planned planned.item ≡ Some what → kept ≡ before ++ later →
      kept_refusal (archive_of (archive_found made) before) what ≡ Some why →
      IsRefusedFor made taken kept (why, path_of planned.item)
  by_journal : (item : ℕ) (planned : Planned) (exchange : Exchange) (what : Kept) →
      slice_get made.plan item ≡ Some planned → Contains taken exchange →
      IsDue item planned exchange what →
      IsRefusedFor made taken kept (Full, path_of planned.item)

-- a path of its scans was answered as no directory
abbrev pub HasUnstable : SessionPlan → Type 0
HasUnstable made = (side : Which) × (path : Path) × Contains (made.scan side).unstable path

-- The plan was logged for the session. Its scans have an unstable path exactly where the session
-- took an answer that a path is no directory; and each item that was refused has its cause
pub record IsPlanned (log : Log) (running : Running) (plan : List Planned) : Type 0 where
  pub made : SessionPlan
  pub logged : Contains log made
  pub of_session : made.session ≡ running.session
  pub plan_is : made.plan ≡ plan
  pub unstable : (took_not_dir running ≡ true) ↔ HasUnstable made
  pub refused : All (IsRefusedFor made running.taken running.kept) running.refused

-- the session asked a side for this, and took that answer
abbrev pub WasExchanged : Sent → ℕ → Exchange → Type 0
WasExchanged sent session exchange =
    Contains sent (Asks exchange.side session exchange.number exchange.request)
    × Contains sent (Answers exchange.side session exchange.number exchange.reply)

-- Why a session ended: each item of its plan is settled; or with an answer, as its fault says; or
-- 9, 10 or 8 at an item whose record was due; since a request was resent too often; or since memory
-- was refused
pub data EndsSo (sent : Sent) (running : Running) : Option Refusal → Type 0 where
  through : IsSome running.plan →
      All (IsSettledBy running.kept running.refused) (plan_of running) → EndsSo sent running None
  with_answer : (exchange : Exchange) (why : Refusal) →
      WasExchanged sent running.session exchange →
      fault_of running.taken exchange.side exchange.request exchange.reply ≡ Some why →
      EndsSo sent running (Some why)
  at_record : (planned : Planned) (exchange : Exchange) (what : Kept) (why : Refusal) →
      slice_get (plan_of running) running.cursor ≡ Some planned →
      Contains running.taken exchange → IsDue running.cursor planned exchange what →
      Contains (Device ∷ Halted ∷ JournalFull ∷ []) why → EndsSo sent running (Some why)
  unanswered : is_resent running ≡ true → EndsSo sent running (Some NoAnswer)
  out_of_memory : EndsSo sent running (Some Memory)

-- The session as it ended. What it took was asked and answered; its plan is the one that was logged
-- for it, and without one no item was refused; what it recorded is what the archive kept since its
-- start. Each item that it came past is settled
pub record IsReportOf (sent : Sent) (log : Log) (kept : List Kept) (running : Running)
    (ended : Option Refusal) : Type 0 where
  pub taken : (exchange : Exchange) → Contains running.taken exchange →
      WasExchanged sent running.session exchange
  pub planned : IfSome running.plan (IsPlanned log running)
  pub unplanned : running.plan ≡ None → running.refused ≡ []
  pub kept_is : kept ≡ running.kept
  pub settled : All (IsSettledBy running.kept running.refused) (take running.cursor
      (plan_of running))
  pub ends : EndsSo sent running ended

-- Each report is that of such a session: its number, its counts, its conflicts in the plan's order,
-- what was refused, and whether it is complete. It is where nothing ended the session early, no
-- item was refused, and no path of its scans was unstable
abbrev pub EachReportTells : Stores → Picture → Type 0
EachReportTells before world =
    All (λ told. (running : Running) × (ended : Option Refusal)
    × (told.0 ≡ report_of running ended)
    × IsReportOf world.sent world.log (kept_in_session (take told.1 world.acknowledged)) running
    ended) world.reports

-- No report tells of an answer that does not belong to what was asked: each side of a run answers
-- what it was asked
abbrev pub AnswersBelong : Stores → Picture → Type 0
AnswersBelong before world = All (λ told. told.0.ended ≢ Some BadMessage) world.reports
