-- What a session that scans comes to with an answer.
use Rattle.std.specs.Prelude.{◌≡◌, ◌⊎◌, ◌≤◌, ◌+◌, ◌++◌, ℕ, length, [], Some, None, Contains}
use Rattle.std.specs.Prelude.{AllPairs, Result, Ok, Err}
use Rattle.syn_machine.specs.Coordinator.{Exchange, MayWait, Running, hearing, numbered}
use Rattle.syn_machine.specs.Network.{Which, IsRepeat}
use Rattle.syn_machine.specs.Session.{BothBegun, MayAsk, WasAsked, fault_of}
use Rattle.syn_machine.specs.Side.{IsLawfulBody, Reply, Request}
use Rattle.syn_model.specs.Archive as model
use Rattle.syn_model.specs.Refusal.{Memory}
use Rattle.syn_refusal.specs.Refusals.{cause_of}
use Rattle.syn_refusal.specs.declared.refusal.Refusal.{Refusal}
use Rattle.syn_scan.specs.Found.{IsWhole}
use Rattle.syn_session.specs.Answering.{IsAskedOn, IsHeard, asks_of, exchange_of}
use Rattle.syn_session.specs.Sessions.{IsStage, Tells}
use Rattle.syn_session.specs.Stages.{AreOfScan, IsFoundOnBoth, found_on, nothing_reached}
use Rattle.syn_session.specs.Stages.{peer_of, reached_by, waiting_of}
use Rattle.syn_session.specs.declared.hearing.Heard.{Heard}
use Rattle.syn_session.specs.declared.hearing.Heard.TheVariants.{Ask, Scanned}
use Rattle.syn_session.specs.declared.session.Asks.{Asks}
use Rattle.syn_session.specs.declared.session.Session.{Session}

-- a request that no other was before
abbrev pub IsFresh : Running → Which → Request → Type 0
IsFresh heard side request = (n : ℕ) (before : Request) → WasAsked heard side n before
    → IsRepeat before request → ⊥

-- it asks both sides for this
pub record IsAsking (old new : Session) (asks : Asks) : Type 0 where
  pub peer : (side : Which) → IsAskedOn old.number (peer_of old side) (peer_of new side)
      (asks_of asks side)
  pub progress : new.progress ≡ old.progress

-- what is asked next may be, for the first time, beside what waits; and something waits then
pub record MayGoOn (archive : model.Archive) (session : Session) (heard : Running) (asks : Asks)
    : Type 0 where
  pub may_wait : (side : Which) → MayWait (waiting_of (peer_of session side)
      ++ numbered (peer_of session side).next_number (asks_of asks side))
  pub fresh : (side : Which) (request : Request) → Contains (asks_of asks side) request
      → IsFresh heard side request
  pub apart : (side : Which) → AllPairs (λ one other. ¬ IsRepeat one other) (asks_of asks side)
  pub may : (side : Which) (request : Request) → Contains (asks_of asks side) request
      → MayAsk archive heard side request × IsLawfulBody request
  pub some : (side : Which)
      × (1 ≤ length (waiting_of (peer_of session side)) + length (asks_of asks side))
  pub stage : (next : Session) → IsAsking session next asks
      → IsStage archive next next.progress heard.taken (reached_by heard)

-- it has taken the answer, and goes on to scan; or each directory of both sides was answered
pub record IsScanned (session : Session) (heard : Running) : Type 0 where
  pub begun : BothBegun heard.taken
  pub whole : (side : Which) → IsWhole (found_on session side)
  pub silent : (side : Which) → waiting_of (peer_of session side) ≡ []

abbrev pub ScansOn : Session → Running → Heard → Type 0
ScansOn session heard (Ask asks) = (archive : model.Archive)
    → MayGoOn archive session heard asks
ScansOn session heard Scanned = IsScanned session heard

pub record HasHeard (session : Session) (heard : Running) : Type 0 where
  pub heard_is : IsHeard session heard
  pub found : IsFoundOnBoth session heard.taken
  pub scans : session.progress ≡ None
  pub reached : reached_by heard ≡ nothing_reached
  pub of_scan : AreOfScan heard.taken

-- the session ends with the answer at once; or after it, for lack of memory
pub data EndsHearing (session : Session) (running : Running) (taken : Exchange) (why : Refusal)
    : Type 0 where
  at_once : (fault_of running.taken taken.side taken.request taken.reply ≡ Some (cause_of why))
      ⊎ (cause_of why ≡ Memory) → Tells session running → EndsHearing session running taken why
  afterwards : fault_of running.taken taken.side taken.request taken.reply ≡ None →
      cause_of why ≡ Memory → Tells session (hearing running taken) →
      EndsHearing session running taken why

-- what comes of it
abbrev pub Hears : Session → Running → Which → ℕ → Request → Reply →
    Result Heard Refusal → Type 0
Hears session running side number request reply (Ok next) =
    let heard = hearing running (exchange_of side number request reply) in
    (fault_of running.taken side request reply ≡ None) × HasHeard session heard
    × ScansOn session heard next
Hears session running side number request reply (Err why) =
    EndsHearing session running (exchange_of side number request reply) why
