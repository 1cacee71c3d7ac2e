-- What a call comes to with an answer that it takes.
use Rattle.std.specs.Option.{option_map_or}
use Rattle.std.specs.Prelude.{◌≡◌, ◌≢◌, ◌⊎◌, ℕ, true, List, [], ◌++◌, Option, None, Some, Result}
use Rattle.std.specs.Prelude.{Ok, Err}
use Rattle.syn_archive.specs.Archive.{disk_of}
use Rattle.syn_archive.specs.declared.archive.Archive.{Archive}
use Rattle.syn_coordinator.specs.declared.session_end.SessionEnd.{SessionEnd}
use Rattle.syn_coordinator.specs.declared.session_end.SessionEnd.TheVariants.{Early}
use Rattle.syn_coordinator.specs.inner.Advancing.{Remembers}
use Rattle.syn_coordinator.specs.inner.Walking.{ended_by, walk_at}
use Rattle.syn_disk.specs.Arms.{is_stopped}
use Rattle.syn_disk.specs.declared.disk.Disk.{Ghosts}
use Rattle.syn_machine.specs.Coordinator.{Advances, EndsFor, Exchange, HasPlan, Running, Walk}
use Rattle.syn_machine.specs.Coordinator.{fault_of, hearing, is_last}
use Rattle.syn_machine.specs.Machine.{Down}
use Rattle.syn_machine.specs.Planning.{Log}
use Rattle.syn_coordinator.specs.Machines.{IsMachine, Journal, LeavesMachine}
use Rattle.syn_coordinator.specs.Tries.{Tries}
use Rattle.syn_coordinator.specs.declared.tried.TriedRecord.{TriedRecord}
use Rattle.syn_model.specs.Archive.{Kept}
use Rattle.syn_model.specs.Refusal.{Memory}
use Rattle.syn_refusal.specs.Refusals.{cause_of}
use Rattle.syn_refusal.specs.declared.refusal.Refusal.{Refusal}
use Rattle.syn_session.specs.Answering.{IsHeard}
use Rattle.syn_session.specs.Hearing.{MayGoOn}
use Rattle.syn_session.specs.Sessions.{Tells}
use Rattle.syn_session.specs.Stages.{Reached, reached_by}
use Rattle.syn_session.specs.declared.session.Asks.{Asks}
use Rattle.syn_session.specs.declared.session.Session.{Session}

-- the session once it has taken the answer and come so far
abbrev pub reaching : Running → Exchange → Reached → Running
reaching running taken after = record (hearing running taken) {
  plan = after.plan;
  cursor = after.cursor;
  kept = after.kept;
  refused = after.refused;
}

-- the answer does not end the session, its plan stays or is made, and the call goes on through it
pub record Walks (pair : ℕ) (journal : Journal) (running : Running) (taken : Exchange)
    (after : Reached) (kept : List Kept) (walk : Walk) : Type 0 where
  pub fault : fault_of running.taken taken.side taken.request taken.reply ≡ None
  pub logged : Log
  pub has : HasPlan journal.value (hearing running taken) after.plan logged
  pub goes : Advances pair (option_map_or (λ plan. plan) after.plan []) taken
      (walk_at journal (reached_by running)) kept walk
  pub kept_is : after.kept ≡ running.kept ++ kept

-- it goes on, and may ask for this
pub record TakesOn {D : Type 0} {disk : Ghosts D} (new : Archive D disk) (pair : ℕ)
    (journal : Journal) (running : Running) (taken : Exchange) (session : Session)
    (kept : List Kept) (asks : Asks) : Type 0 where
  pub now : Journal
  pub after : Reached
  pub walks : Walks pair journal running taken after kept (walk_at now after)
  pub last : is_last taken.reply ≡ true → after.cursor ≢ running.cursor
  pub status : now.status ≡ journal.status
  pub quiet : journal.writing ≡ None → now.writing ≡ None
  pub is : IsMachine new pair now
  pub heard : IsHeard session (reaching running taken after)
  pub tells : Tells session (reaching running taken after)
  pub may : MayGoOn now.value session (reaching running taken after) asks

-- It ends with the answer at once; or after it; or the machine is down. It remembers what could
-- not be kept
pub data TakesEnd {D : Type 0} {disk : Ghosts D} (new : Archive D disk) (tried : Option TriedRecord)
    (pair : ℕ) (journal : Journal) (running : Running) (taken : Exchange) (session : Session)
    (kept : List Kept) : SessionEnd → Type 0 where
  at_once : (why : Refusal) →
      (fault_of running.taken taken.side taken.request taken.reply ≡ Some (cause_of why))
      ⊎ (cause_of why ≡ Memory) →
      Tells session running → IsMachine new pair journal → kept ≡ [] →
      Tries tried journal →
      TakesEnd new tried pair journal running taken session kept (Early why)
  ends : (ended : SessionEnd) (walk : Walk) (after : Reached) →
      Walks pair journal running taken after kept walk →
      walk.cursor ≡ after.cursor → walk.refused ≡ after.refused →
      EndsFor pair (reaching running taken after) taken journal.status walk (ended_by ended) →
      IsMachine new pair walk.journal → Tells session (reaching running taken after) →
      Remembers journal.status tried walk.journal ended →
      TakesEnd new tried pair journal running taken session kept ended
  goes_down : (ended : SessionEnd) (walk : Walk) (after : Reached) →
      Walks pair journal running taken after kept walk →
      is_stopped (disk.arms (disk_of new)) ≡ true → walk.journal.status ≡ Down →
      LeavesMachine disk (disk_of new) pair walk.journal → Tries tried walk.journal →
      TakesEnd new tried pair journal running taken session kept ended

abbrev pub TakesSo : {D : Type 0} → {disk : Ghosts D} → Archive D disk → Option TriedRecord → ℕ →
    Journal → Running → Exchange → Session → List Kept → Result Asks SessionEnd → Type 0
TakesSo new tried pair journal running taken session kept (Ok asks) =
    TakesOn new pair journal running taken session kept asks × (tried ≡ None)
TakesSo new tried pair journal running taken session kept (Err ended) =
    TakesEnd new tried pair journal running taken session kept ended
