-- What a call comes to with an answer to what a session asks before it has its plan.
use Rattle.std.proofs.Common.{◌≡◌, ℕ, true, List, [], Option, Some, None, refl, sym, subst}
use Rattle.std.proofs.lemmas.List.{append-nil}
use Rattle.syn_archive.specs.declared.archive.Archive.{Archive}
use Rattle.syn_disk.specs.declared.disk.Disk.{Ghosts}
use Rattle.syn_machine.specs.Coordinator.{EndsFor, Exchange, Running, fault_of, hearing, is_last}
use Rattle.syn_machine.specs.Coordinator.{no_memory, stands, stays}
use Rattle.syn_model.specs.Archive.{Kept}
use Rattle.syn_model.specs.Archive as model
use Rattle.syn_refusal.specs.declared.refusal.Refusal.{Refusal}
use Rattle.syn_coordinator.specs.Machines.{IsMachine, Journal}
use Rattle.syn_coordinator.specs.Tries.{Tries}
use Rattle.syn_coordinator.specs.declared.session_end.SessionEnd.TheVariants.{Early}
use Rattle.syn_session.specs.declared.session.Asks.{Asks}
use Rattle.syn_session.specs.declared.session.Session.{Session}
use Rattle.syn_coordinator.specs.declared.tried.TriedRecord.{TriedRecord}
use Rattle.syn_session.specs.Hearing.{EndsHearing, HasHeard, MayGoOn, at_once, afterwards}
use Rattle.syn_session.specs.Stages.{reached_by}
use Rattle.syn_coordinator.specs.inner.Taking.{TakesEnd, TakesOn, Walks, reaching}
use Rattle.syn_coordinator.specs.inner.Taking as taking
use Rattle.syn_coordinator.specs.inner.Walking.{walk_at}
use Rattle.syn_coordinator.proofs.AdvanceLemmas.{remembers_still}
use Rattle.syn_session.proofs.TellingLemmas.{tells_heard}

module _ {D : Type 0} {disk : Ghosts D} (new : Archive D disk) (pair : ℕ) (journal : Journal)
    (running : Running) (taken : Exchange) (session : Session)
    (is : IsMachine new pair journal) where
  walks_none : fault_of running.taken taken.side taken.request taken.reply ≡ None →
      Walks pair journal running taken (reached_by running)
      [] (walk_at journal (reached_by running))
  walks_none fault =
      record {
        fault = fault;
        logged = [];
        has = stays;
        goes = stands _;
        kept_is = sym (append-nil running.kept);
      }

  pub hears_on : (kept : List Kept) → kept ≡ [] → (asks : Asks) →
      fault_of running.taken taken.side taken.request taken.reply ≡ None →
      HasHeard session (hearing running taken) →
      ((archive : model.Archive) → MayGoOn archive session (hearing running taken) asks) →
      (is_last taken.reply ≡ true → ⊥) → TakesOn new pair journal running taken session kept asks
  hears_on kept nothing asks fault heard may not_last =
      subst (λ k. TakesOn new pair journal running taken session k asks) (sym nothing) (record {
        now = journal;
        after = reached_by running;
        walks = walks_none fault;
        last = λ last. absurd (not_last last);
        status = refl;
        quiet = λ quiet. quiet;
        is = is;
        heard = heard.heard_is;
        tells = tells_heard session (hearing running taken) heard;
        may = may journal.value;
      })

  pub hears_end : (tried : Option TriedRecord) → Tries tried journal → (kept : List Kept) →
      kept ≡ [] → (why : Refusal) → EndsHearing session running taken why →
      TakesEnd new tried pair journal running taken session kept (Early why)
  hears_end tried tries kept nothing why (at_once fault tells) =
      taking.at_once why fault tells is nothing tries
  hears_end tried tries kept nothing why (afterwards fault memory tells) =
      subst (λ k. TakesEnd new tried pair journal running taken session k (Early why)) (sym nothing)
      (taking.ends (Early why) (walk_at journal (reached_by running)) (reached_by running)
      (walks_none fault) refl refl
      (subst (λ w. EndsFor pair (reaching running taken (reached_by running)) taken journal.status
      (walk_at journal (reached_by running)) (Some w)) (sym memory) (no_memory refl)) is tells
      (remembers_still journal.status tried journal tries _ refl))
