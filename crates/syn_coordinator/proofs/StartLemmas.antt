-- A start is the step of a coordinator that starts.
use Rattle.std.proofs.Common.{◌≡◌, ◌≢◌, ◌<◌, ◌^◌, ℕ, ◌+◌, Bool, true, false, not, nat_le}
use Rattle.std.proofs.Common.{if◌then◌else◌, [], ◌∷◌, Option, Some, None, refl, sym, ap, ◌∙◌, ◌++◌}
use Rattle.std.proofs.Common.{List, subst, inl, inr}
use Rattle.std.proofs.lemmas.Bool.{false≢true}
use Rattle.std.proofs.lemmas.Option.{none-some}
use Rattle.std.specs.Prelude.{is_some, ◌&&◌}
use Rattle.syn_disk.specs.declared.disk.Disk.{Ghosts}
use Rattle.syn_machine.specs.Coordinator.{CoordinatorMachine, CoordinatorStarts, Keeps, starts}
use Rattle.syn_machine.specs.Coordinator.{start_breaks, archive_layout, new_session, begins}
use Rattle.syn_machine.specs.Coordinator.{sent_now}
use Rattle.syn_machine.specs.Machine.{Up, Halted, Down, Status, has_room}
use Rattle.syn_machine.specs.MachineSteps.{is_halted}
use Rattle.syn_model.specs.Archive as model
use Rattle.syn_model.specs.Archive.{Session}
use Rattle.syn_model.specs.Limits.{greatest}
use Rattle.syn_model.specs.Refusal.{Refusal, Full, first_cause, Cause}
use Rattle.syn_model.specs.Refusal as why
use Rattle.syn_coordinator.specs.Coordinators.{Does, Stands, ended_in, in_report, report_shown}
use Rattle.syn_coordinator.specs.Coordinators.{runs, goes_on, goes_down, refusals_of}
use Rattle.syn_coordinator.specs.declared.coordinator.Coordinator.{Coordinator}
use Rattle.syn_session.specs.Sessions.{IsRunning, IsSession, begun}
use Rattle.syn_session.specs.declared.session.Session.{Session as Ran}
use Rattle.syn_coordinator.specs.Machines.{IsMachine, Journal}
use Rattle.syn_coordinator.specs.Tries.{HoldsTried, IsShown, Tries}
use Rattle.syn_coordinator.proofs.TriedLemmas.{failed_at, kept_quiet, tries_held}
use Rattle.syn_coordinator.proofs.TriedLemmas.{tries_none}
use Rattle.syn_archive.specs.declared.archive.Archive.{Archive}
use Rattle.syn_coordinator.specs.Steps.{KeepsSo, moves_on, moves_down}
use Rattle.syn_model.specs.Which.{Which}

is_up : Status → Bool
is_up Up = true
is_up Halted = false
is_up Down = false

not_up : {s : Status} → s ≡ Down → s ≢ Up
unfolding is_up
not_up down up = false≢true (sym (ap is_up down) ∙ ap is_up up)

halted_not_up : {s : Status} → s ≡ Halted → s ≢ Up
unfolding is_up
halted_not_up halted up = false≢true (sym (ap is_up halted) ∙ ap is_up up)

pub then_memory : (xs : List Cause) → first_cause xs ≡ None →
    first_cause (xs ++ (true, why.Memory) ∷ []) ≡ Some why.Memory
then_memory [] e = refl
then_memory ((true, v) ∷ xs) e = absurd (none-some _ (sym e))
then_memory ((false, v) ∷ xs) e = then_memory xs e

-- where no cause of four stands, the last does not
last_of_four : (a b c d : Bool) (v w x y : Refusal) →
    first_cause ((a, v) ∷ (b, w) ∷ (c, x) ∷ (not d, y) ∷ []) ≡ None → d ≡ true
last_of_four a b c true v w x y none = refl
last_of_four true b c false v w x y none = absurd (none-some _ (sym none))
last_of_four false true c false v w x y none = absurd (none-some _ (sym none))
last_of_four false false true false v w x y none = absurd (none-some _ (sym none))
last_of_four false false false false v w x y none = absurd (none-some _ (sym none))

-- so a session that starts has room for its record
pub room_for : (pair : ℕ) (machine : CoordinatorMachine) →
    first_cause (refusals_of pair machine) ≡ None → has_room (archive_layout pair) machine.journal
    (Session (machine.journal.value.last_session + 1)) ≡ true
room_for pair machine none =
    last_of_four (is_halted machine.journal.status) (is_some machine.running)
    (nat_le greatest machine.journal.value.last_session) (has_room
    (archive_layout pair) machine.journal (Session (machine.journal.value.last_session + 1)))
    why.Halted why.Busy why.Full why.JournalFull none

-- a machine that is up makes no change
pub idle_when_up : {D : Type 0} {disk : Ghosts D} (archive : Archive D disk) (pair : ℕ)
    (journal : Journal) → IsMachine archive pair journal → journal.status ≡ Up →
    journal.writing ≡ None
idle_when_up archive pair journal is up = elim is.state as (λ _. journal.writing ≡ None) [
  | inl runs ↦ runs.idle
  | inr fails ↦ absurd (halted_not_up fails.halted up)
]

-- no session runs
pub no_session : {D : Type 0} {disk : Ghosts D} (coordinator : Coordinator D disk) (pair : ℕ)
    (journal : Journal) → IsMachine coordinator.plan_runner.archive pair journal →
    coordinator.running ≡ None →
    Tries coordinator.plan_runner.tried journal →
    Stands coordinator pair (record { journal = journal; running = None })
no_session coordinator pair journal is running tries = record {
  journal = is;
  running = subst (λ s. IsRunning journal.value s None) (sym running) tt;
  quiet = λ never. absurd (false≢true never);
  untried = λ never. absurd (false≢true never);
  tries = tries;
}

module _ {D : Type 0} {disk : Ghosts D} (preference : Option Which)
    (old new : Coordinator D disk) (pair : ℕ) (machine : CoordinatorMachine)
    (idle : runs old ≡ false) where
  -- no report stands for it
  no_report : [] ≡ ended_in old new
  no_report = sym (ap (λ b. if b && not (runs new) then in_report (report_shown new) else []) idle)

  abbrev pub number : ℕ
  number = machine.journal.value.last_session + 1

  module _ (session_fits : number < 2 ^ 64) (pair_fits : pair < 2 ^ 64) where
    -- both sides are to begin the session
    pub started : machine.journal.writing ≡ None → new.plan_runner.tried ≡ None → (session : Ran) →
        new.running ≡ Some session →
        ((archive : model.Archive) → IsSession archive session (begun preference number pair)) →
        KeepsSo new.plan_runner.archive pair machine.journal (Session number)
        (Session number ∷ []) Up →
        Does old new pair (CoordinatorStarts pair preference machine) (Session number ∷ [])
        (sent_now (new_session preference number) (begins pair) (begins pair))
    started quiet untried session running begins (moves_on journal (keeps, shown) up is) =
        goes_on _ _ (starts number journal refl (session_fits, pair_fits) keeps up) (record {
          journal = is;
          running =
              subst (λ s. IsRunning journal.value s (Some (begun preference number pair)))
              (sym running)
              (begins journal.value);
          quiet = λ _. idle_when_up new.plan_runner.archive pair journal is up;
          untried = λ _. untried;
          tries =
              tries_none new.plan_runner.tried journal untried
              (idle_when_up new.plan_runner.archive pair journal is up);
        }) refl refl no_report
    started quiet untried session running begins
        (moves_down journal (keeps, shown) stopped down leaves) =
        goes_down _ _ (start_breaks number journal (Session number ∷ []) refl keeps (not_up down))
        stopped down leaves refl (tries_none new.plan_runner.tried journal untried
        (kept_quiet pair machine.journal journal (Session number) (Session number) keeps quiet))

  -- and what was being written is remembered
  remembers : HoldsTried new.plan_runner.archive (Session number) new.plan_runner.tried →
      has_room (archive_layout pair) machine.journal (Session number) ≡ true → (journal : Journal) →
      Keeps pair machine.journal (Session number) journal [] →
      IsShown new.plan_runner.archive journal →
      journal.status ≢ Up → Tries new.plan_runner.tried journal
  remembers held has journal keeps shown stops =
      tries_held new.plan_runner.archive (Session number) new.plan_runner.tried journal held stops
      shown
      (failed_at pair machine.journal journal (Session number) keeps has)

  -- the device failed as the number was kept
  pub start_failed : HoldsTried new.plan_runner.archive (Session number) new.plan_runner.tried →
      has_room (archive_layout pair) machine.journal (Session number) ≡ true → new.running ≡ None →
      KeepsSo new.plan_runner.archive pair machine.journal (Session number) [] Halted →
      Does old new pair (CoordinatorStarts pair preference machine) [] []
  start_failed held has running (moves_on journal (keeps, shown) halted is) =
      goes_on _ _ (start_breaks number journal [] refl keeps (halted_not_up halted))
      (no_session new pair journal is running
      (remembers held has journal keeps shown (halted_not_up halted))) refl refl no_report
  start_failed held has running (moves_down journal (keeps, shown) stopped down leaves) =
      goes_down _ _ (start_breaks number journal [] refl keeps (not_up down)) stopped down leaves
      refl (remembers held has journal keeps shown (not_up down))
