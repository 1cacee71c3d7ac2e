-- A machine is halted only after one of its device calls failed.
use Rattle.std.proofs.Common.{◌≤◌, ◌<◌, ◌+◌, ◌≡◌, ◌≢◌, ℕ, List, [], ◌∷◌, sym, ◌∙◌, subst, arith}
use Rattle.syn_machine.specs.Machine.{Status, Halted, Down, Arms, Journaled, Meets, all_made}
use Rattle.syn_machine.specs.Machine.{one_fails, one_stops}
use Rattle.syn_runs.specs.World.{World, Machine, At, Coordinator, Step, Runs, failures_of}
use Rattle.syn_machine.specs.Network.{Left, Right}
use Rattle.syn_runs.specs.Runs.{IsStart}
use Rattle.syn_runs.proofs.View.{up_not_halted}
use Rattle.syn_witness.specs.Forbidden.{HaltedAfterFailure}
use Rattle.syn_witness.proofs.KeptLemmas.{Property, IsKept, AllOf, step_kept}

-- a machine has counted at least so many failures, and more where it is halted
abbrev pub IsCounted : ℕ → Status → ℕ → Type 0
IsCounted base status failures = (base ≤ failures) × (status ≡ Halted → base < failures)

abbrev pub IsCountedJournal : {V W : Type 0} → ℕ → Journaled V W → Type 0
IsCountedJournal base journal = IsCounted base journal.status journal.failures

abbrev pub Counted : ℕ → Property
Counted base status arms failures = IsCounted base status failures

down_not_halted : Down ≢ Halted
down_not_halted e = cc

-- so many calls, of which as many failed
meets_counted : (base : ℕ) (arms : Arms) (calls failures : ℕ) (status : Status) (after : Arms)
    (failed : ℕ) → base ≤ failures → Meets arms calls status after failed →
    IsCounted base status (failures + failed)
meets_counted base arms calls failures _ _ _ least (all_made fail stop) =
    (omega (arith, least), λ e. absurd (up_not_halted e))
meets_counted base arms calls failures _ _ _ least (one_fails made few fail stop) =
    (omega (arith, least), λ _. omega (arith, least))
meets_counted base arms calls failures _ _ _ least (one_stops made few fail stop) =
    (omega (arith, least), λ e. absurd (down_not_halted e))

pub is_counted : (base : ℕ) → IsKept (Counted base)
is_counted base = record {
  stays = λ was arms after calls failures h meets. h;
  meets = λ was status arms after calls failures failed h meets.
      meets_counted base arms calls failures status after failed h.0 meets;
  unopened = λ arms after calls failures failed h meets. (
    (meets_counted base arms calls failures Halted after failed h.0 meets).0,
    λ e. absurd (down_not_halted e),
  );
  cut_last = λ was arms failures h stop. (h.0, λ e. absurd (down_not_halted e));
  armed = λ was arms failures call h. h;
}

run_counted : (base : Machine → ℕ) (steps : List Step) (old new : World) →
    AllOf (λ machine. Counted (base machine)) old → Runs old steps new →
    AllOf (λ machine. Counted (base machine)) new
run_counted base [] old new h e = subst (AllOf (λ machine. Counted (base machine))) (sym e) h
run_counted base (step ∷ steps) old new h (between, g, more) =
    run_counted base steps between new
    (step_kept (λ machine. Counted (base machine)) (λ machine. is_counted (base machine)) old h step
    (λ machine calls is calls' e was arms failures c.
    (c, (c.0, λ e. absurd (down_not_halted e)))) between g) more

opened_counted : (world : World) → IsStart world →
    AllOf (λ machine. Counted (failures_of world machine)) world
opened_counted world s (At Left) =
    (omega arith, λ halted. absurd (up_not_halted (sym s.left.0.0 ∙ halted)))
opened_counted world s (At Right) =
    (omega arith, λ halted. absurd (up_not_halted (sym s.right.0.0 ∙ halted)))
opened_counted world s Coordinator =
    (omega arith, λ halted. absurd (up_not_halted (sym s.coordinator.0.0 ∙ halted)))

pub halted_after_failure : HaltedAfterFailure
halted_after_failure old new steps s g machine =
    run_counted (failures_of old) steps old new (opened_counted old s) g machine
