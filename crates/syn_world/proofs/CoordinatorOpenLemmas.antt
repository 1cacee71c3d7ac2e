-- How many failed calls an opening of a coordinator's disk counts.
use Rattle.std.proofs.Common.{◌≡◌, ◌≢◌, ◌⊎◌, ◌<◌, ◌≤◌, ◌+◌, ◌∷◌, [], ℕ, List, ap, arith, inl, inr}
use Rattle.std.proofs.Common.{Some, refl, slice_get}
use Rattle.std.proofs.lemmas.Option.{none-some, same_Some}
use Rattle.syn_machine.specs.Coordinator.{Call, CoordinatorMachine, archive_layout}
use Rattle.syn_machine.specs.Coordinator.{coordinator_kind}
use Rattle.syn_machine.specs.Machine.{Arms, Down, Halted, Meets, Status, Up, all_made, one_fails}
use Rattle.syn_machine.specs.Machine.{one_stops}
use Rattle.syn_machine.specs.MachineSteps.{OpensDown, Reopens, is_open, no_memory_to_open}
use Rattle.syn_machine.specs.MachineSteps.{no_memory_to_reopen, open_fails, opens, reopen_fails}
use Rattle.syn_machine.specs.MachineSteps.{reopen_is_cut, reopens}
use Rattle.syn_journal.specs.Endings.{CountsFailures}
use Rattle.syn_model.specs.Archive.{CanKeep}
use Rattle.syn_model.specs.Refusal.{Device, Refusal}
use Rattle.syn_world.proofs.OpenLemmas.{opens_counts}

pub not_nine : [] ≢ Device ∷ []
not_nine e = none-some Device (ap (λ refusals. slice_get refusals 0) e)

pub which_nine : (reason : Refusal) → reason ∷ [] ≡ Device ∷ [] → reason ≡ Device
which_nine reason e = same_Some _ _ (ap (λ refusals. slice_get refusals 0) e)

-- no count of an archive's disk goes back
pub never_less : (reason : Refusal) (old new : ℕ) → CountsFailures (Some reason) old new → old ≤ new
never_less Device old new counts = omega (arith, counts)
never_less reason old new counts = omega (arith, counts)

-- device calls of which one halted the machine: one failed
halts_by_one : (arms : Arms) (calls : ℕ) (status : Status) (left : Arms) (failed : ℕ)
    → Meets arms calls status left failed → status ≡ Halted → failed ≡ 1
halts_by_one arms calls _ _ _ (all_made fail stop) halted =
    absurd (let k : Up ≡ Halted = halted in cc)
halts_by_one arms calls _ _ _ (one_fails made few before unstopped) halted = refl
halts_by_one arms calls _ _ _ (one_stops made few before stop) halted =
    absurd (let k : Down ≡ Halted = halted in cc)

-- and else none
else_none : (arms : Arms) (calls : ℕ) (status : Status) (left : Arms) (failed : ℕ)
    → Meets arms calls status left failed → status ≢ Halted → failed ≡ 0
else_none arms calls _ _ _ (all_made fail stop) other = refl
else_none arms calls _ _ _ (one_fails made few before unstopped) other = absurd (other refl)
else_none arms calls _ _ _ (one_stops made few before stop) other = refl

up_not_halted : Up ≢ Halted
up_not_halted e = cc

down_not_halted : Down ≢ Halted
down_not_halted e = cc

-- one more call failed only where it was refused 9
abbrev pub CountsOne : ℕ → ℕ → List Refusal → Type 0
CountsOne was now refusals = (now ≡ was) ⊎ ((refusals ≡ Device ∷ []) × (now ≡ was + 1))

module _ (pair : ℕ) (machine : CoordinatorMachine) where
  none_more : (failed : ℕ) → failed ≡ 0 → machine.journal.failures + failed
      ≡ machine.journal.failures
  none_more failed none = omega (arith, none)

  pub opening_counts : (next : CoordinatorMachine) (made : Call) (refusals : List Refusal)
      → OpensDown (coordinator_kind pair) machine next made refusals
      → CountsOne machine.journal.failures next.journal.failures refusals
  opening_counts _ _ _ (is_open up) = inl refl
  opening_counts _ _ _ (opens calls journal kept down so) =
      inl (opens_counts (archive_layout pair) CanKeep machine.journal calls journal kept so)
  opening_counts _ _ _ (open_fails calls arms failed down meets) =
      inr (
        refl,
        ap (λ n. machine.journal.failures + n)
            (halts_by_one machine.journal.arms calls Halted arms failed meets refl),
      )
  opening_counts _ _ _ (no_memory_to_open down) = inl refl

  pub reopening_counts : (next : CoordinatorMachine) (made : Call) (refusals : List Refusal)
      → Reopens (coordinator_kind pair) machine next made refusals
      → CountsOne machine.journal.failures next.journal.failures refusals
  reopening_counts _ _ _ (reopens calls journal kept least so) =
      inl (opens_counts (archive_layout pair) CanKeep machine.journal calls journal kept so)
  reopening_counts _ _ _ (reopen_fails calls arms failed meets) =
      inr (
        refl,
        ap (λ n. machine.journal.failures + n)
            (halts_by_one machine.journal.arms calls Halted arms failed meets refl),
      )
  reopening_counts _ _ _ (reopen_is_cut calls arms failed meets) =
      inl (none_more failed
      (else_none machine.journal.arms calls Down arms failed meets down_not_halted))
  reopening_counts _ _ _ (no_memory_to_reopen calls arms failed meets) =
      inl (none_more failed
      (else_none machine.journal.arms calls Up arms failed meets up_not_halted))

-- so it counts no more failed calls than its disk
pub counts_by : (was now before after : ℕ) (refusals : List Refusal) → CountsOne was now refusals
    → before ≤ after → (refusals ≡ Device ∷ [] → before < after) → now + before ≤ was + after
counts_by was now before after refusals (inl same) least grew = omega (arith, same, least)
counts_by was now before after refusals (inr one) least grew =
    let more = grew one.0 in
    let same = one.1 in
    omega (arith, more, same)
