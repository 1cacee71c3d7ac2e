-- What a call leaves of a machine, whichever kind it is of, and what its user is refused.
use Rattle.std.proofs.Common.{◌≡◌, ◌≢◌, ℕ, zero, suc, true, List, [], ◌∷◌, ◌++◌, refl, None, Some}
use Rattle.syn_model.specs.Refusal.{Refusal, Device, Memory, Cause, first_cause}
use Rattle.syn_machine.specs.Machine.{Status, Up, Halted, Down, Arms, unarmed, Meets, Journaled}
use Rattle.syn_machine.specs.Machine.{Compacts, Opens}
use Rattle.syn_machine.specs.MachineSteps.{Kind, MachineCall, Checkpoint, Fail, Stop, Open, Reopen}
use Rattle.syn_machine.specs.MachineSteps.{causes_at, refused_by, full_generation, with_device}
use Rattle.syn_machine.specs.MachineSteps.{UnlessDown, is_down, is_done, refuses, makes, Calls}
use Rattle.syn_machine.specs.MachineSteps.{Checkpoints, checkpoints, OpensDown, is_open, opens}
use Rattle.syn_machine.specs.MachineSteps.{open_fails, no_memory_to_open, Reopens, reopens}
use Rattle.syn_machine.specs.MachineSteps.{reopen_fails, reopen_is_cut, no_memory_to_reopen}
use Rattle.syn_machine.specs.MachineSteps.{Arming, arming, Does}
use Rattle.syn_runs.proofs.View.{halted_not_up, down_not_up}

-- How a call that changes its journal no other way leaves the device of a machine, and what its
-- user is refused
pub data LeavesDevice {V W : Type 0} (was : Journaled V W) : MachineCall → Status → Arms → ℕ →
    List Refusal → Type 0 where
  armed_to_fail : (call : ℕ) →
      LeavesDevice was (Fail call) was.status (record was.arms { fail = call }) 0 []
  armed_to_stop : (calls : ℕ) →
      LeavesDevice was (Stop (suc calls)) was.status (record was.arms { stop = suc calls }) 0 []
  stopped : was.status ≢ Down → LeavesDevice was (Stop zero) Down unarmed 0 []
  unopened : (calls : ℕ) (arms : Arms) (failed : ℕ) → was.status ≡ Down →
      Meets was.arms calls Halted arms failed →
      LeavesDevice was Open Down arms failed (Device ∷ [])
  halted : (calls : ℕ) (arms : Arms) (failed : ℕ) → was.status ≢ Down →
      Meets was.arms calls Halted arms failed →
      LeavesDevice was Reopen Halted arms failed (Device ∷ [])
  cut : (calls : ℕ) (arms : Arms) (failed : ℕ) → was.status ≢ Down →
      Meets was.arms calls Down arms failed → LeavesDevice was Reopen Down arms failed []
  stays : (calls : ℕ) (arms : Arms) (failed : ℕ) → was.status ≢ Down →
      Meets was.arms calls Up arms failed →
      LeavesDevice was Reopen was.status arms failed (Memory ∷ [])

-- no call brings a machine up so
pub left_not_up : {V W : Type 0} (was : Journaled V W) (call : MachineCall) (status : Status)
    (arms : Arms) (failed : ℕ) (told : List Refusal) →
    LeavesDevice was call status arms failed told → was.status ≢ Up → status ≢ Up
left_not_up was _ _ _ _ _ (armed_to_fail call) other = other
left_not_up was _ _ _ _ _ (armed_to_stop calls) other = other
left_not_up was _ _ _ _ _ (stopped up) other = down_not_up
left_not_up was _ _ _ _ _ (unopened calls arms failed down meets) other = down_not_up
left_not_up was _ _ _ _ _ (halted calls arms failed up meets) other = halted_not_up
left_not_up was _ _ _ _ _ (cut calls arms failed up meets) other = down_not_up
left_not_up was _ _ _ _ _ (stays calls arms failed up meets) other = other

-- why a call leaves a machine as it is, and what its user is refused
pub data IsStill {V W : Type 0} (was : Journaled V W) : MachineCall → List Refusal → Type 0 where
  lost : (call : MachineCall) → call ≢ Open → was.status ≡ Down → IsStill was call []
  refused : (reason : Refusal) → was.status ≢ Down → first_cause
      (causes_at was.status (full_generation was.generation) ++ (true, Memory) ∷ []) ≡ Some reason →
      IsStill was Checkpoint (reason ∷ [])
  open_still : was.status ≢ Down → IsStill was Open []
  down_still : was.status ≡ Down → IsStill was Open (Memory ∷ [])

-- by which calls a disk is opened
pub data IsOpenedBy (was : Status) : MachineCall → Type 0 where
  by_open : was ≡ Down → IsOpenedBy was Open
  by_reopen : was ≢ Down → IsOpenedBy was Reopen

module _ {M A V W : Type 0} (kind : Kind M A V W) (machine : M)
    (Left : M → A → List Refusal → Type 0) where
  abbrev was : Journaled V W
  was = kind.journal_of machine

  abbrev Stays : List Refusal → Type 0
  Stays = Left machine (kind.acknowledging [])

  -- one that may be refused
  pub calls_tell : (causes : List Cause) (Made : M → A → Type 0) →
      (was.status ≡ Down → Stays []) →
      ((reason : Refusal) → was.status ≢ Down →
      first_cause (causes_at was.status causes ++ (true, Memory) ∷ []) ≡ Some reason →
      Stays (reason ∷ [])) →
      ((next : M) (given : A) → first_cause (causes_at was.status causes) ≡ None →
      was.status ≢ Down → Made next given →
      Left next given (refused_by (kind.journal_of next).status)) →
      (next : M) (given : A) (refusals : List Refusal) →
      Calls kind machine causes Made next given refusals → Left next given refusals
  calls_tell causes Made is_lost is_refused made _ _ _ (is_down down) = is_lost down
  calls_tell causes Made is_lost is_refused made _ _ _
      (is_done _ _ _ up (refuses reason some)) = is_refused reason up some
  calls_tell causes Made is_lost is_refused made _ _ _
      (is_done _ _ _ up (makes next given none so)) = made next given none up so

  abbrev DeviceTells : MachineCall → Type 0
  DeviceTells call = (status : Status) (arms : Arms) (failed : ℕ) (told : List Refusal) →
      LeavesDevice was call status arms failed told →
      Left (with_device kind machine status arms failed) (kind.acknowledging []) told

  -- a checkpoint
  abbrev CheckpointTells : MachineCall → Type 0
  CheckpointTells call = (new : Journaled V W) → call ≡ Checkpoint →
      first_cause (causes_at was.status (full_generation was.generation)) ≡ None →
      was.status ≢ Down → Compacts kind.layout was new →
      let next = kind.with_journal machine new in
      Left next (kind.acknowledging []) (refused_by (kind.journal_of next).status)

  -- an opening
  abbrev OpeningTells : MachineCall → Type 0
  OpeningTells call = (calls : ℕ) (new : Journaled V W) (kept : List W) →
      IsOpenedBy was.status call → Opens kind.layout kind.CanKeep was calls new kept →
      Left (kind.with_journal machine new) (kind.acknowledging kept) []

  abbrev StillTells : MachineCall → Type 0
  StillTells call = (told : List Refusal) → IsStill was call told → Stays told

  arming_tells : (call : MachineCall) → call ≢ Open → StillTells call → (status : Status)
      (arms : Arms) → (was.status ≢ Down →
      Left (with_device kind machine status arms 0) (kind.acknowledging []) []) →
      (next : M) (given : A) (refusals : List Refusal) →
      UnlessDown kind machine (Arming kind machine status arms) next given refusals →
      Left next given refusals
  arming_tells call other still status arms left _ _ _ (is_down down) =
      still [] (lost call other down)
  arming_tells call other still status arms left _ _ _ (is_done _ _ _ up arming) = left up

  opening_tells : StillTells Open → DeviceTells Open → OpeningTells Open → (next : M) (given : A)
      (refusals : List Refusal) → OpensDown kind machine next given refusals →
      Left next given refusals
  opening_tells still device opened _ _ _ (is_open up) = still [] (open_still up)
  opening_tells still device opened _ _ _ (opens calls new kept down so) =
      opened calls new kept (by_open down) so
  opening_tells still device opened _ _ _ (open_fails calls arms failed down meets) =
      device Down arms failed (Device ∷ []) (unopened calls arms failed down meets)
  opening_tells still device opened _ _ _ (no_memory_to_open down) =
      still (Memory ∷ []) (down_still down)

  reopening_tells : StillTells Reopen → DeviceTells Reopen → OpeningTells Reopen → (next : M)
      (given : A) (refusals : List Refusal) →
      UnlessDown kind machine (Reopens kind machine) next given refusals → Left next given refusals
  reopening_tells still device opened _ _ _ (is_down down) = still [] (lost Reopen (λ e. cc) down)
  reopening_tells still device opened _ _ _ (is_done _ _ _ up (reopens calls new kept some so)) =
      opened calls new kept (by_reopen up) so
  reopening_tells still device opened _ _ _
      (is_done _ _ _ up (reopen_fails calls arms failed meets)) =
      device Halted arms failed (Device ∷ []) (halted calls arms failed up meets)
  reopening_tells still device opened _ _ _
      (is_done _ _ _ up (reopen_is_cut calls arms failed meets)) =
      device Down arms failed [] (cut calls arms failed up meets)
  reopening_tells still device opened _ _ _
      (is_done _ _ _ up (no_memory_to_reopen calls arms failed meets)) =
      device was.status arms failed (Memory ∷ []) (stays calls arms failed up meets)

  checkpoint_tells : CheckpointTells Checkpoint → (next : M) (given : A) →
      first_cause (causes_at was.status (full_generation was.generation)) ≡ None →
      was.status ≢ Down → Checkpoints kind machine next given →
      Left next given (refused_by (kind.journal_of next).status)
  checkpoint_tells compacts _ _ none up (checkpoints new so) = compacts new refl none up so

  -- any other
  pub does_tell : (call : MachineCall) → StillTells call → CheckpointTells call →
      OpeningTells call → DeviceTells call → (next : M) (given : A)
      (refusals : List Refusal) → Does kind machine call next given refusals →
      Left next given refusals
  does_tell Checkpoint still compacts opened device next given refusals so =
      calls_tell (full_generation was.generation) (Checkpoints kind machine)
      (λ down. still [] (lost Checkpoint (λ e. cc) down))
      (λ reason up some. still (reason ∷ []) (refused reason up some))
      (λ next given none up made. checkpoint_tells compacts next given none up made)
      next given refusals so
  does_tell (Fail call) still compacts opened device next given refusals so =
      arming_tells (Fail call) (λ e. cc) still was.status (record was.arms { fail = call })
      (λ up. device was.status (record was.arms { fail = call }) 0 [] (armed_to_fail call))
      next given refusals so
  does_tell (Stop zero) still compacts opened device next given refusals so =
      arming_tells (Stop zero) (λ e. cc) still Down unarmed
      (λ up. device Down unarmed 0 [] (stopped up)) next given refusals so
  does_tell (Stop (suc calls)) still compacts opened device next given refusals so =
      arming_tells (Stop (suc calls)) (λ e. cc) still was.status
      (record was.arms { stop = suc calls })
      (λ up. device was.status (record was.arms { stop = suc calls }) 0 [] (armed_to_stop calls))
      next given refusals so
  does_tell Open still compacts opened device next given refusals so =
      opening_tells still device opened next given refusals so
  does_tell Reopen still compacts opened device next given refusals so =
      reopening_tells still device opened next given refusals so

-- What holds of each machine and what it gives, whatever its user is refused
module _ {M A V W : Type 0} (kind : Kind M A V W) (machine : M) (Left : M → A → Type 0)
    (same : Left machine (kind.acknowledging [])) where
  pub calls_leave : (causes : List Cause) (Made : M → A → Type 0) →
      ((next : M) (given : A) →
      first_cause (causes_at (kind.journal_of machine).status causes) ≡ None →
      (kind.journal_of machine).status ≢ Down → Made next given → Left next given) →
      (next : M) (given : A) (refusals : List Refusal) →
      Calls kind machine causes Made next given refusals → Left next given
  calls_leave causes Made made next given refusals so =
      calls_tell kind machine (λ next given _. Left next given) causes Made (λ _. same)
      (λ _ _ _. same) made next given refusals so

  pub does_leave : ((new : Journaled V W) → Compacts kind.layout (kind.journal_of machine) new →
      Left (kind.with_journal machine new) (kind.acknowledging [])) →
      ((calls : ℕ) (new : Journaled V W) (kept : List W) →
      Opens kind.layout kind.CanKeep (kind.journal_of machine) calls new kept →
      Left (kind.with_journal machine new) (kind.acknowledging kept)) → (call : MachineCall) →
      DeviceTells kind machine (λ next given _. Left next given) call → (next : M) (given : A)
      (refusals : List Refusal) → Does kind machine call next given refusals → Left next given
  does_leave compacts opened call device next given refusals so =
      does_tell kind machine (λ next given _. Left next given) call (λ _ _. same)
      (λ new _ _ _ c. compacts new c) (λ calls new kept _ o. opened calls new kept o) device
      next given refusals so
