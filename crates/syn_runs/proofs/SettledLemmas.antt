-- What a step leaves of a machine to which it adds nothing.
use Rattle.std.proofs.Common.{◌≡◌, ◌≢◌, ◌⊎◌, refl, inl, inr, Option, None, List}
use Rattle.syn_model.specs.Refusal.{Refusal}
use Rattle.syn_machine.specs.Machine.{Status, Up, Halted, Down}
use Rattle.syn_runs.specs.World.{Machine, Step}
use Rattle.syn_runs.specs.Picture.{SessionPicture, session_after}
use Rattle.syn_runs.specs.Picture.{Settles, compacts, arms_failure, arms_stop, stops}
use Rattle.syn_runs.specs.Picture.{not_opened, not_reopened, reopening_cut, no_memory_to_reopen}
use Rattle.syn_runs.proofs.View.{halted_not_up, down_not_up}

-- it comes up by none of them
pub settles_not_up : (machine : Machine) (was : Status) {step : Step} (status : Status)
    {told : List Refusal} → Settles machine was step status told → was ≢ Up → status ≢ Up
settles_not_up machine was _ (compacts status up) other = absurd (other up)
settles_not_up machine was _ (arms_failure call) other = other
settles_not_up machine was _ (arms_stop calls) other = other
settles_not_up machine was _ (stops up) other = down_not_up
settles_not_up machine was _ (not_opened down) other = down_not_up
settles_not_up machine was _ (not_reopened up) other = halted_not_up
settles_not_up machine was _ (reopening_cut up) other = down_not_up
settles_not_up machine was _ (no_memory_to_reopen up) other = other

pub running_or_none : (status : Status) (running : Option SessionPicture) →
    (session_after status running ≡ running) ⊎ (session_after status running ≡ None)
running_or_none Up running = inl refl
running_or_none Halted running = inl refl
running_or_none Down running = inr refl
