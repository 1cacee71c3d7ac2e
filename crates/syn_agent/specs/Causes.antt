-- Why what is staged is not put, and when the device failed.
use Rattle.std.specs.Prelude.{◌≡◌, ◌≢◌, ◌⊎◌, ◌<◌, ◌==◌, ℕ, false, not, List, [], ◌∷◌, length}
use Rattle.std.specs.Prelude.{Option}
use Rattle.std.specs.Option.{option_map_or}
use Rattle.syn_machine.specs.Side.{Staging, Reply, Refused, is_staged, staged_bytes}
use Rattle.syn_model.specs.Event.{Token, is_below}
use Rattle.syn_model.specs.Refusal.{Cause, Device, OldSession, NotStaged, BadStage}

-- why what is staged is not what the token puts
abbrev pub staging_causes : Option Staging → Token → ℕ → List Cause
staging_causes staging token size =
    (option_map_or (λ staged. is_below token staged.token) staging false, OldSession)
    ∷ (not (is_staged staging token), NotStaged)
    ∷ (not (length (staged_bytes staging) == size), BadStage) ∷ []

-- Device is answered where the count of failed device calls grew, and any other reply where it did
-- not
abbrev pub CountsFailures : Reply → ℕ → ℕ → Type 0
CountsFailures reply old new = ((reply ≡ Refused Device) × (old < new))
    ⊎ ((reply ≢ Refused Device) × (new ≡ old))
