-- A stop of a machine after so many device calls, whichever kind it is of.
use Rattle.std.proofs.Common.{◌≡◌, ◌≢◌, ℕ, zero, suc, [], refl}
use Rattle.syn_machine.specs.Machine.{Down}
use Rattle.syn_machine.specs.MachineSteps.{Does, Kind, Stop, arming, is_done, is_down, with_device}

module _ {M A V W : Type 0} (kind : Kind M A V W) (machine : M) where
  pub stops_after : (calls : ℕ) → calls ≢ 0 → (kind.journal_of machine).status ≢ Down
      → Does kind machine (Stop calls)
      (with_device kind machine (kind.journal_of machine).status
      (record (kind.journal_of machine).arms { stop = calls }) 0) (kind.acknowledging []) []
  stops_after zero some up = absurd (some refl)
  stops_after (suc calls) some up = is_done _ _ _ up arming

  pub stops_down : (calls : ℕ) → (kind.journal_of machine).status ≡ Down
      → Does kind machine (Stop calls) machine (kind.acknowledging []) []
  stops_down zero down = is_down down
  stops_down (suc calls) down = is_down down
