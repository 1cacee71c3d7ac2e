-- Causes of refusals, in their order.
use Rattle.std.proofs.Common.{◌≡◌, ◌≢◌, ◌⊎◌, ◌∙◌, ◌+◌, ◌-◌, ℕ, true, not, List, [], ◌∷◌}
use Rattle.std.proofs.Common.{◌++◌, Option, Some, None, ap, inl, inr, refl, sym}
use Rattle.std.specs.Prelude.{nat_le, length}
use Rattle.syn_machine.specs.SideMachine.{SideMachine, causes_of}
use Rattle.syn_machine.specs.Machine.{Up, Halted}
use Rattle.syn_machine.specs.MachineSteps.{causes_at, is_halted}
use Rattle.syn_model.specs.Event.{Edit, Edited}
use Rattle.syn_model.specs.History.{event_causes}
use Rattle.syn_model.specs.Refusal.{Refusal, Cause, first_cause}
use Rattle.syn_model.specs.Refusal as why
use Rattle.syn_model.specs.Spelling.{event_spelling}
use Rattle.syn_replica.specs.Steps.{add_refusal}
use Rattle.syn_agent.proofs.CauseLemmas.{none_is_no, rooms}
use Rattle.syn_replica.proofs.RoomLemmas.{spelled_long}
use Rattle.syn_model.proofs.HistoryLemmas.{first_skips, first_stays}

pub memory_not_device : why.Memory ≢ why.Device
memory_not_device e = cc

-- why a replica adds no edit is why its machine refuses it
pub causes_are : (pair room left user : ℕ) (edit : Edit) (machine : SideMachine)
    → room ≡ left - 5 → machine.journal.room ≡ left
    → add_refusal room machine.journal.value (Edited user edit)
    ≡ first_cause (causes_of pair machine (Edited user edit))
causes_are pair room left user edit machine is left_is =
    let event = Edited user edit in
    let size = length (event_spelling event) in
    ap (λ b. first_cause (event_causes machine.journal.value event ++ (b, why.JournalFull) ∷ []))
    (rooms room left size is (spelled_long (Edited user edit))
    ∙ ap (λ n. not (nat_le (5 + size) n)) (sym left_is))

module _ (machine : SideMachine) (causes : List Cause) (up : machine.journal.status ≡ Up) where
  -- a machine that is up is not halted
  pub causes_none : first_cause causes ≡ None
      → first_cause (causes_at machine.journal.status causes) ≡ None
  causes_none none =
      ap (λ s. first_cause ((is_halted s, why.Halted) ∷ causes)) up ∙ none

  pub causes_some : (reason : Refusal)
      → first_cause (causes ++ (true, why.Memory) ∷ []) ≡ Some reason
      → first_cause (causes_at machine.journal.status causes ++ (true, why.Memory) ∷ [])
      ≡ Some reason
  causes_some reason some =
      ap (λ s. first_cause ((is_halted s, why.Halted) ∷ causes ++ (true, why.Memory) ∷ [])) up
      ∙ some

-- a halted machine refuses everything
pub causes_halted : (machine : SideMachine) (causes more : List Cause)
    → machine.journal.status ≡ Halted
    → first_cause (causes_at machine.journal.status causes ++ more) ≡ Some why.Halted
causes_halted machine causes more is =
    ap (λ s. first_cause ((is_halted s, why.Halted) ∷ causes ++ more)) is

-- the reason is the first cause, or lack of memory where there is none
pub reason_is : (causes : List Cause) (reason : Refusal)
    → ((found : Refusal) → first_cause causes ≡ Some found → reason ≡ found)
    → (reason ≡ why.Memory) ⊎ (first_cause causes ≡ Some reason)
    → first_cause (causes ++ (true, why.Memory) ∷ []) ≡ Some reason
reason_is causes reason first either = by (first_cause causes) refl
  where
    by : (found : Option Refusal) → first_cause causes ≡ found
        → first_cause (causes ++ (true, why.Memory) ∷ []) ≡ Some reason
    by (Some found) is =
        first_stays causes ((true, why.Memory) ∷ []) found is
        ∙ ap (λ r. Some r) (sym (first found is))
    by None is = elim either [
      | inl memory ↦ first_skips causes ((true, why.Memory) ∷ []) is ∙ ap (λ r. Some r) (sym memory)
      | inr some ↦ absurd (none_is_no reason (sym is ∙ some))
    ]
