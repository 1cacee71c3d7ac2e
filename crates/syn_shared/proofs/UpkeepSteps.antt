-- What a checkpoint leaves in a hold, as a step of the machine that the replica is.
use Rattle.std.proofs.Common.{◌≡◌, ◌≢◌, ◌+◌, ℕ, ◌∷◌, ◌++◌, sym, ap, refl, ◌∙◌, subst, inl, inr}
use Rattle.std.proofs.Common.{true, false, Bool, if◌then◌else◌, None, Some, Result, Ok, Err, arith}
use Rattle.std.proofs.Common.{◌<◌, ◌^◌, true≢false, []}
use Rattle.std.specs.Prelude.{IfErr, nat_le}
use Rattle.std.proofs.lemmas.Bool.Decides.{leb_tells}
use Rattle.syn_agent.specs.Machines.{IsOf}
use Rattle.syn_agent.specs.declared.agent.Agent.{Agent}
use Rattle.syn_agent.proofs.CauseLemmas.{of_checkpoint}
use Rattle.syn_disk.specs.declared.disk.Disk.{Ghosts}
use Rattle.syn_machine.specs.Machine.{Status, Up, Halted, Down}
use Rattle.syn_machine.specs.MachineSteps.{is_halted, full_generation}
use Rattle.syn_machine.specs.SideMachine.{SideMachine}
use Rattle.syn_journal.specs.Endings.{ended}
use Rattle.syn_journal.specs.declared.error.JournalError.TheVariants as journal_error
use Rattle.syn_model.specs.History.{History}
use Rattle.syn_model.specs.Limits.{greatest}
use Rattle.syn_model.specs.Refusal.{Refusal, first_cause}
use Rattle.syn_model.specs.Refusal as why
use Rattle.syn_replica.specs.Calls.{Compacts}
use Rattle.syn_replica.specs.ErrorRefusals.{refusal_of}
use Rattle.syn_replica.specs.Machines.{StandsAs, WritesImage}
use Rattle.syn_replica.specs.Refusals.{IsOneOf, checkpoint_refusals}
use Rattle.syn_replica.specs.Replica.{IsHalted, Stands, generation_shown}
use Rattle.syn_replica.specs.declared.error.ReplicaError.{ReplicaError}
use Rattle.syn_replica.specs.declared.error.ReplicaError.TheVariants.{Journal}
use Rattle.syn_replica.specs.declared.replica.Replica.{Replica}
use Rattle.syn_shared.specs.Machines.{CompactsSide, IsMade, IsRefused, keeps}
use Rattle.syn_shared.proofs.AnswerLemmas.{halted_answer}
use Rattle.syn_shared.proofs.UpkeepLemmas.{compacts_not, compacts_ok, keeps_on}

-- the greatest generation
is_greatest : (n : ℕ) → n + 1 ≡ 2 ^ 64 → nat_le greatest n ≡ true
is_greatest n is = elim (leb_tells greatest n) as (λ _. nat_le greatest n ≡ true) [
  | inl enough ↦ enough.0
  | inr few ↦ absurd (let k = few.1 in omega (arith, is, k))
]

not_greatest : (n : ℕ) → n < 2 ^ 64 → (n + 1 ≡ 2 ^ 64 → ⊥) → nat_le greatest n ≡ false
not_greatest n fits not = elim (leb_tells greatest n) as (λ _. nat_le greatest n ≡ false) [
  | inl enough ↦ absurd (not (let k = enough.1 in omega (arith, fits, k)))
  | inr few ↦ few.0
]

-- the checkpoint of a hold
module _ {D : Type 0} {disk : Ghosts D} (pair : ℕ) (found left : Replica D disk) (agent : Agent)
    (machine : SideMachine) (is : IsOf pair found agent machine)
    (fits : generation_shown found < 2 ^ 64) where
  made_of : machine.journal.status ≡ Up → nat_le greatest (generation_shown found) ≡ false →
      IsMade machine (full_generation machine.journal.generation)
  made_of up few =
      subst (λ s. first_cause
      ((is_halted s, why.Halted) ∷ full_generation machine.journal.generation) ≡ None) (sym up)
      (subst (λ g. first_cause (full_generation g) ≡ None) (sym (is.keeps.generation up))
      (ap (λ (b : Bool). if b then Some why.Full else None) few))

  refused_of : machine.journal.status ≡ Up → (e : ReplicaError) →
      first_cause (full_generation (generation_shown found) ++ (true, why.Memory) ∷ [])
      ≡ Some (refusal_of e) → IsRefused machine (full_generation machine.journal.generation) e
  refused_of up e some =
      subst (λ s. first_cause ((is_halted s, why.Halted) ∷ full_generation
      machine.journal.generation ++ (true, why.Memory) ∷ []) ≡ Some (refusal_of e)) (sym up)
      (subst (λ g. first_cause (full_generation g ++ (true, why.Memory) ∷ []) ≡ Some (refusal_of e))
      (sym (is.keeps.generation up)) some)

  by_full : (b : Bool) (e : ReplicaError) → b ≡ true → refusal_of e ≡ why.Full →
      (if b then Some why.Full else Some why.Memory) ≡ Some (refusal_of e)
  by_full b e is same =
      ap (λ (x : Bool). if x then Some why.Full else Some why.Memory) is
      ∙ ap (λ r. Some r) (sym same)

  by_memory : (b : Bool) (e : ReplicaError) → b ≡ false → refusal_of e ≡ why.Memory →
      (if b then Some why.Full else Some why.Memory) ≡ Some (refusal_of e)
  by_memory b e is same =
      ap (λ (x : Bool). if x then Some why.Full else Some why.Memory) is
      ∙ ap (λ r. Some r) (sym same)

  checkpoint_up : machine.journal.status ≡ Up → (answer : Result Unit ReplicaError) →
      IfErr answer (λ e. refusal_of e ≡ why.Full → generation_shown found + 1 ≡ 2 ^ 64) →
      (generation_shown found + 1 ≡ 2 ^ 64 → answer ≡ Err (Journal journal_error.Full)) →
      IfErr answer (IsOneOf checkpoint_refusals) → ¬ IsHalted found →
      Compacts found left (ended refusal_of answer) →
      WritesImage left pair machine.journal (ended refusal_of answer) →
      CompactsSide pair left agent machine answer
  checkpoint_up up (Ok x) full first refusals running told world =
      compacts_ok pair found left agent machine is
      (made_of up (not_greatest (generation_shown found) fits (λ g. let k : ◌≡◌
      {A = Result Unit ReplicaError} (Ok x) (Err (Journal journal_error.Full)) = first g in cc)))
      world
  checkpoint_up up (Err e) full first refusals running told world =
      elim (of_checkpoint e refusals) as (λ _. CompactsSide pair left agent machine (Err e)) [
        | inl halted ↦ absurd (running (told.halted.0 (ap (λ r. Some r) halted)))
        | inr (inl is_full) ↦ keeps e
            (refused_of up e (by_full (nat_le greatest (generation_shown found)) e
            (is_greatest (generation_shown found) (full is_full)) is_full))
            (keeps_on pair found left agent machine is (refusal_of e)
            (λ d. let k : why.Full ≡ why.Device = sym is_full ∙ d in cc) world)
        | inr (inr (inl is_memory)) ↦ keeps e
            (refused_of up e (by_memory (nat_le greatest (generation_shown found)) e
            (not_greatest (generation_shown found) fits (λ g. not_full e why.Memory is_memory
            (λ w. cc w) (first g)))
            is_memory))
            (keeps_on pair found left agent machine is (refusal_of e)
            (λ d. let k : why.Memory ≡ why.Device = sym is_memory ∙ d in cc) world)
        | inr (inr (inr device)) ↦
            compacts_not pair found left agent machine is
            (made_of up (not_greatest (generation_shown found) fits (λ g. not_full e why.Device
            device (λ w. cc w) (first g))))
            e device
            (subst (λ w. WritesImage left pair machine.journal (Some w)) device world)
      ]
    where
      not_full : (e : ReplicaError) (refusal : Refusal) → refusal_of e ≡ refusal →
          refusal ≢ why.Full →
          ◌≡◌ {A = Result Unit ReplicaError} (Err e) (Err (Journal journal_error.Full)) → ⊥
      not_full e refusal is other same =
          let k : e ≡ Journal journal_error.Full = (let s : ◌≡◌ {A = Result Unit ReplicaError}
          (Err e) (Err (Journal journal_error.Full)) = same in cc) in
          other (sym is ∙ ap refusal_of k)

  pub checkpoint_world : (answer : Result Unit ReplicaError) →
      ((history : History) → Stands found history →
      IfErr answer (λ e. refusal_of e ≡ why.Full → generation_shown found + 1 ≡ 2 ^ 64)) →
      (generation_shown found + 1 ≡ 2 ^ 64 → ¬ IsHalted found →
      answer ≡ Err (Journal journal_error.Full)) → IfErr answer (IsOneOf checkpoint_refusals) →
      Compacts found left (ended refusal_of answer) →
      WritesImage left pair machine.journal (ended refusal_of answer) →
      CompactsSide pair left agent machine answer
  checkpoint_world answer full first refusals told world =
      by machine.journal.status refl is.keeps.stands
    where
      by : (status : Status) → machine.journal.status ≡ status →
          StandsAs status found machine.journal.value → CompactsSide pair left agent machine answer
      by Up up stands =
          let running : ¬ IsHalted found = λ h. true≢false (sym h ∙ stands.runs.running) in
          checkpoint_up up answer (full machine.journal.value stands) (λ g. first g running)
          refusals running told world
      by Halted at stands =
          let same = told.halted.1 stands.0 in
          subst (λ a. CompactsSide pair left agent machine a) (sym (halted_answer answer same))
          (keeps (Journal journal_error.Halted)
          (subst (λ s. first_cause ((is_halted s, why.Halted) ∷ full_generation
          machine.journal.generation ++ (true, why.Memory) ∷ []) ≡ Some why.Halted) (sym at) refl)
          (keeps_on pair found left agent machine is why.Halted (λ e. cc)
          (subst (λ w. WritesImage left pair machine.journal w) same world)))
      by Down at stands = absurd stands
