-- What one call gives as a step of a side.
use Rattle.std.proofs.Common.{◌≡◌, ◌⊎◌, ◌+◌, ℕ, [], ◌∷◌, ◌++◌, length, sym, ap, ◌∙◌}
use Rattle.std.proofs.Common.{subst, inl, inr, false, Bool, if◌then◌else◌, Option, Some}
use Rattle.std.proofs.Common.{Result, Ok, Err}
use Rattle.std.specs.Prelude.{IfOk, IfErr}
use Rattle.std.proofs.lemmas.List.{length-append}
use Rattle.syn_disk.specs.declared.disk.Disk.{Ghosts}
use Rattle.syn_journal.specs.Endings.{ended}
use Rattle.syn_journal.proofs.Spent.{broke_off, nothing_spent}
use Rattle.syn_model.specs.Event.{Token, Event, Replaced}
use Rattle.syn_model.specs.Path.{Path}
use Rattle.syn_model.specs.Tree.{Tree as Model}
use Rattle.syn_model.specs.History.{History}
use Rattle.syn_model.specs.Spelling.{event_spelling}
use Rattle.syn_model.specs.Refusal.{Refusal}
use Rattle.syn_model.specs.Refusal as why
use Rattle.syn_replica.specs.Growth.{IsCutOff, StandsOrTried}
use Rattle.syn_replica.specs.ErrorRefusals.{refusal_of}
use Rattle.syn_replica.specs.Calls.{Writes, unless}
use Rattle.syn_replica.specs.Refusals.{IsOneOf, outside_refusals}
use Rattle.syn_replica.specs.Replica.{room_shown, pair_of, disk_of, journal_of, standing_shown}
use Rattle.syn_replica.specs.Replica.{tried_shown, IsHalted, Stands, KeepsReadings}
use Rattle.syn_replica.specs.Replica.{KeepsBeforeOrAfter}
use Rattle.syn_replica.specs.Steps.{is_done, is_done_at, replaced, replace_refusal}
use Rattle.syn_replica.specs.declared.error.ReplicaError.{ReplicaError}
use Rattle.syn_replica.specs.declared.replica.Replica.{Replica}
use Rattle.syn_shared.specs.Steps.{StepsBy, adds, breaks, refuses}
use Rattle.syn_shared.proofs.AnswerLemmas.{readings_of, unchanged_of}
use Rattle.syn_agent.proofs.CauseLemmas.{outside as memory_or_device}
use Rattle.syn_replica.proofs.GrowthLemmas.{stands_still}

module _ {D : Type 0} {disk : Ghosts D} (found left : Replica D disk) (history : History)
    (event : Event) (cause : Option Refusal) (stands : Stands found history) where
  refused_step : (e : ReplicaError) → (refusal_of e ≡ why.Device → ⊥) →
      IsOneOf outside_refusals e ⊎ (cause ≡ Some (refusal_of e)) →
      (refusal_of e ≡ why.Device) ⊎ Stands left history →
      disk.arms (disk_of left) ≡ disk.arms (disk_of found) →
      disk.failures (disk_of left) ≡ disk.failures (disk_of found) →
      StepsBy found left history event cause (Err e)
  refused_step e other causes unchanged calls failures =
      let why_is : (refusal_of e ≡ why.Memory) ⊎ (cause ≡ Some (refusal_of e)) = elim causes [
        | inl outside ↦ elim (memory_or_device e outside)
            as (λ _. (refusal_of e ≡ why.Memory) ⊎ (cause ≡ Some (refusal_of e))) [
              | inl m ↦ inl m
              | inr d ↦ absurd (other d)
            ]
        | inr c ↦ inr c
      ] in
      elim unchanged as (λ _. StepsBy found left history event cause (Err e)) [
        | inl d ↦ absurd (other d)
        | inr s ↦ refuses e why_is s calls failures
      ]

  -- the replica is cut off where a device call failed
  cut_off : IsHalted left → tried_shown left ≡ Some (event_spelling event) →
      KeepsReadings found left → KeepsBeforeOrAfter found history event (disk.seen (disk_of left)) →
      IsCutOff left history
  cut_off halted tried readings seen = record {
    halted = halted;
    remembers =
        record {
          lawful = stands.remembers.lawful;
          standing = readings.memory.standing
              ∙ stands.remembers.standing;
        };
    keeps =
        subst (λ (n : ℕ). StandsOrTried n (tried_shown left) (disk.seen (disk_of left)) history)
        (sym readings.memory.pair)
        (elim seen as (λ _. StandsOrTried (pair_of found) (tried_shown left)
        (disk.seen (disk_of left)) history) [
          | inl k ↦ inl (record { value = k.value; means = k.journal.means; stands = k.stands })
          | inr k ↦ inr
              (event, tried, record { value = k.value; means = k.journal.means; stands = k.stands })
        ]);
  }

  pub step_by : (answer : Result ℕ ReplicaError) → IfOk answer
      (λ position. (position ≡ length history + 1) × Stands left (history ++ event ∷ [])) →
      IfErr answer (λ e. IsOneOf outside_refusals e ⊎ (cause ≡ Some (refusal_of e))) →
      IfErr answer (λ e. (refusal_of e ≡ why.Device) ⊎ Stands left history) →
      Writes found left (Some event) (ended refusal_of answer) →
      StepsBy found left history event cause answer
  step_by (Ok position) acknowledged causes unchanged writes =
      subst (λ (n : ℕ). StepsBy found left history event cause (Ok n)) (sym acknowledged.0)
      (adds acknowledged.1 writes.written writes.device.arms writes.device.failures)
  step_by (Err e) acknowledged causes unchanged writes =
      elim writes.tried as (λ _. StepsBy found left history event cause (Err e)) [
        | inl sent ↦
            let broke = broke_off (refusal_of e) (disk_of found) (disk_of left) 4 sent.0
            writes.device in
            breaks e sent.0 (cut_off (writes.halts sent.0) sent.1 writes.readings
            (writes.seen history stands)) writes.readings broke.1 broke.0
        | inr not ↦
            let none = nothing_spent (refusal_of e) (disk_of found) (disk_of left) 4 not.0
            writes.device in
            refused_step e not.0 causes unchanged none.1 none.0
      ]

-- a replacement under a token that is not done
module _ {D : Type 0} {disk : Ghosts D} (found left : Replica D disk) (history : History)
    (token : Token) (path : Path) (since : ℕ) (new : Model) (stands : Stands found history)
    (open_is : is_done history token ≡ false) where
  abbrev event : Event
  event = Replaced token path since new

  longer : replaced history token path since new ≡ history ++ event ∷ []
  longer =
      ap (λ (b : Bool). if b then history else history ++ Replaced token path since new ∷ [])
      open_is

  acknowledged_so : (answer : Result ℕ ReplicaError) →
      IfOk answer (λ position. (position ≡ length (replaced history token path since new))
      × Stands left (replaced history token path since new)) →
      IfOk answer (λ position. (position ≡ length history + 1)
      × Stands left (history ++ event ∷ []))
  acknowledged_so (Ok position) told = (
    told.0 ∙ (ap length longer ∙ length-append history (event ∷ [])),
    subst (λ (h : History). Stands left h) longer told.1,
  )
  acknowledged_so (Err e) told = tt

  stays_so : (answer : Result ℕ ReplicaError) → IfErr answer (λ _. KeepsReadings found left) →
      IfErr answer (λ e. (refusal_of e ≡ why.Device) ⊎ (journal_of left ≡ journal_of found)) →
      IfErr answer (λ e. (refusal_of e ≡ why.Device) ⊎ Stands left history)
  stays_so (Ok position) readings unchanged = tt
  stays_so (Err e) readings unchanged =
      elim unchanged as (λ _. (refusal_of e ≡ why.Device) ⊎ Stands left history) [
        | inl d ↦ inl d
        | inr same ↦ inr (stands_still found left readings.memory.pair readings.memory.standing
            same history stands)
      ]

  pub replaced_by : (answer : Result ℕ ReplicaError) →
      IfOk answer (λ position. (position ≡ length (replaced history token path since new))
      × Stands left (replaced history token path since new)) →
      IfErr answer (λ e. IsOneOf outside_refusals e
      ⊎ (replace_refusal (room_shown found) history token path since new ≡ Some (refusal_of e))) →
      Writes found left (unless (is_done_at (standing_shown found) token) event)
      (ended refusal_of answer) →
      StepsBy found left history event
      (replace_refusal (room_shown found) history token path since new) answer
  replaced_by answer acknowledged causes writes =
      let wrote = subst (λ (b : Bool). Writes found left (unless b event)
      (ended refusal_of answer))
      (ap (λ s. is_done_at s token) stands.remembers.standing ∙ open_is) writes in
      step_by found left history event
      (replace_refusal (room_shown found) history token path since new) stands answer
      (acknowledged_so answer acknowledged) causes
      (stays_so answer (readings_of found left (Some event) answer wrote)
      (unchanged_of found left (Some event) answer wrote)) wrote
