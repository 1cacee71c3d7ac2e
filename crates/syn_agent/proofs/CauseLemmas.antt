-- Refusals and their causes.
use Rattle.std.proofs.Common.{◌≡◌, ◌≢◌, ◌⊎◌, ◌∙◌, ◌-◌, ◌+◌, ◌≤◌, ℕ, Bool, true, false, List, []}
use Rattle.std.proofs.Common.{◌∷◌, ◌++◌, Option, Some, None, ap, arith, inl, inr, not, refl, sym}
use Rattle.std.proofs.Common.{suc}
use Rattle.std.proofs.lemmas.Bool.{eqb-true, false≢true}
use Rattle.std.proofs.lemmas.Bool.Decides.{leb_tells}
use Rattle.std.specs.Prelude.{◌||◌, ◌==◌, nat_le, nat_lt}
use Rattle.syn_agent.specs.Causes.{CountsFailures}
use Rattle.syn_machine.specs.Side.{Side, Served, Reply, Refused, answer, unless_refused}
use Rattle.syn_model.specs.Event.{Edit, Put, MakeDir, Remove, Chmod, Edited}
use Rattle.syn_model.specs.History.{History as Past, event_causes}
use Rattle.syn_replica.specs.Steps.{add_refusal, room_causes}
use Rattle.syn_model.specs.Refusal.{Refusal, Cause, first_cause, number}
use Rattle.syn_model.specs.Refusal as why
use Rattle.syn_replica.specs.Refusals.{IsOneOf, checkpoint_refusals, outside_refusals}
use Rattle.syn_replica.specs.ErrorRefusals.{refusal_of}
use Rattle.syn_journal.specs.Endings as device
use Rattle.syn_replica.specs.declared.error.ReplicaError.{ReplicaError}

pub or_cases : (a b : Bool) → (a || b) ≡ true → (a ≡ true) ⊎ (b ≡ true)
or_cases true b is = inl refl
or_cases false b is = inr is

pub memory_number : (refusal : Refusal) → 11 ≡ number refusal → refusal ≡ why.Memory
memory_number why.Memory is = refl
memory_number refusal is =
    absurd (let k : 11 ≡ number refusal = is in omega (arith, k))

device_number : (refusal : Refusal) → 9 ≡ number refusal → refusal ≡ why.Device
device_number why.Device is = refl
device_number refusal is =
    absurd (let k : 9 ≡ number refusal = is in omega (arith, k))

-- what no history causes
pub outside : (e : ReplicaError) → IsOneOf outside_refusals e
    → (refusal_of e ≡ why.Memory) ⊎ (refusal_of e ≡ why.Device)
outside e is =
    elim (or_cases (11 == number (refusal_of e)) ((9 == number (refusal_of e)) || false) is) [
      | inl memory ↦ inl (memory_number (refusal_of e) (eqb-true _ _ memory))
      | inr more ↦ elim (or_cases (9 == number (refusal_of e)) false more) [
        | inl device ↦ inr (device_number (refusal_of e) (eqb-true _ _ device))
        | inr none ↦ absurd (false≢true none)
      ]
    ]

pub halted_number : (refusal : Refusal) → 10 ≡ number refusal → refusal ≡ why.Halted
halted_number why.Halted is = refl
halted_number refusal is = absurd (let k : 10 ≡ number refusal = is in omega (arith, k))

full_number : (refusal : Refusal) → 7 ≡ number refusal → refusal ≡ why.Full
full_number why.Full is = refl
full_number refusal is = absurd (let k : 7 ≡ number refusal = is in omega (arith, k))

-- why a checkpoint is refused
pub of_checkpoint : (e : ReplicaError) → IsOneOf checkpoint_refusals e
    → (refusal_of e ≡ why.Halted) ⊎ ((refusal_of e ≡ why.Full)
    ⊎ ((refusal_of e ≡ why.Memory) ⊎ (refusal_of e ≡ why.Device)))
of_checkpoint e is =
    elim (or_cases (10 == number (refusal_of e)) ((7 == number (refusal_of e))
    || ((11 == number (refusal_of e)) || ((9 == number (refusal_of e)) || false))) is) [
      | inl halted ↦ inl (halted_number (refusal_of e) (eqb-true _ _ halted))
      | inr more ↦ elim (or_cases (7 == number (refusal_of e)) ((11 == number (refusal_of e))
          || ((9 == number (refusal_of e)) || false)) more) [
            | inl full ↦ inr (inl (full_number (refusal_of e) (eqb-true _ _ full)))
            | inr rest ↦ inr (inr (outside e rest))
          ]
    ]

pub refused_one : (a b : Refusal) → Refused a ≡ Refused b → a ≡ b
refused_one a b is = cc

-- none of the causes is that of the refusal
abbrev pub Never : Refusal → List Cause → Type 0
Never refusal [] = Unit {0}
Never refusal (cause ∷ causes) = (cause.1 ≢ refusal) × Never refusal causes

pub none_is_no : (refusal : Refusal) → ◌≢◌ {A = Option Refusal} None (Some refusal)
none_is_no refusal is = cc

-- there is no cause
pub none_of : (found : Option Refusal) → ((refusal : Refusal) → ◌≢◌ found (Some refusal))
    → found ≡ None
none_of None not = refl
none_of (Some refusal) not = absurd (not refusal refl)

pub never_first : (refusal other : Refusal) (causes : List Cause) → Never refusal causes
    → first_cause causes ≡ Some other → other ≢ refusal
never_first refusal other [] never is = absurd (none_is_no other is)
never_first refusal other ((true, first) ∷ causes) never is =
    λ same. never.0 (let k : Some first ≡ Some other = is in cc)
never_first refusal other ((false, first) ∷ causes) never is =
    never_first refusal other causes never.1 is

-- no history causes that a device call fails
pub edit_never : (room : ℕ) (past : Past) (user : ℕ) (edit : Edit) (other : Refusal)
    → add_refusal room past (Edited user edit) ≡ Some other → other ≢ why.Device
edit_never room past user edit other is =
    never_first why.Device other (event_causes past (Edited user edit)
    ++ room_causes room (Edited user edit)) (never edit) is
  where
    never : (edit : Edit) → Never why.Device (event_causes past (Edited user edit)
        ++ room_causes room (Edited user edit))
    never (Put path bytes) =
        ((λ d. cc d), ((λ d. cc d), ((λ d. cc d), ((λ d. cc d), ((λ d. cc d), ((λ d. cc d), tt))))))
    never (MakeDir path) =
        ((λ d. cc d), ((λ d. cc d), ((λ d. cc d), ((λ d. cc d), ((λ d. cc d), ((λ d. cc d), tt))))))
    never (Remove path) =
        ((λ d. cc d), ((λ d. cc d), ((λ d. cc d), ((λ d. cc d), ((λ d. cc d), ((λ d. cc d), tt))))))
    never (Chmod path mode) = (
      (λ d. cc d),
      (
        (λ d. cc d),
        (
          (λ d. cc d),
          (
            (λ d. cc d),
            (
              (λ d. cc d),
              (
                (λ d. cc d),
                ((λ d. cc d), tt),
              ),
            ),
          ),
        ),
      ),
    )

-- what the journal takes, by its longest payload and by what is left of it
pub rooms : (room left size : ℕ) → room ≡ left - 5 → 1 ≤ size
    → nat_lt room size ≡ not (nat_le (5 + size) left)
rooms room left size is some =
    elim (leb_tells (suc room) size) [
      | inl longer ↦ elim (leb_tells (5 + size) left) [
        | inl fits ↦ absurd (omega (arith, is, some, longer.1, fits.1))
        | inr full ↦ longer.0 ∙ sym (ap not full.0)
      ]
      | inr short ↦ elim (leb_tells (5 + size) left) [
        | inl fits ↦ short.0 ∙ sym (ap not fits.0)
        | inr full ↦ absurd (omega (arith, is, some, short.1, full.1))
      ]
    ]

-- the first cause of two lists of causes, one looked at after the other
pub later_none : (first second : List Cause) (side : Side) (served : Served)
    → first_cause (first ++ second) ≡ None
    → unless_refused side (first_cause first) (unless_refused side (first_cause second) served)
    ≡ served
later_none [] second side served none = ap (λ o. unless_refused side o served) none
later_none ((true, why) ∷ first) second side served none =
    absurd (let k : Some why ≡ None = none in cc)
later_none ((false, why) ∷ first) second side served none =
    later_none first second side served none

pub later_some : (first second : List Cause) (side : Side) (served : Served) (why : Refusal)
    → first_cause (first ++ second) ≡ Some why
    → unless_refused side (first_cause first) (unless_refused side (first_cause second) served)
    ≡ answer side (Refused why)
later_some [] second side served why some = ap (λ o. unless_refused side o served) some
later_some ((true, first) ∷ causes) second side served why some =
    ap (λ o. unless_refused side o (unless_refused side (first_cause second) served)) some
later_some ((false, first) ∷ causes) second side served why some =
    later_some causes second side served why some

-- a device call failed exactly where the replica says so
pub counts : (e : ReplicaError) (old new : ℕ)
    → device.CountsFailures (Some (refusal_of e)) old new
    → CountsFailures (Refused (refusal_of e)) old new
counts e old new = by (refusal_of e)
  where
    by : (refusal : Refusal) → device.CountsFailures (Some refusal) old new
        → CountsFailures (Refused refusal) old new
    by why.Device grew = inl (refl, grew)
    by refusal same =
        inr ((λ is. let k : refusal ≡ why.Device = refused_one _ _ is in cc), same)

-- and not where it answers
pub counts_none : (reply : Reply) (old new : ℕ) → reply ≢ Refused why.Device → new ≡ old
    → CountsFailures reply old new
counts_none reply old new not same = inr (not, same)
