-- Which refusals a call may answer.
use Rattle.std.proofs.Common.{◌≡◌, ◌≢◌, ◌⊎◌, ℕ, Bool, true, false, ◌||◌, ◌==◌, List, [], ◌∷◌}
use Rattle.std.proofs.Common.{refl, sym}
use Rattle.std.proofs.Common.{ap, ap₂, ◌∙◌, subst, Option, Some, Result, Ok, Err, inl, inr}
use Rattle.std.proofs.Common.{true≢false, arith}
use Rattle.std.specs.Prelude.{IfErr}
use Rattle.std.specs.List.{list_any, AllByRecursion}
use Rattle.std.proofs.lemmas.Bool.Decides.{nat_tests}
use Rattle.std.proofs.lemmas.Option.{none-some, same_Some}
use Rattle.syn_model.specs.Refusal.{Refusal, number, Cause, first_cause}
use Rattle.syn_model.specs.Refusal as why
use Rattle.syn_model.specs.Event.{Edit, Event, Put, MakeDir, Remove, Chmod, Edited, Began, Replaced}
use Rattle.syn_model.specs.Standing.{Standing, causes_at, refusal_at}
use Rattle.syn_history.specs.Refusals.{refusal_of as of_history}
use Rattle.syn_history.specs.declared.error.HistoryError.{HistoryError}
use Rattle.syn_history.specs.declared.error.HistoryError.TheVariants as history_error
use Rattle.syn_journal.specs.Refusals.{refusal_of as of_journal}
use Rattle.syn_journal.specs.declared.error.JournalError.{JournalError}
use Rattle.syn_journal.specs.declared.error.JournalError.TheVariants as journal
use Rattle.syn_tree.specs.Refusals.{refusal_of as of_tree}
use Rattle.syn_tree.specs.declared.error.TreeError.{TreeError}
use Rattle.syn_tree.specs.declared.error.TreeError.TheVariants as tree_error
use Rattle.syn_replica.specs.Refusals.{IsOneOf, edit_refusals, outside_refusals}
use Rattle.syn_replica.proofs.StandingLemmas.{early_at}
use Rattle.syn_replica.specs.Updates.{early_causes}
use Rattle.syn_replica.specs.ErrorRefusals.{refusal_of}
use Rattle.syn_replica.specs.declared.error.ReplicaError.{ReplicaError}
use Rattle.syn_replica.specs.declared.error.ReplicaError.TheVariants as replica

abbrev pub is_among : List Refusal → Refusal → Bool
is_among refusals refusal = list_any (λ why. number why == number refusal) refusals

-- the first of some causes has a refusal that one of them has
pub first_among : (refusals : List Refusal) (causes : List Cause) (refusal : Refusal) →
    AllByRecursion (λ cause. is_among refusals cause.1 ≡ true) causes →
    first_cause causes ≡ Some refusal → is_among refusals refusal ≡ true
first_among refusals [] refusal all e = absurd (none-some _ e)
first_among refusals ((true, cause) ∷ causes) refusal all e =
    subst (λ w. is_among refusals w ≡ true) (same_Some _ _ e) all.0
first_among refusals ((false, cause) ∷ causes) refusal all e =
    first_among refusals causes refusal all.1 e

-- one of two numbers
two_numbers : (n : ℕ) → (11 == n || (9 == n || false)) ≡ true → (11 ≡ n) ⊎ (9 ≡ n)
two_numbers n h = by_test (11 == n) refl
  where
    same : (m n : ℕ) → (m == n) ≡ true → m ≡ n
    same m n e = grind (arith, nat_tests)

    second : (b : Bool) → (9 == n) ≡ b → (11 == n) ≡ false → (11 ≡ n) ⊎ (9 ≡ n)
    second true e f = inr (same 9 n e)
    second false e f = absurd (true≢false (sym h ∙ ap₂ (λ a b. a || (b || false)) f e))

    by_test : (b : Bool) → (11 == n) ≡ b → (11 ≡ n) ⊎ (9 ≡ n)
    by_test true e = inl (same 11 n e)
    by_test false e = second (9 == n) refl e

-- lack of memory and a failed device call are among the refusals of a call where both are listed
pub outside_among : (refusals : List Refusal) → is_among refusals why.Memory ≡ true →
    is_among refusals why.Device ≡ true → (e : ReplicaError) → IsOneOf outside_refusals e →
    IsOneOf refusals e
outside_among refusals memory device e h =
    elim (two_numbers (number (refusal_of e)) h) as (λ _. IsOneOf refusals e) [
      | inl same ↦ subst (λ n. list_any (λ why. number why == n) refusals ≡ true) same memory
      | inr same ↦ subst (λ n. list_any (λ why. number why == n) refusals ≡ true) same device
    ]

-- a refusal that is answered is the one
pub same_refusal : (e : ReplicaError) (refusal : Refusal) (answered : Option Refusal) →
    answered ≡ Some (refusal_of e) → answered ≡ Some refusal → refusal_of e ≡ refusal
same_refusal e refusal answered a b = same_Some _ _ (sym a ∙ b)

-- an edit is refused for what an edit may be refused
pub edit_among : (standing : Standing) (user : ℕ) (edit : Edit) (refusal : Refusal) →
    refusal_at standing (Edited user edit) ≡ Some refusal → is_among edit_refusals refusal ≡ true
edit_among s user (Put path bytes) refusal e =
    first_among edit_refusals (causes_at s (Edited user (Put path bytes))) refusal
    (refl, (refl, (refl, (refl, (refl, tt))))) e
edit_among s user (MakeDir path) refusal e =
    first_among edit_refusals (causes_at s (Edited user (MakeDir path))) refusal
    (refl, (refl, (refl, (refl, (refl, tt))))) e
edit_among s user (Remove path) refusal e =
    first_among edit_refusals (causes_at s (Edited user (Remove path))) refusal
    (refl, (refl, (refl, (refl, (refl, tt))))) e
edit_among s user (Chmod path mode) refusal e =
    first_among edit_refusals (causes_at s (Edited user (Chmod path mode))) refusal
    (refl, (refl, (refl, (refl, (refl, (refl, tt)))))) e

-- what a clause says of each refusal, where all are for what no history is the cause of
pub or_outside : {X : Type 0} (Q : ReplicaError → Type 0) (r : Result X ReplicaError) →
    IfErr r (IsOneOf outside_refusals) → IfErr r (λ e. IsOneOf outside_refusals e ⊎ Q e)
or_outside Q (Ok x) h = tt
or_outside Q (Err x) h = inl h

-- ---- a refusal of lack of memory, or of what a history is the cause of

abbrev pub inner_refusals : List Refusal
inner_refusals =
    why.Memory ∷ why.Root ∷ why.NoParent ∷ why.IsDirectory ∷ why.Exists ∷ why.Absent ∷ why.Full
    ∷ why.OldSession ∷ []

cause_among : (standing : Standing) (event : Event) (refusal : Refusal) →
    refusal_at standing event ≡ Some refusal → is_among inner_refusals refusal ≡ true
cause_among s (Edited user (Put path bytes)) refusal e =
    first_among inner_refusals (causes_at s (Edited user (Put path bytes))) refusal
    (refl, (refl, (refl, (refl, (refl, tt))))) e
cause_among s (Edited user (MakeDir path)) refusal e =
    first_among inner_refusals (causes_at s (Edited user (MakeDir path))) refusal
    (refl, (refl, (refl, (refl, (refl, tt))))) e
cause_among s (Edited user (Remove path)) refusal e =
    first_among inner_refusals (causes_at s (Edited user (Remove path))) refusal
    (refl, (refl, (refl, (refl, (refl, tt))))) e
cause_among s (Edited user (Chmod path mode)) refusal e =
    first_among inner_refusals (causes_at s (Edited user (Chmod path mode))) refusal
    (refl, (refl, (refl, (refl, (refl, (refl, tt)))))) e
cause_among s (Began session) refusal e =
    first_among inner_refusals (causes_at s (Began session)) refusal (refl, (refl, tt)) e
cause_among s (Replaced token path since new) refusal e =
    first_among inner_refusals (causes_at s (Replaced token path since new)) refusal
    (refl, (refl, (refl, (refl, (refl, tt))))) e

pub inner_among : (standing : Standing) (event : Event) (e : ReplicaError) →
    (refusal_of e ≡ why.Memory) ⊎ (refusal_at standing event ≡ Some (refusal_of e)) →
    IsOneOf inner_refusals e
inner_among s event e (inl memory) = subst (λ w. is_among inner_refusals w ≡ true) (sym memory) refl
inner_among s event e (inr cause) = cause_among s event (refusal_of e) cause

pub early_among : (standing : Standing) (event : Event) (e : ReplicaError) →
    Some (refusal_of e) ≡ first_cause (early_causes standing event) → IsOneOf inner_refusals e
early_among s event e early =
    cause_among s event (refusal_of e) (early_at s event (refusal_of e) (sym early))

-- a refusal that is among these is none that is not
pub never : (refusals : List Refusal) (w : Refusal) →
    is_among refusals w ≡ false → (e : ReplicaError) → IsOneOf refusals e → refusal_of e ≡ w → ⊥
never refusals w none e h same =
    true≢false (sym (subst (λ r. is_among refusals r ≡ true) same h) ∙ none)

-- a full journal is no failure, and no halt
pub not_full_device : why.JournalFull ≡ why.Device → ⊥
not_full_device is = cc is

pub not_full_halted : why.JournalFull ≡ why.Halted → ⊥
not_full_halted is = cc is

pub not_halted_device : why.Halted ≡ why.Device → ⊥
not_halted_device is = cc is

tree_halted : (e : TreeError) → of_tree e ≢ why.Halted
tree_halted tree_error.Memory is = let k : why.Memory ≡ why.Halted = is in cc
tree_halted e is = let k : of_tree e ≡ why.Halted = is in cc

history_halted : (e : HistoryError) → of_history e ≢ why.Halted
history_halted history_error.Memory is = let k : why.Memory ≡ why.Halted = is in cc
history_halted e is = let k : of_history e ≡ why.Halted = is in cc

journal_halted : (e : JournalError) → of_journal e ≡ why.Halted → e ≡ journal.Halted
journal_halted journal.Halted is = refl
journal_halted e is = absurd (let k : of_journal e ≡ why.Halted = is in cc)

-- that it is halted is the journal's
pub halted_is : (e : ReplicaError) → refusal_of e ≡ why.Halted → e ≡ replica.Journal journal.Halted
halted_is (replica.Tree e) is = absurd (tree_halted e is)
halted_is (replica.History e) is = absurd (history_halted e is)
halted_is (replica.Journal e) is = ap replica.Journal (journal_halted e is)
halted_is e is = absurd (let k : refusal_of e ≡ why.Halted = is in cc)
