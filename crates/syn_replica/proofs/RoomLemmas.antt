-- Why an event is not added, with so much room in the journal.
use Rattle.std.proofs.Common.{◌≡◌, ◌<◌, ◌≤◌, ℕ, true, false, if◌then◌else◌, nat_lt, List, [], ◌∷◌}
use Rattle.std.proofs.Common.{◌++◌}
use Rattle.std.proofs.Common.{◌⊎◌, length, ap, sym, subst, ◌∙◌, Option, Some, None, refl, Result}
use Rattle.std.proofs.Common.{Ok, Err, inl, inr, arith}
use Rattle.std.specs.Int.{to_be_bytes, w16, w32, w64}
use Rattle.std.specs.Prelude.{IfErr, IsErrAnd}
use Rattle.std.proofs.lemmas.Bool.Decides.{nat_tests}
use Rattle.syn_model.proofs.ExitLemmas.{if_err_of_exit}
use Rattle.syn_model.specs.Event.{Edit, Put, MakeDir, Remove, Chmod, Token, Event, Edited}
use Rattle.syn_model.specs.Event.{Began, Replaced}
use Rattle.syn_model.specs.Path.{Path, path_spelling}
use Rattle.syn_model.specs.Tree.{Tree}
use Rattle.syn_model.specs.Refusal.{Cause, Refusal, first_cause}
use Rattle.syn_model.specs.Refusal as why
use Rattle.syn_model.specs.Spelling.{event_spelling, spelling, token_spelling}
use Rattle.syn_model.specs.Standing.{Standing, causes_at, refusal_at}
use Rattle.syn_model.proofs.HistoryLemmas.{first_stays, first_skips}
use Rattle.syn_replica.specs.ErrorRefusals.{refusal_of}
use Rattle.syn_replica.specs.declared.error.ReplicaError.{ReplicaError}
use Rattle.syn_replica.specs.declared.error.ReplicaError.TheVariants.{Journal}
use Rattle.syn_journal.specs.declared.error.JournalError.TheVariants.{JournalFull}
use Rattle.syn_replica.proofs.RefusalLemmas.{is_among, first_among, outside_among}
use Rattle.syn_replica.specs.Refusals.{IsOneOf, begin_refusals, edit_refusals, outside_refusals}
use Rattle.syn_replica.specs.Refusals.{replace_refusals}
use Rattle.syn_replica.specs.Steps.{room_causes}
use Rattle.syn_replica.specs.inner.Additions.{add_refusal_at}

lt_true : (m n : ℕ) → m < n → nat_lt m n ≡ true
lt_true m n h = grind (arith, nat_tests)

le_false : (m n : ℕ) → n ≤ m → nat_lt m n ≡ false
le_false m n h = grind (arith, nat_tests)

-- last comes the room
pub room_at : (room : ℕ) (standing : Standing) (event : Event) → refusal_at standing event ≡ None →
    room < length (event_spelling event) → add_refusal_at room standing event ≡ Some why.JournalFull
room_at room standing event none long =
    first_skips (causes_at standing event) (room_causes room event) none
    ∙ ap (λ b. if b then Some why.JournalFull else None)
    (lt_true room (length (event_spelling event)) long)

pub room_passed : (room : ℕ) (standing : Standing) (event : Event) →
    refusal_at standing event ≡ None → length (event_spelling event) ≤ room →
    add_refusal_at room standing event ≡ None
room_passed room standing event none fits =
    first_skips (causes_at standing event) (room_causes room event) none
    ∙ ap (λ b. if b then Some why.JournalFull else None)
    (le_false room (length (event_spelling event)) fits)

pub refused_at : (room : ℕ) (standing : Standing) (event : Event) (refusal : Refusal) →
    refusal_at standing event ≡ Some refusal → add_refusal_at room standing event ≡ Some refusal
refused_at room standing event refusal e =
    first_stays (causes_at standing event) (room_causes room event) refusal e

-- a last cause that does not stand changes nothing
pub last_false : (causes : List Cause) (refusal : Refusal) →
    first_cause (causes ++ (false, refusal) ∷ []) ≡ first_cause causes
last_false [] refusal = refl
last_false ((true, cause) ∷ causes) refusal = refl
last_false ((false, cause) ∷ causes) refusal = last_false causes refusal

-- so where there is room, all is said by what stands against the event
pub room_aside : (room : ℕ) (standing : Standing) (event : Event) →
    length (event_spelling event) ≤ room →
    refusal_at standing event ≡ add_refusal_at room standing event
room_aside room standing event fits =
    let causes = causes_at standing event in
    sym (ap (λ b. first_cause (causes ++ (b, why.JournalFull) ∷ []))
    (le_false room (length (event_spelling event)) fits) ∙ last_false causes why.JournalFull)

-- what refuses the update is answered, and so is lack of room
module _ {X : Type 0} (room : ℕ) (standing : Standing) (event : Event) where
  pub update_refused : (r : Result X ReplicaError) (e : ReplicaError) → IsErrAnd r (λ x. x ≡ e) →
      (refusal_of e ≡ why.Memory) ⊎ (refusal_at standing event ≡ Some (refusal_of e)) → IfErr r
      (λ e. IsOneOf outside_refusals e ⊎ (add_refusal_at room standing event ≡ Some (refusal_of e)))
  update_refused r e is told =
      if_err_of_exit r e (λ e. IsOneOf outside_refusals e
      ⊎ (add_refusal_at room standing event ≡ Some (refusal_of e))) is
      (elim told as (λ _. IsOneOf outside_refusals e
      ⊎ (add_refusal_at room standing event ≡ Some (refusal_of e))) [
        | inl memory ↦ inl (ap (is_among outside_refusals) memory)
        | inr cause ↦ inr (refused_at room standing event (refusal_of e) cause)
      ])

  pub room_refused : (r : Result X ReplicaError) (e : ReplicaError) (needed : ℕ) →
      IsErrAnd r (λ x. x ≡ e) → refusal_at standing event ≡ None →
      needed ≡ length (event_spelling event) → (e ≡ Journal JournalFull) × (room < needed) → IfErr r
      (λ e. IsOneOf outside_refusals e ⊎ (add_refusal_at room standing event ≡ Some (refusal_of e)))
  room_refused r e needed is none spelled told =
      if_err_of_exit r e (λ e. IsOneOf outside_refusals e
      ⊎ (add_refusal_at room standing event ≡ Some (refusal_of e))) is
      (inr (room_at room standing event none (subst (λ n. room < n) spelled told.1)
      ∙ sym (ap (λ x. Some (refusal_of x)) told.0)))

-- which refusals an addition may answer
module _ (refusals : List Refusal) (memory : is_among refusals why.Memory ≡ true)
    (device : is_among refusals why.Device ≡ true) where
  pub added_refusals : {X : Type 0} (answered : Option Refusal) →
      ((refusal : Refusal) → answered ≡ Some refusal → is_among refusals refusal ≡ true) →
      (r : Result X ReplicaError) →
      IfErr r (λ e. IsOneOf outside_refusals e ⊎ (answered ≡ Some (refusal_of e))) →
      IfErr r (IsOneOf refusals)
  added_refusals answered among (Ok x) told = tt
  added_refusals answered among (Err x) (inl outside) =
      outside_among refusals memory device x outside
  added_refusals answered among (Err x) (inr cause) = among (refusal_of x) cause

pub replaced_among : (room : ℕ) (s : Standing) (token : Token) (path : Path) (since : ℕ)
    (new : Tree) (refusal : Refusal) →
    add_refusal_at room s (Replaced token path since new) ≡ Some refusal →
    is_among replace_refusals refusal ≡ true
replaced_among room s token path since new refusal e =
    first_among replace_refusals (causes_at s (Replaced token path since new) ++ room_causes room
    (Replaced token path since new)) refusal (refl, (refl, (refl, (refl, (refl, (refl, tt)))))) e

pub begun_among : (room : ℕ) (s : Standing) (session : ℕ) (refusal : Refusal) →
    add_refusal_at room s (Began session) ≡ Some refusal → is_among begin_refusals refusal ≡ true
begun_among room s session refusal e =
    first_among begin_refusals (causes_at s (Began session) ++ room_causes room (Began session))
    refusal (refl, (refl, (refl, tt))) e

pub edited_among : (room : ℕ) (s : Standing) (user : ℕ) (edit : Edit) (refusal : Refusal) →
    add_refusal_at room s (Edited user edit) ≡ Some refusal → is_among edit_refusals refusal ≡ true
edited_among room s user (Put path bytes) refusal e =
    first_among edit_refusals (causes_at s (Edited user (Put path bytes)) ++ room_causes room
    (Edited user (Put path bytes))) refusal (refl, (refl, (refl, (refl, (refl, (refl, tt)))))) e
edited_among room s user (MakeDir path) refusal e =
    first_among edit_refusals (causes_at s (Edited user (MakeDir path)) ++ room_causes room
    (Edited user (MakeDir path))) refusal (refl, (refl, (refl, (refl, (refl, (refl, tt)))))) e
edited_among room s user (Remove path) refusal e =
    first_among edit_refusals (causes_at s (Edited user (Remove path)) ++ room_causes room
    (Edited user (Remove path))) refusal (refl, (refl, (refl, (refl, (refl, (refl, tt)))))) e
edited_among room s user (Chmod path mode) refusal e =
    first_among edit_refusals (causes_at s (Edited user (Chmod path mode)) ++ room_causes room
    (Edited user (Chmod path mode))) refusal
    (refl, (refl, (refl, (refl, (refl, (refl, (refl, tt))))))) e

some_bytes : (x : ℕ) (xs : List ℕ) → 1 ≤ length (x ∷ xs)
some_bytes x xs = omega arith

pub spelled_long : (event : Event) → 1 ≤ length (event_spelling event)
spelled_long (Edited user (Put path bytes)) =
    some_bytes 1
    (to_be_bytes w32 user ++ (path_spelling path ++ (to_be_bytes w32 (length bytes) ++ bytes)))
spelled_long (Edited user (MakeDir path)) =
    some_bytes 2 (to_be_bytes w32 user ++ path_spelling path)
spelled_long (Edited user (Remove path)) = some_bytes 3 (to_be_bytes w32 user ++ path_spelling path)
spelled_long (Edited user (Chmod path mode)) =
    some_bytes 6 (to_be_bytes w32 user ++ (path_spelling path ++ to_be_bytes w16 mode))
spelled_long (Began session) = some_bytes 4 (to_be_bytes w64 session)
spelled_long (Replaced token path since new) =
    some_bytes 5
    (token_spelling token ++ (path_spelling path ++ (to_be_bytes w64 since ++ spelling new)))
