-- What an image and payloads give a replica to remember.
use Rattle.std.proofs.Common.{◌≡◌, ◌<◌, ◌^◌, ◌∙◌, ℕ, List, Option, Some, None, ap, ap₂, sym, inl}
use Rattle.std.proofs.Common.{inr, refl, arith, Result, Ok, Err}
use Rattle.std.specs.Prelude.{IfErr}
use Rattle.std.proofs.lemmas.Option.{none-some, same_Some}
use Rattle.syn_model.specs.Image.{IsOldImage}
use Rattle.syn_model.specs.Path.{Bytes}
use Rattle.syn_model.specs.Refusal as why
use Rattle.syn_model.specs.Standing.{Standing}
use Rattle.syn_model.specs.Version.{One, current_version}
use Rattle.syn_replica.specs.Readings.{GivesNothing, GivesNothingIn, GivesOtherPair}
use Rattle.syn_replica.specs.Readings.{GivesOtherPairIn, IsOfMeaning, OneIsGiven}
use Rattle.syn_replica.specs.ErrorRefusals.{refusal_of}
use Rattle.syn_replica.specs.declared.error.ReplicaError.{ReplicaError}
use Rattle.syn_replica.specs.declared.error.ReplicaError.TheVariants.{Tree, History, Journal}
use Rattle.syn_replica.specs.declared.error.ReplicaError.TheVariants.{Memory, Touched, OldSession}
use Rattle.syn_replica.specs.declared.error.ReplicaError.TheVariants.{Damaged, WrongPair}
use Rattle.syn_replica.specs.declared.error.ReplicaError.TheVariants.{OldVersion}
use Rattle.syn_replica.specs.inner.Memories.{Gives, IsNoNext, IsUnread, IsUnreadOld}
use Rattle.syn_replica.specs.declared.remembered.Remembered.{Remembered}

-- one pair and one standing are one memory
pub same_memory : (a b : Remembered) → a.pair ≡ b.pair → a.standing ≡ b.standing → a ≡ b
same_memory a b pair standing =
    ap₂ (λ (n : ℕ) (s : Standing). record { pair = n; standing = s }) pair standing

-- ---- why nothing is read

pub unread : (read : Result Remembered ReplicaError) (wanted : Option ℕ) (image : Bytes)
    (payloads : List Bytes) → ¬ IsOldImage image → IfErr read IsOfMeaning →
    IfErr read (λ e. e ≡ Damaged → GivesNothing image payloads) →
    IfErr read (λ e. e ≡ WrongPair → GivesOtherPair wanted image payloads) →
    IfErr read (λ e. IsUnread e wanted image payloads)
unread (Ok memory) wanted image payloads young h damaged other = tt
unread (Err (Tree e)) wanted image payloads young h damaged other = absurd h
unread (Err (History e)) wanted image payloads young h damaged other = absurd h
unread (Err (Journal e)) wanted image payloads young h damaged other = absurd h
unread (Err Memory) wanted image payloads young h damaged other = tt
unread (Err Touched) wanted image payloads young h damaged other = absurd h
unread (Err OldSession) wanted image payloads young h damaged other = absurd h
unread (Err Damaged) wanted image payloads young h damaged other = (young, damaged refl)
unread (Err WrongPair) wanted image payloads young h damaged other = other refl
unread (Err OldVersion) wanted image payloads young h damaged other = absurd h

asked_none : {asked : ℕ} → None ≡ Some asked → ⊥
asked_none is = none-some _ is

pub unread_old : (read : Result Remembered ReplicaError) (image : Bytes)
    (payloads : List Bytes) → IfErr read IsOfMeaning →
    IfErr read (λ e. e ≡ Damaged → GivesNothingIn One image payloads) →
    IfErr read (λ e. e ≡ WrongPair → GivesOtherPairIn One None image payloads) →
    IfErr read (λ e. IsUnreadOld e image payloads)
unread_old (Ok memory) image payloads h damaged other = tt
unread_old (Err (Tree e)) image payloads h damaged other = absurd h
unread_old (Err (History e)) image payloads h damaged other = absurd h
unread_old (Err (Journal e)) image payloads h damaged other = absurd h
unread_old (Err Memory) image payloads h damaged other = tt
unread_old (Err Touched) image payloads h damaged other = absurd h
unread_old (Err OldSession) image payloads h damaged other = absurd h
unread_old (Err Damaged) image payloads h damaged other = damaged refl
unread_old (Err WrongPair) image payloads h damaged other =
    absurd (asked_none (other refl).wanted_is)
unread_old (Err OldVersion) image payloads h damaged other = absurd h

pub no_next : (e : ReplicaError) (memory : Remembered) (image : Bytes) (payloads : List Bytes) →
    IsOfMeaning e → (e ≡ Damaged → GivesNothing image payloads) →
    (e ≡ WrongPair → GivesOtherPair None image payloads) → IsNoNext e memory image payloads
no_next (Tree e) memory image payloads h damaged other = absurd h
no_next (History e) memory image payloads h damaged other = absurd h
no_next (Journal e) memory image payloads h damaged other = absurd h
no_next Memory memory image payloads h damaged other = tt
no_next Touched memory image payloads h damaged other = absurd h
no_next OldSession memory image payloads h damaged other = absurd h
no_next Damaged memory image payloads h damaged other = inl (damaged refl)
no_next WrongPair memory image payloads h damaged other =
    absurd (asked_none (other refl).wanted_is)
no_next OldVersion memory image payloads h damaged other = absurd h

-- where they give what is remembered, memory alone is refused
pub own_memory : OneIsGiven → (e : ReplicaError) (memory : Remembered) (image : Bytes)
    (payloads : List Bytes) → memory.pair < 2 ^ 64 → Gives image payloads memory →
    IsNoNext e memory image payloads → refusal_of e ≡ why.Memory
own_memory one (Tree e) memory image payloads fits gives h = absurd h
own_memory one (History e) memory image payloads fits gives h = absurd h
own_memory one (Journal e) memory image payloads fits gives h = absurd h
own_memory one Memory memory image payloads fits gives h = refl
own_memory one Touched memory image payloads fits gives h = absurd h
own_memory one OldSession memory image payloads fits gives h = absurd h
own_memory one Damaged memory image payloads fits gives (inl nothing) =
    absurd (nothing memory.pair memory.standing fits gives)
own_memory one Damaged memory image payloads fits gives (inr (inl less)) =
    let same = (one current_version image payloads memory.pair memory.pair less.standing
    memory.standing fits fits less.gives gives).1 in
    let as_many : less.standing.position ≡ memory.standing.position =
    ap (λ (s : Standing). s.position) same in
    let fewer = less.fewer in
    absurd (omega (arith, as_many, fewer))
own_memory one Damaged memory image payloads fits gives (inr (inr other)) =
    let same = (one current_version image payloads memory.pair other.pair memory.standing
    other.standing fits other.fits gives other.gives).0 in
    absurd (other.differ (sym (same_Some _ _ other.wanted_is) ∙ same))
own_memory one WrongPair memory image payloads fits gives h = absurd h
own_memory one OldVersion memory image payloads fits gives h = absurd h
