-- The machine of a side keeps what a replica has in memory.
use Rattle.std.proofs.Common.{◌≡◌, ◌≤◌, ◌<◌, ◌^◌, ◌∙◌, ℕ, List, [], ◌∷◌, ◌++◌, length, Some, refl}
use Rattle.std.proofs.Common.{sym, ap, ap₂, subst, inl, inr, arith}
use Rattle.std.proofs.lemmas.List.{length-append}
use Rattle.syn_journal.specs.Machines.{GoesOn, IsLawful, IsReadAs}
use Rattle.syn_model.specs.History.{History, standing_of}
use Rattle.syn_model.specs.Image.{Gives as ModelGives, StandsFor, image_spelling}
use Rattle.syn_model.specs.Laws.{ImageStands, PayloadGoesOn}
use Rattle.syn_model.specs.Path.{Bytes}
use Rattle.syn_model.specs.Refusal as why
use Rattle.syn_model.specs.Standing.{Standing}
use Rattle.syn_model.specs.Version.{current_version}
use Rattle.syn_replica.specs.ErrorRefusals.{refusal_of}
use Rattle.syn_replica.specs.Readings.{OneIsGiven}
use Rattle.syn_replica.specs.declared.error.ReplicaError.{ReplicaError}
use Rattle.syn_replica.specs.declared.error.ReplicaError.TheVariants.{Damaged, Journal, Memory}
use Rattle.syn_replica.specs.declared.error.ReplicaError.TheVariants.{OldVersion, WrongPair}
use Rattle.syn_replica.specs.declared.remembered.Remembered.{Remembered}
use Rattle.syn_replica.specs.inner.Memories.{Gives, IsUnread, IsUnreadAgain, MayFollow, RemembersAs}
use Rattle.syn_replica.specs.inner.Memories.{kept_as}
use Rattle.syn_replica.proofs.VersionLemmas.{not_old}

pub is_lawful : ImageStands → PayloadGoesOn → (pair : ℕ) →
    IsLawful (kept_as pair) (λ memory. image_spelling memory.pair memory.standing)
is_lawful alone goes_on pair = record {
  image = λ memory history is. ap₂ image_spelling is.pair_is is.standing;
  alone = λ image payloads history stands. alone pair history stands.lawful;
  more = λ image payloads history event stands allowed.
      goes_on pair image payloads history event stands allowed;
}

given : (pair : ℕ) (image : Bytes) (payloads : List Bytes) (memory : Remembered)
    (history : History) → StandsFor pair image payloads history → RemembersAs pair memory history →
    Gives image payloads memory
given pair image payloads memory history stands is =
    subst (λ n. ModelGives n image payloads memory.standing) (sym is.pair_is)
    (subst (ModelGives pair image payloads) (sym is.standing) stands.gives)

asked_is : (a b : ℕ) → Some a ≡ Some b → a ≡ b
asked_is a b e = cc e

-- what goes on from a history is no shorter
no_shorter : (pair : ℕ) (before history : History) → GoesOn (kept_as pair) before history →
    length before ≤ length history
no_shorter pair before history (inl same) =
    let k : length history ≡ length before = ap (λ h. length h) same in omega (arith, k)
no_shorter pair before history (inr more) =
    let k : length history ≡ length (before ++ more.0 ∷ []) = ap (λ h. length h) more.2 in
    let n = length-append before (more.0 ∷ []) in
    omega (arith, k, n)

module _ (one : OneIsGiven) (memory : Remembered) (image : Bytes) (payloads : List Bytes)
    (history : History) (stands : StandsFor memory.pair image payloads history)
    (early : memory.standing.position ≤ length history) where
  refused_for_memory : (e : ReplicaError) → IsUnreadAgain e memory image payloads →
      refusal_of e ≡ why.Memory
  refused_for_memory Memory unread = refl
  refused_for_memory Damaged (fits, inl nothing) =
      absurd (nothing memory.pair (standing_of history) fits stands.gives)
  refused_for_memory Damaged (fits, inr (inl less)) =
      let same = (one current_version image payloads memory.pair memory.pair less.standing
      (standing_of history) fits fits less.gives stands.gives).1 in
      let long : less.standing.position ≡ length history =
      ap (λ (s : Standing). s.position) same in
      let few = less.fewer in
      absurd (omega (arith, early, long, few))
  refused_for_memory Damaged (fits, inr (inr other)) =
      let same = (one current_version image payloads memory.pair other.pair (standing_of history)
      other.standing fits other.fits stands.gives other.gives).0 in
      absurd (other.differ (sym (asked_is memory.pair other.asked other.wanted_is) ∙ same))
  refused_for_memory _ unread = absurd unread.1

-- what is wanted and stands there is refused for lack of memory alone
refused_at_first : OneIsGiven → (e : ReplicaError) (pair : ℕ) (history : History) (image : Bytes)
    (payloads : List Bytes) → pair < 2 ^ 64 → StandsFor pair image payloads history →
    IsUnread e (Some pair) image payloads → refusal_of e ≡ why.Memory
refused_at_first one Memory pair history image payloads fits stands unread = refl
refused_at_first one Damaged pair history image payloads fits stands unread =
    absurd (unread.1 pair (standing_of history) fits stands.gives)
refused_at_first one WrongPair pair history image payloads fits stands unread =
    let same = (one current_version image payloads pair unread.pair (standing_of history)
    unread.standing fits unread.fits stands.gives unread.gives).0 in
    absurd (unread.differ (sym (asked_is pair unread.asked unread.wanted_is) ∙ same))
refused_at_first one OldVersion pair history image payloads fits stands unread =
    absurd (not_old pair image payloads (standing_of history) stands.gives unread)
refused_at_first one _ pair history image payloads fits stands unread = absurd unread

pub is_read_as : OneIsGiven → (pair : ℕ) → IsReadAs pair (kept_as pair) (λ memory. memory.pair)
    Gives MayFollow IsUnread IsUnreadAgain (λ by. Journal by) refusal_of
is_read_as one pair = record {
  of_pair = λ memory history is. is.pair_is;
  same_pair = λ old new follows. follows.pair;
  some = λ image payloads history stands. (
    record { pair = pair; standing = standing_of history },
    record { pair_is = refl; lawful = stands.lawful; standing = refl },
  );
  given = λ image payloads history memory stands is. given pair image payloads memory history stands
      is;
  read = λ e history image payloads fits stands unread. refused_at_first one e pair history image
      payloads fits stands unread;
  read_again = λ e memory before history image payloads is goes stands unread.
      refused_for_memory one memory image payloads history
      (subst (λ n. StandsFor n image payloads history) (sym is.pair_is) stands)
      (let here : memory.standing.position ≡ length before =
      ap (λ (s : Standing). s.position) is.standing in
      let k = no_shorter pair before history goes in omega (arith, here, k)) e unread;
  by_journal = λ by. refl;
}
