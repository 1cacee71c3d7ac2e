-- How a call of an archive ended, by its refusal.
use Rattle.std.specs.Prelude.{Result, Ok, Err, IfErr, IfNone, IfSome, MatchResult}
use Rattle.std.proofs.Common.{◌≡◌, ◌⊎◌, ◌∙◌, inl, inr, refl, sym, ap, Option, Some, None}
use Rattle.std.proofs.lemmas.Option.{none-some, same_Some}
use Rattle.syn_model.specs.Refusal.{Refusal}
use Rattle.syn_model.specs.Refusal as reason
use Rattle.syn_journal.specs.Endings.{ended}
use Rattle.syn_journal.specs.Journaled.{IsOfCheckpoint as OfCheckpoint}
use Rattle.syn_archive.specs.Refusals.{IsOfCheckpoint, refusal_of}
use Rattle.syn_archive.specs.declared.error.ArchiveError.{ArchiveError}
use Rattle.syn_archive.specs.declared.error.ArchiveError.TheVariants.{NoParent, Root, Full}
use Rattle.syn_archive.specs.declared.error.ArchiveError.TheVariants.{JournalFull, Device, Halted}
use Rattle.syn_archive.specs.declared.error.ArchiveError.TheVariants.{Memory, NoImage, Damaged}
use Rattle.syn_archive.specs.declared.error.ArchiveError.TheVariants.{OldVersion, WrongPair}

-- ---- a refusal tells the error

abbrev error_by : Refusal → ArchiveError
error_by reason.NoParent = NoParent
error_by reason.Root = Root
error_by reason.Full = Full
error_by reason.JournalFull = JournalFull
error_by reason.Device = Device
error_by reason.Halted = Halted
error_by reason.NoImage = NoImage
error_by reason.Damaged = Damaged
error_by reason.WrongPair = WrongPair
error_by reason.OldVersion = OldVersion
error_by _ = Memory

told : (e : ArchiveError) → error_by (refusal_of e) ≡ e
told NoParent = refl
told Root = refl
told Full = refl
told JournalFull = refl
told Device = refl
told Halted = refl
told Memory = refl
told NoImage = refl
told Damaged = refl
told WrongPair = refl
told OldVersion = refl

pub same_error : (e f : ArchiveError) → refusal_of e ≡ refusal_of f → e ≡ f
same_error e f is = sym (told e) ∙ (ap error_by is ∙ told f)

-- ---- of a result

module _ {T : Type 0} where
  pub err_of : (result : Result T ArchiveError) (f : ArchiveError) →
      ended refusal_of result ≡ Some (refusal_of f) → result ≡ Err f
  err_of (Ok value) f is = absurd (none-some _ is)
  err_of (Err e) f is = ap (λ x. Err x) (same_error e f (same_Some _ _ is))

  pub err_part : (result : Result T ArchiveError) (P Q : Type 0) →
      MatchResult result (λ _. P) (λ _. Q) → (w : Refusal) → ended refusal_of result ≡ Some w → Q
  err_part (Ok value) P Q h w is = absurd (none-some _ is)
  err_part (Err e) P Q h w is = h

checkpoint_refusal : (e : ArchiveError) → OfCheckpoint (Some (refusal_of e)) → IsOfCheckpoint e
checkpoint_refusal Full h = h
checkpoint_refusal _ h = h

pub of_checkpoint : {T : Type 0} (result : Result T ArchiveError) →
    OfCheckpoint (ended refusal_of result) → IfErr result IsOfCheckpoint
of_checkpoint (Ok value) h = tt
of_checkpoint (Err e) h = checkpoint_refusal e h

-- ---- by how a call ended

pub if_none_of : (why : Option Refusal) (P : Type 0) → (why ≡ None → P) → IfNone why P
if_none_of None P h = h refl
if_none_of (Some w) P h = tt

pub if_some_of : (why : Option Refusal) (P : Refusal → Type 0) →
    ((w : Refusal) → why ≡ Some w → P w) → IfSome why P
if_some_of None P h = tt
if_some_of (Some w) P h = h w refl

-- after a refusal but for the device it is the same
pub same_unless : (why : Option Refusal) (Same : Type 0) →
    (why ≡ None) ⊎ ((why ≡ Some reason.Device) ⊎ Same) → (w : Refusal) → why ≡ Some w →
    (w ≡ reason.Device) ⊎ Same
same_unless why Same (inl none) w is = absurd (none-some _ (sym none ∙ is))
same_unless why Same (inr (inl device)) w is = inl (same_Some _ _ (sym is ∙ device))
same_unless why Same (inr (inr same)) w is = inr same
