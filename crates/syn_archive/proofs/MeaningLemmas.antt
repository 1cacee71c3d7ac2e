-- Why a disk is not opened, and what an opened archive stands for.
use Rattle.std.proofs.Common.{◌⊎◌, ◌≡◌, ◌<◌, ◌^◌, ℕ, List, refl, sym, ap, ◌∙◌, subst, Option}
use Rattle.std.proofs.Common.{Ok, inl, inr, ap₂}
use Rattle.std.proofs.lemmas.Option.{none-some, same_Some}
use Rattle.syn_disk.specs.declared.disk.Disk.{Ghosts}
use Rattle.syn_model.specs.Archive as model
use Rattle.syn_model.specs.ArchiveImage.{ArchiveStandsFor, ArchiveStandsForIn}
use Rattle.syn_model.specs.Version.{Version, One, current_version}
use Rattle.syn_journal.specs.Journal as journal
use Rattle.syn_journal.specs.Layout.{Value, meaning}
use Rattle.syn_journal.proofs.Meanings.{no_value, one_value}
use Rattle.syn_journal.specs.Refusals as journal_refusals
use Rattle.syn_journal.specs.declared.error.JournalError.{JournalError}
use Rattle.syn_journal.specs.declared.error.JournalError.TheVariants as refused_by
use Rattle.syn_journal.specs.Journaled.{Opened as IsOpened}
use Rattle.syn_journal.specs.Openings.{NotOpened}
use Rattle.syn_model.specs.MarkSpelling.{IsOldArchiveImage}
use Rattle.syn_model.specs.Path.{Bytes}
use Rattle.syn_archive.specs.Archive.{Stands, shown, pair_of, journal_of}
use Rattle.syn_archive.specs.Disks.{DiskKeeps, DiskStands, IsOpenRefusal, IsReopenRefusal}
use Rattle.syn_archive.specs.Disks.{StandsForNone, StandsForNoneIn, StandsForOther, IsWanted}
use Rattle.syn_archive.specs.Refusals.{of_journal}
use Rattle.syn_archive.specs.inner.Agreements.{Gives, IsUnread, IsUnreadAgain, IsUnreadOld}
use Rattle.syn_archive.specs.inner.Agreements.{agreed_archive}
use Rattle.syn_archive.specs.inner.Openings.{IsOfPayload, OneStands}
use Rattle.syn_archive.specs.declared.agreed.Agreed.{Agreed}
use Rattle.syn_archive.specs.declared.archive.Archive.{Archive}
use Rattle.syn_archive.specs.declared.error.ArchiveError.{ArchiveError}
use Rattle.syn_archive.specs.declared.error.ArchiveError.TheVariants.{NoParent, Root, Full}
use Rattle.syn_archive.specs.declared.error.ArchiveError.TheVariants.{JournalFull, Device, Halted}
use Rattle.syn_archive.specs.declared.error.ArchiveError.TheVariants.{Memory, NoImage, Damaged}
use Rattle.syn_archive.specs.declared.error.ArchiveError.TheVariants.{OldVersion, WrongPair}
use Rattle.syn_archive.proofs.OpeningLemmas.{not_old}

-- what the journal refuses, as an archive refuses it
by_journal : (by : JournalError) (wanted : Option ℕ) (bytes : List ℕ) →
    journal_refusals.IsOpenRefusal by (meaning bytes) → IsOpenRefusal (of_journal by) wanted bytes
by_journal refused_by.Full wanted bytes h = absurd h
by_journal refused_by.JournalFull wanted bytes h = absurd h
by_journal refused_by.Device wanted bytes h = tt
by_journal refused_by.Halted wanted bytes h = absurd h
by_journal refused_by.Memory wanted bytes h = tt
by_journal refused_by.NoImage wanted bytes h = h
by_journal refused_by.Damaged wanted bytes h = inl h

-- and what an image and its payloads refuse
by_meaning : (e : ArchiveError) (wanted : Option ℕ) (bytes : List ℕ) (value : Value) →
    meaning bytes ≡ Ok value → IsUnread e wanted value.image value.payloads →
    IsOpenRefusal e wanted bytes
by_meaning NoParent wanted bytes value means h = absurd h
by_meaning Root wanted bytes value means h = absurd h
by_meaning Full wanted bytes value means h = absurd h
by_meaning JournalFull wanted bytes value means h = absurd h
by_meaning Device wanted bytes value means h = absurd h
by_meaning Halted wanted bytes value means h = absurd h
by_meaning Memory wanted bytes value means h = tt
by_meaning NoImage wanted bytes value means h = absurd h
by_meaning Damaged wanted bytes value means h = inr (value, means, h.0, h.1)
by_meaning WrongPair wanted bytes value means h = (value, means, h)
by_meaning OldVersion wanted bytes value means h = (value, means, h)

pub open_refusal : (e : ArchiveError) (wanted : Option ℕ) (bytes : List ℕ) →
    NotOpened of_journal (IsUnread e wanted) e bytes → IsOpenRefusal e wanted bytes
open_refusal e wanted bytes (inl h) =
    subst (λ x. IsOpenRefusal x wanted bytes) (sym h.1) (by_journal h.0 wanted bytes h.2)
open_refusal e wanted bytes (inr h) = by_meaning e wanted bytes h.0 h.1 h.2

by_journal_again : (by : JournalError) (pair : ℕ) (bytes : List ℕ) →
    journal_refusals.IsOpenRefusal by (meaning bytes) → IsReopenRefusal (of_journal by) pair bytes
by_journal_again refused_by.Full pair bytes h = absurd h
by_journal_again refused_by.JournalFull pair bytes h = absurd h
by_journal_again refused_by.Device pair bytes h = tt
by_journal_again refused_by.Halted pair bytes h = absurd h
by_journal_again refused_by.Memory pair bytes h = tt
by_journal_again refused_by.NoImage pair bytes h = h
by_journal_again refused_by.Damaged pair bytes h = inl h

by_own : (e : ArchiveError) (agreed : Agreed) (bytes : List ℕ) (value : Value) →
    meaning bytes ≡ Ok value → IsUnreadAgain e agreed value.image value.payloads →
    IsReopenRefusal e agreed.pair bytes
by_own NoParent agreed bytes value means h = absurd h
by_own Root agreed bytes value means h = absurd h
by_own Full agreed bytes value means h = absurd h
by_own JournalFull agreed bytes value means h = absurd h
by_own Device agreed bytes value means h = absurd h
by_own Halted agreed bytes value means h = absurd h
by_own Memory agreed bytes value means h = tt
by_own NoImage agreed bytes value means h = absurd h
by_own Damaged agreed bytes value means h = inr (value, means, h)
by_own WrongPair agreed bytes value means h = absurd h
by_own OldVersion agreed bytes value means h = absurd h

pub reopen_refusal : (e : ArchiveError) (agreed : Agreed) (bytes : List ℕ) →
    NotOpened of_journal (IsUnreadAgain e agreed) e bytes → IsReopenRefusal e agreed.pair bytes
reopen_refusal e agreed bytes (inl h) =
    subst (λ x. IsReopenRefusal x agreed.pair bytes) (sym h.1)
    (by_journal_again h.0 agreed.pair bytes h.2)
reopen_refusal e agreed bytes (inr h) = by_own e agreed bytes h.0 h.1 h.2

-- what is unread of an image and its payloads, of the first version and of the same pair
pub unread : (e : ArchiveError) (wanted : Option ℕ) (image : Bytes) (payloads : List Bytes) →
    ¬ IsOldArchiveImage image → IsOfPayload e → (e ≡ Damaged → StandsForNone image payloads) →
    IsUnread e wanted image payloads
unread NoParent wanted image payloads young h damaged = absurd h
unread Root wanted image payloads young h damaged = absurd h
unread Full wanted image payloads young h damaged = absurd h
unread JournalFull wanted image payloads young h damaged = absurd h
unread Device wanted image payloads young h damaged = absurd h
unread Halted wanted image payloads young h damaged = absurd h
unread Memory wanted image payloads young h damaged = tt
unread NoImage wanted image payloads young h damaged = absurd h
unread Damaged wanted image payloads young h damaged = (young, damaged refl)
unread WrongPair wanted image payloads young h damaged = absurd h
unread OldVersion wanted image payloads young h damaged = absurd h

pub unread_old : (e : ArchiveError) (image : Bytes) (payloads : List Bytes) → IsOfPayload e →
    (e ≡ Damaged → StandsForNoneIn One image payloads) → IsUnreadOld e image payloads
unread_old NoParent image payloads h damaged = absurd h
unread_old Root image payloads h damaged = absurd h
unread_old Full image payloads h damaged = absurd h
unread_old JournalFull image payloads h damaged = absurd h
unread_old Device image payloads h damaged = absurd h
unread_old Halted image payloads h damaged = absurd h
unread_old Memory image payloads h damaged = tt
unread_old NoImage image payloads h damaged = absurd h
unread_old Damaged image payloads h damaged = damaged refl
unread_old WrongPair image payloads h damaged = absurd h
unread_old OldVersion image payloads h damaged = absurd h

pub unread_again : (e : ArchiveError) (agreed : Agreed) (image : Bytes) (payloads : List Bytes) →
    IsOfPayload e → (e ≡ Damaged → (archive : model.Archive) →
    ¬ ArchiveStandsFor agreed.pair image payloads archive) → IsUnreadAgain e agreed image payloads
unread_again NoParent agreed image payloads h damaged = absurd h
unread_again Root agreed image payloads h damaged = absurd h
unread_again Full agreed image payloads h damaged = absurd h
unread_again JournalFull agreed image payloads h damaged = absurd h
unread_again Device agreed image payloads h damaged = absurd h
unread_again Halted agreed image payloads h damaged = absurd h
unread_again Memory agreed image payloads h damaged = tt
unread_again NoImage agreed image payloads h damaged = absurd h
unread_again Damaged agreed image payloads h damaged = damaged refl
unread_again WrongPair agreed image payloads h damaged = absurd h
unread_again OldVersion agreed image payloads h damaged = absurd h

-- what is refused of a payload that is not damaged
pub memory_alone : (e : ArchiveError) → IsOfPayload e → ¬ (e ≡ Damaged) → e ≡ Memory
memory_alone NoParent of whole = absurd of
memory_alone Root of whole = absurd of
memory_alone Full of whole = absurd of
memory_alone JournalFull of whole = absurd of
memory_alone Device of whole = absurd of
memory_alone Halted of whole = absurd of
memory_alone Memory of whole = refl
memory_alone NoImage of whole = absurd of
memory_alone Damaged of whole = absurd (whole refl)
memory_alone WrongPair of whole = absurd of
memory_alone OldVersion of whole = absurd of

-- one archive of one pair is given
same_agreed : (a b : Agreed) → a.pair ≡ b.pair → agreed_archive a ≡ agreed_archive b → a ≡ b
same_agreed a b pair same =
    ap₂ (λ (p : ℕ) (k : model.Archive). record {
      pair = p;
      last_session = k.last_session;
      marks = k.marks;
    }) pair same

pub one_given : OneStands → (version : Version) (image : Bytes) (payloads : List Bytes)
    (a b : Agreed) → a.pair < 2 ^ 64 → b.pair < 2 ^ 64 →
    ArchiveStandsForIn version a.pair image payloads (agreed_archive a) →
    ArchiveStandsForIn version b.pair image payloads (agreed_archive b) → a ≡ b
one_given one version image payloads a b h k s t =
    let both = one version image payloads a.pair b.pair (agreed_archive a) (agreed_archive b) h k s
    t in
    same_agreed a b both.0 both.1

-- what an archive shows is that of its journal's value, and so the archive stands for it
pub stands_shown : {D : Type 0} {disk : Ghosts D} (archive : Archive D disk) (value : Value) →
    journal.Stands (journal_of archive) value →
    ArchiveStandsFor (pair_of archive) value.image value.payloads (shown archive) →
    Stands archive (shown archive)
stands_shown archive value runs means =
    record { remembers = refl; value = value; runs = runs; means = means }

-- and for each archive that the disk stands for
pub stands_for_each : {D : Type 0} {disk : Ghosts D} (archive : Archive D disk)
    (bytes : List ℕ) (number : ℕ) (kept : model.Archive) →
    IsOpened (λ a. a.pair) Gives bytes archive.journaled →
    number < 2 ^ 64 → DiskStands number bytes kept →
    (number ≡ pair_of archive) × Stands archive kept
stands_for_each archive bytes number kept opened fits d =
    let other : Agreed = record {
      pair = number;
      last_session = kept.last_session;
      marks = kept.marks;
    } in
    let same = opened.one other fits
    (record { value = d.value; means = d.means; given = d.stands }) in (
      ap (λ a. a.pair) same,
      subst (Stands archive) (sym (ap agreed_archive same))
          (stands_shown archive opened.value opened.runs opened.given),
    )

-- a disk that keeps an archive stands for it
pub keeps_stands : {pair : ℕ} {archive : model.Archive} {left generation : ℕ} {bytes : List ℕ} →
    DiskKeeps pair archive left generation bytes → DiskStands pair bytes archive
keeps_stands keeps =
    record { value = keeps.value; means = keeps.journal.means; stands = keeps.stands }

-- the wanted pair is no other
pub not_other : OneStands → (wanted : Option ℕ) (value : Value) (number : ℕ)
    (kept : model.Archive) →
    number < 2 ^ 64 → ArchiveStandsFor number value.image value.payloads kept →
    IsWanted wanted number → StandsForOther wanted value.image value.payloads → ⊥
not_other one wanted value number kept fits stands (inl none) other =
    none-some _ (sym none ∙ other.wanted_is)
not_other one wanted value number kept fits stands (inr some) other =
    other.differ (same_Some _ _ (sym other.wanted_is ∙ some)
    ∙ (one current_version value.image value.payloads number other.pair kept other.archive fits
    other.fits stands other.stands).0)

-- a disk of the wanted pair's archive is refused by the device and for lack of memory alone
pub lawful_refusal : OneStands → (e : ArchiveError) (wanted : Option ℕ) (bytes : List ℕ)
    (number : ℕ) (kept : model.Archive) → number < 2 ^ 64 → DiskStands number bytes kept →
    IsWanted wanted number → IsOpenRefusal e wanted bytes → (e ≡ Device) ⊎ (e ≡ Memory)
lawful_refusal one NoParent wanted bytes number kept fits d is h = absurd h
lawful_refusal one Root wanted bytes number kept fits d is h = absurd h
lawful_refusal one Full wanted bytes number kept fits d is h = absurd h
lawful_refusal one JournalFull wanted bytes number kept fits d is h = absurd h
lawful_refusal one Device wanted bytes number kept fits d is h = inl refl
lawful_refusal one Halted wanted bytes number kept fits d is h = absurd h
lawful_refusal one Memory wanted bytes number kept fits d is h = inr refl
lawful_refusal one NoImage wanted bytes number kept fits d is h =
    absurd (no_value (meaning bytes) d.value _ d.means h)
lawful_refusal one Damaged wanted bytes number kept fits d is (inl h) =
    absurd (no_value (meaning bytes) d.value _ d.means h)
lawful_refusal one Damaged wanted bytes number kept fits d is (inr h) =
    absurd (h.3 number kept fits (subst (λ v. ArchiveStandsFor number v.image v.payloads kept)
    (one_value (meaning bytes) d.value h.0 d.means h.1) d.stands))
lawful_refusal one WrongPair wanted bytes number kept fits d is h =
    absurd (not_other one wanted h.0 number kept fits (subst (λ v. ArchiveStandsFor number v.image
    v.payloads kept) (one_value (meaning bytes) d.value h.0 d.means h.1) d.stands) is h.2)
lawful_refusal one OldVersion wanted bytes number kept fits d is h =
    absurd (not_old number h.0.image h.0.payloads kept (subst (λ v. ArchiveStandsFor number v.image
    v.payloads kept) (one_value (meaning bytes) d.value h.0 d.means h.1) d.stands) h.2)
