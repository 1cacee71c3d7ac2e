-- The coordinator's machine keeps what an archive has in memory.
use Rattle.std.proofs.Common.{◌≡◌, ◌<◌, ◌^◌, ℕ, List, Some, inr, refl, sym, ap₂, subst}
use Rattle.syn_journal.specs.Machines.{IsLawful, IsReadAs}
use Rattle.syn_journal.specs.Refusals.{refusal_of as refusal_of_journal}
use Rattle.syn_journal.specs.declared.error.JournalError.{JournalError}
use Rattle.syn_journal.specs.declared.error.JournalError.TheVariants as journal
use Rattle.syn_model.specs.Archive.{Archive}
use Rattle.syn_model.specs.ArchiveImage.{ArchiveImageStands, ArchiveStandsFor, RecordGoesOn}
use Rattle.syn_model.specs.ArchiveImage.{StandsForSound}
use Rattle.syn_model.specs.MarkSpelling.{archive_spelling}
use Rattle.syn_model.specs.Path.{Bytes}
use Rattle.syn_model.specs.Refusal as why
use Rattle.syn_model.specs.Version.{current_version}
use Rattle.syn_archive.specs.Refusals.{of_journal, refusal_of}
use Rattle.syn_archive.specs.declared.agreed.Agreed.{Agreed}
use Rattle.syn_archive.specs.declared.error.ArchiveError.{ArchiveError}
use Rattle.syn_archive.specs.declared.error.ArchiveError.TheVariants as error
use Rattle.syn_archive.specs.inner.Agreements.{Gives, IsUnread, IsUnreadAgain, RemembersAs}
use Rattle.syn_archive.specs.inner.Agreements.{agreed_archive, kept_as}
use Rattle.syn_archive.specs.inner.Openings.{OneStands}
use Rattle.syn_archive.proofs.MeaningLemmas.{not_other}
use Rattle.syn_archive.proofs.OpeningLemmas.{not_old}

pub is_lawful : StandsForSound → ArchiveImageStands → RecordGoesOn → (pair : ℕ) →
    IsLawful (kept_as pair) (λ agreed. archive_spelling agreed.pair (agreed_archive agreed))
is_lawful sound alone goes_on pair = record {
  image = λ agreed kept is. ap₂ archive_spelling is.pair_is is.archive_is;
  alone = λ image payloads kept stands.
      alone pair kept (sound current_version pair image payloads kept stands);
  more = λ image payloads kept added stands can.
      goes_on pair image payloads kept added stands can;
}

stands_of : (pair : ℕ) (image : Bytes) (payloads : List Bytes) (agreed : Agreed) (kept : Archive) →
    ArchiveStandsFor pair image payloads kept → RemembersAs pair agreed kept →
    ArchiveStandsFor agreed.pair image payloads (agreed_archive agreed)
stands_of pair image payloads agreed kept stands is =
    subst (λ n. ArchiveStandsFor n image payloads (agreed_archive agreed)) (sym is.pair_is)
    (subst (λ a. ArchiveStandsFor pair image payloads a) (sym is.archive_is) stands)

refused_for_memory : (e : ArchiveError) (agreed : Agreed) (image : Bytes) (payloads : List Bytes)
    (kept : Archive) → ArchiveStandsFor agreed.pair image payloads kept →
    IsUnreadAgain e agreed image payloads → refusal_of e ≡ why.Memory
refused_for_memory error.Memory agreed image payloads kept stands unread = refl
refused_for_memory error.Damaged agreed image payloads kept stands unread =
    absurd (unread kept stands)
refused_for_memory _ agreed image payloads kept stands unread = absurd unread

by_journal : (by : JournalError) → refusal_of (of_journal by) ≡ refusal_of_journal by
by_journal journal.Full = refl
by_journal journal.JournalFull = refl
by_journal journal.Device = refl
by_journal journal.Halted = refl
by_journal journal.Memory = refl
by_journal journal.NoImage = refl
by_journal journal.Damaged = refl

-- what is wanted and stands there is refused for lack of memory alone
refused_at_first : OneStands → (e : ArchiveError) (pair : ℕ) (kept : Archive) (image : Bytes)
    (payloads : List Bytes) → pair < 2 ^ 64 → ArchiveStandsFor pair image payloads kept →
    IsUnread e (Some pair) image payloads → refusal_of e ≡ why.Memory
refused_at_first one error.Memory pair kept image payloads fits stands unread = refl
refused_at_first one error.Damaged pair kept image payloads fits stands unread =
    absurd (unread.1 pair kept fits stands)
refused_at_first one error.WrongPair pair kept image payloads fits stands unread =
    absurd (not_other one (Some pair) (record { image = image; payloads = payloads }) pair kept fits
    stands (inr refl) unread)
refused_at_first one error.OldVersion pair kept image payloads fits stands unread =
    absurd (not_old pair image payloads kept stands unread)
refused_at_first one _ pair kept image payloads fits stands unread = absurd unread

pub is_read_as : OneStands → (pair : ℕ) → IsReadAs pair (kept_as pair) (λ agreed. agreed.pair) Gives
    (λ old new. new.pair ≡ old.pair) IsUnread IsUnreadAgain of_journal refusal_of
is_read_as one pair = record {
  of_pair = λ agreed kept is. is.pair_is;
  same_pair = λ old new same. same;
  some = λ image payloads kept stands. (
    record { pair = pair; last_session = kept.last_session; marks = kept.marks },
    record { pair_is = refl; archive_is = refl },
  );
  given = λ image payloads kept agreed stands is. stands_of pair image payloads agreed kept stands
      is;
  read = λ e kept image payloads fits stands unread. refused_at_first one e pair kept image payloads
      fits stands unread;
  read_again = λ e agreed before kept image payloads is goes stands unread.
      refused_for_memory e agreed image payloads kept
      (subst (λ n. ArchiveStandsFor n image payloads kept) (sym is.pair_is) stands) unread;
  by_journal = by_journal;
}
