-- What is formatted is short, so that it is refused for no length.
use Rattle.std.proofs.Common.{◌≡◌, ◌<◌, ◌^◌, ℕ, [], length, flat_map, refl, ap, ◌∙◌, arith}
use Rattle.syn_journal.specs.Layout.{longest_image}
use Rattle.syn_journal.specs.Refusals.{IsFormatRefusal}
use Rattle.syn_journal.specs.declared.error.JournalError.{JournalError}
use Rattle.syn_journal.specs.declared.error.JournalError.TheVariants as journal
use Rattle.syn_model.specs.Path.{Bytes}
use Rattle.syn_model.specs.Version.{current_version}
use Rattle.syn_model.specs.Tree.{Directory, empty_directory}
use Rattle.syn_model.specs.Archive.{new_archive}
use Rattle.syn_model.specs.ArchiveImage.{IsArchive, NewArchiveStands, StandsForSound}
use Rattle.syn_model.specs.MarkSpelling.{archive_spelling, mark_spelling}
use Rattle.syn_mark.proofs.MarkLemmas.{one_marks, one_present}
use Rattle.syn_model.specs.Contents.{digest_spelling}
use Rattle.syn_wire.specs.Trees.{pair_by}
use Rattle.syn_wire.proofs.MarkLemmas.{marks_walk}
use Rattle.syn_archive.specs.Archive.{archive_after}
use Rattle.syn_archive.specs.Refusals.{IsOfFormat, of_journal}
use Rattle.syn_model.proofs.RowLemmas.{entries-at_root}

empty_length : length (mark_spelling empty_directory) ≡ 3
empty_length =
    ap length
    (marks_walk current_version empty_directory (one_marks Directory tt).part.parents
    (one_present Directory) ∙ ap (flat_map (pair_by digest_spelling empty_directory))
    (entries-at_root Directory))

pub image_fits : (pair session : ℕ) (image : Bytes)
    → image ≡ archive_spelling pair (archive_after session) → longest_image < length image → ⊥
image_fits pair session image e long = absurd (omega (arith, ap length e, empty_length, long))

-- a new archive is one, and so is that which goes on after a session
pub after_is_archive : (pair session : ℕ) → StandsForSound → NewArchiveStands → session < 2 ^ 64
    → IsArchive (archive_after session)
after_is_archive pair session sound stands fits =
    let new = sound current_version pair (archive_spelling pair new_archive) [] new_archive
    (stands pair) in
    record { tree = new.tree; marks = new.marks; fits = new.fits; session = omega (arith, fits) }

pub format_refusal : (error : JournalError) → IsFormatRefusal error → (error ≡ journal.Full → ⊥) →
    IsOfFormat (of_journal error)
format_refusal journal.Full h full = absurd (full refl)
format_refusal journal.JournalFull h full = absurd h
format_refusal journal.Device h full = tt
format_refusal journal.Halted h full = absurd h
format_refusal journal.Memory h full = tt
format_refusal journal.NoImage h full = absurd h
format_refusal journal.Damaged h full = absurd h
