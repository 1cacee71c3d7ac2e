-- Images and records stand for archives.
use Rattle.std.proofs.Common.{◌≡◌, ◌+◌, true, false, not, ◌==◌, nat_le, if◌then◌else◌}
use Rattle.std.proofs.Common.{List, [], ◌∷◌, ◌++◌, Some, None, length, refl, sym, ap, ◌∙◌, subst}
use Rattle.std.proofs.Common.{arith}
use Rattle.std.specs.FinMap.{len-entries}
use Rattle.std.proofs.lemmas.Bool.{leb-false, eqb-true, not-false}
use Rattle.std.proofs.lemmas.List.{map-append}
use Rattle.std.proofs.lemmas.List.Sums.{fold-append}
use Rattle.syn_model.specs.Path.{Path, is_root, strip_prefix, IsPath}
use Rattle.syn_model.specs.Tree.{Tree, IsPart, Directory, File, empty_directory, is_directory}
use Rattle.syn_model.specs.Tree.{replace}
use Rattle.std.specs.FinMap.{get}
use Rattle.std.specs.Option.{option_map_or}
use Rattle.syn_model.specs.Mark.{IsMarks}
use Rattle.syn_model.specs.Limits.{greatest, fits_archive}
use Rattle.syn_model.proofs.TreeLemmas.{get-replace}
use Rattle.syn_model.specs.Refusal.{Cause, first_cause, Root, Full, BadMessage}
use Rattle.syn_model.specs.Standing.{place_causes}
use Rattle.syn_model.specs.History.{tree_of}
use Rattle.syn_model.specs.Archive.{Archive, Kept, Session, Recorded, RecordedDir, CanKeep}
use Rattle.syn_model.specs.Archive.{after_kept, archive_of, new_archive, record_causes}
use Rattle.syn_model.specs.MarkSpelling.{kept_spelling}
use Rattle.syn_model.specs.ArchiveImage.{IsArchive, AllKept, AllKeptIn, KeepingStaysSound}
use Rattle.syn_model.specs.ArchiveImage.{StandsForSound}
use Rattle.syn_model.specs.ArchiveImage.{ArchiveImageStands, NewArchiveStands, RecordGoesOn}
use Rattle.syn_model.proofs.HistoryLemmas.{first_cause-none, none-append, place-stands}
use Rattle.syn_model.proofs.HistoryLemmas.{replace-is_tree, at_root-is_part}
use Rattle.syn_model.specs.Version.{Version}
use Rattle.syn_model.proofs.VersionLemmas.{archive_now, can_now}
use Rattle.syn_model.proofs.HistoryLemmas.{no_file, only, empty-is_tree}
use Rattle.syn_model.proofs.RowLemmas.{entries-at_root}

-- marks that are put into marks leave marks
pub replaced_marks : (t : Tree) (p : Path) (u : Tree) → IsPart (replace t p u) → IsMarks t →
    IsMarks u →
    IsMarks (replace t p u)
replaced_marks t p u part ht hu = record {
  part = part;
  digests =
      λ path contents found. elim (strip_prefix p path)
      as (λ rest. option_map_or (λ rest. get u rest) rest (get t path) ≡ Some (File contents) →
      length contents.bytes ≡ 32) [
        | None ↦ λ e. ht.digests path contents e
        | Some rest ↦ λ e. hu.digests rest contents e
      ] (sym (get-replace t p u path) ∙ found);
}

directory_is_marks : IsMarks empty_directory
directory_is_marks = record {
  part = at_root-is_part Directory (λ b x. absurd (no_file b x));
  digests = λ path contents found. absurd (no_file contents (only Directory path contents found));
}

-- what no cause refuses is put where it may stand, and fits
recorded : (archive : Archive) (path : Path) (new : Tree) → IsArchive archive → IsPath path →
    IsMarks new → first_cause (record_causes archive.marks path new) ≡ None →
    IsArchive (record archive { marks = replace archive.marks path new })
recorded archive path new sound lawful marks e =
    let full : List Cause = (not (fits_archive (replace archive.marks path new)), Full) ∷ [] in
    let place = place-stands archive.marks path full e in
    let room = first_cause-none (not (fits_archive (replace archive.marks path new)), Full) []
    (none-append (place_causes archive.marks path) full e).1 in
    let tree =
    replace-is_tree archive.marks path new sound.tree marks.part place.0 place.1 lawful.names in
    record {
      tree = tree;
      marks = replaced_marks archive.marks path new tree.part sound.marks marks;
      fits = not-false (fits_archive (replace archive.marks path new)) room.0;
      session = sound.session;
    }

pub keeping_stays_sound : KeepingStaysSound
keeping_stays_sound archive (Session session) sound can =
    let parts = first_cause-none (nat_le greatest archive.last_session, Full)
    ((not (session == archive.last_session + 1), BadMessage) ∷ []) can.not_refused in
    let next = first_cause-none (not (session == archive.last_session + 1), BadMessage)
    [] parts.1 in
    let below = leb-false greatest archive.last_session parts.0 in
    let is = eqb-true session (archive.last_session + 1)
    (not-false (session == archive.last_session + 1) next.0) in
    record {
      tree = sound.tree;
      marks = sound.marks;
      fits = sound.fits;
      session = omega (arith, below, is);
    }
keeping_stays_sound archive (Recorded path marks) sound can =
    recorded archive path marks sound can.lawful.0 can.lawful.1 can.not_refused
keeping_stays_sound archive (RecordedDir path) sound can =
    let made = record archive { marks = replace archive.marks path empty_directory } in
    let causes = record_causes archive.marks path empty_directory in
    let rest = first_cause-none (is_root path, Root)
    (if is_directory archive.marks path then [] else causes) can.not_refused in
    elim (is_directory archive.marks path) as (λ b. first_cause (if b then [] else causes) ≡ None →
    IsArchive (if b then archive else made)) [
      | true ↦ λ none. sound
      | false ↦ λ none. recorded archive path empty_directory sound can.lawful directory_is_marks
          none
    ] rest.1

all_sound : (version : Version) (archive : Archive) (kept : List Kept) → IsArchive archive →
    AllKeptIn version archive kept → IsArchive (archive_of archive kept)
all_sound version archive [] sound all = sound
all_sound version archive (one ∷ more) sound all =
    all_sound version (after_kept archive one) more
    (keeping_stays_sound archive one sound (can_now version archive one all.0)) all.1

pub stands_for_sound : StandsForSound
stands_for_sound version pair image payloads archive stands =
    subst IsArchive (sym stands.last)
    (all_sound version stands.first stands.kept (archive_now version stands.first stands.sound)
    stands.allowed)

pub archive_image_stands : ArchiveImageStands
archive_image_stands pair archive sound = record {
  first = archive;
  kept = [];
  sound = sound;
  image_is = refl;
  payloads_are = refl;
  allowed = tt;
  last = refl;
}

new_fits : fits_archive empty_directory ≡ true
new_fits = rw (len-entries, entries-at_root)

pub new_archive_stands : NewArchiveStands
unfolding tree_of
new_archive_stands pair =
    archive_image_stands pair new_archive (record
    { tree = empty-is_tree; marks = directory_is_marks; fits = new_fits; session = omega arith })

kept-append : (archive : Archive) (kept : List Kept) (one : Kept) → AllKept archive kept →
    CanKeep (archive_of archive kept) one → AllKept archive (kept ++ one ∷ [])
kept-append archive [] one all can = (can, tt)
kept-append archive (first ∷ kept) one all can =
    (all.0, kept-append (after_kept archive first) kept one all.1 can)

pub record_goes_on : RecordGoesOn
record_goes_on pair image payloads archive kept stands can = record {
  first = stands.first;
  kept = stands.kept ++ kept ∷ [];
  sound = stands.sound;
  image_is = stands.image_is;
  payloads_are =
      ap (λ xs. xs ++ kept_spelling kept ∷ []) stands.payloads_are
      ∙ sym (map-append kept_spelling stands.kept (kept ∷ []));
  allowed =
      kept-append stands.first stands.kept kept stands.allowed
      (subst (λ a. CanKeep a kept) stands.last can);
  last =
      ap (λ a. after_kept a kept) stands.last
      ∙ sym (fold-append after_kept stands.first stands.kept (kept ∷ []));
}
