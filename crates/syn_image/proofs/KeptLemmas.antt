-- What is read of what an archive keeps, and of the image of an archive.
use Rattle.std.proofs.Common.{◌≡◌, ◌≢◌, ◌<◌, ◌≤◌, ◌^◌, ℕ, ◌∷◌, ◌++◌, drop, sym, ap, ap₂, ◌∙◌}
use Rattle.std.proofs.Common.{Some, is_some, append_assoc, arith}
use Rattle.std.specs.FinMap.{get}
use Rattle.syn_model.specs.Path.{Bytes, Path, IsPath, path_spelling, root}
use Rattle.syn_model.specs.Tree.{Tree, Directory}
use Rattle.syn_model.specs.Archive.{Archive, Kept, Session, Recorded, RecordedDir}
use Rattle.syn_model.specs.Limits.{greatest}
use Rattle.syn_model.specs.MarkSpelling.{archive_front, kept_spelling_in, mark_spelling_in}
use Rattle.syn_model.specs.Version.{Version}
use Rattle.syn_wire.specs.Events.{Both, both_spelling, number64_spelling}
use Rattle.syn_wire.specs.Marks.{IsMarkTreeIn, IsOptionalMarkTreeIn, NoMarksBeginOthers}
use Rattle.syn_wire.specs.Reads.{BeginsWith, NothingStands}
use Rattle.syn_wire.proofs.NameLemmas.{rest_of, paths_tell}
use Rattle.syn_wire.proofs.NumberLemmas.{u64_tells}
use Rattle.syn_wire.proofs.Sequences.{both_tell}
use Rattle.syn_image.specs.Archives.{IsSpelledArchive, IsSpelledKept, spelled_archive}
use Rattle.syn_image.specs.Archives.{NoKeptBeginsAnother, NoArchiveBeginsAnother}
use Rattle.syn_image.specs.inner.Pasts.{Two, AreTwo, two_spelling}
use Rattle.syn_image.proofs.ImageLemmas.{two_tell}
use Rattle.syn_model.proofs.SpellingLemmas.{heads_differ}

-- ---- what is kept

abbrev pub IsRecorded : Version → Path × Tree → Type 0
IsRecorded version = Both IsPath (IsOptionalMarkTreeIn version)

abbrev pub recorded_spelling : Version → Path × Tree → Bytes
recorded_spelling version = both_spelling path_spelling (mark_spelling_in version)

pub kept_tells : NoMarksBeginOthers → NoKeptBeginsAnother
kept_tells marks version (Session v) (Session w) r s hv hw e =
    let same = u64_tells v w r s hv hw (ap rest_of e) in
    (ap (λ x. Session x) same.0, same.1)
kept_tells marks version (Session v) (Recorded q u) r s hv hw e =
    heads_differ 1 2 _ _ (λ same. omega (arith, same)) e
kept_tells marks version (Session v) (RecordedDir q) r s hv hw e =
    heads_differ 1 3 _ _ (λ same. omega (arith, same)) e
kept_tells marks version (Recorded p t) (Session w) r s hv hw e =
    heads_differ 2 1 _ _ (λ same. omega (arith, same)) e
kept_tells marks version (Recorded p t) (Recorded q u) r s hv hw e =
    let same = both_tell IsPath (IsOptionalMarkTreeIn version) path_spelling
    (mark_spelling_in version)
    paths_tell (marks version) (p, t) (q, u) r s hv hw (ap rest_of e) in
    (ap (λ x. Recorded x.0 x.1) same.0, same.1)
kept_tells marks version (Recorded p t) (RecordedDir q) r s hv hw e =
    heads_differ 2 3 _ _ (λ same. omega (arith, same)) e
kept_tells marks version (RecordedDir p) (Session w) r s hv hw e =
    heads_differ 3 1 _ _ (λ same. omega (arith, same)) e
kept_tells marks version (RecordedDir p) (Recorded q u) r s hv hw e =
    heads_differ 3 2 _ _ (λ same. omega (arith, same)) e
kept_tells marks version (RecordedDir p) (RecordedDir q) r s hv hw e =
    let same = paths_tell p q r s hv hw (ap rest_of e) in
    (ap (λ x. RecordedDir x) same.0, same.1)

-- after the kind of a record there is what is recorded
pub no_record : (version : Version) (fields : Bytes) →
    NothingStands (IsRecorded version) (recorded_spelling version) fields →
    NothingStands (IsSpelledKept version) (kept_spelling_in version) (2 ∷ fields)
no_record version fields none (Session v) rest begins =
    heads_differ 2 1 _ _ (λ same. omega (arith, same)) begins.spelled
no_record version fields none (Recorded p t) rest begins =
    none (p, t) rest (record { lawful = begins.lawful; spelled = ap rest_of begins.spelled })
no_record version fields none (RecordedDir p) rest begins =
    heads_differ 2 3 _ _ (λ same. omega (arith, same)) begins.spelled

-- ---- the image of an archive

-- "SYNA" and the version
archive_row : (version : Version) (pair : ℕ) (archive : Archive) (r : Bytes) →
    spelled_archive version (pair, archive) ++ r ≡ archive_front version
    ++ (two_spelling (pair, archive.last_session)
    ++ (mark_spelling_in version archive.marks ++ r))
archive_row version pair archive r =
    in_row (archive_front version) (number64_spelling pair)
    (number64_spelling archive.last_session)
    (mark_spelling_in version archive.marks) r
  where
    in_row : (f a b m r : Bytes) → (f ++ (a ++ (b ++ m))) ++ r ≡ f ++ ((a ++ b) ++ (m ++ r))
    in_row f a b m r = simp append_assoc

small : (n : ℕ) → n ≤ greatest → n < 2 ^ 64
small n h = omega (arith, h)

pub archives_tell : NoMarksBeginOthers → NoArchiveBeginsAnother
archives_tell marks version v w r s hv hw e =
    let two = two_tell (v.0, v.1.last_session) (w.0, w.1.last_session)
    (mark_spelling_in version v.1.marks ++ r) (mark_spelling_in version w.1.marks ++ s)
    (hv.0, small v.1.last_session hv.1.session) (hw.0, small w.1.last_session hw.1.session)
    (ap (drop 5)
    (sym (archive_row version v.0 v.1 r) ∙ (e ∙ archive_row version w.0 w.1 s))) in
    let tree = marks version v.1.marks w.1.marks r s
    (record { marks = hv.1.marks; fits = hv.1.fits })
    (record { marks = hw.1.marks; fits = hw.1.fits }) two.1 in (
      ap₂ {A = Two} {B = Tree} {C = ℕ × Archive}
          (λ x t. (x.0, record { marks = t; last_session = x.1 })) two.0 tree.0,
      tree.1,
    )

pub no_front : (version : Version) (bytes : Bytes) →
    ((rest : Bytes) → bytes ≢ archive_front version ++ rest) →
    NothingStands (IsSpelledArchive version) (spelled_archive version) bytes
no_front version bytes none value rest begins =
    none _ (begins.spelled ∙ archive_row version value.0 value.1 rest)

-- after the front stand two numbers and marks whose root is a directory
module _ (version : Version) (bytes fields : Bytes)
    (later : bytes ≡ archive_front version ++ fields)
    (value : ℕ × Archive) (rest : Bytes)
    (begins : BeginsWith (IsSpelledArchive version) (spelled_archive version) bytes value rest)
  where
    numbers_there : BeginsWith AreTwo two_spelling fields (value.0, value.1.last_session)
        (mark_spelling_in version value.1.marks ++ rest)
    numbers_there = record {
      lawful = (begins.lawful.0, small value.1.last_session begins.lawful.1.session);
      spelled = ap (drop 5)
          (sym later ∙ (begins.spelled ∙ archive_row version value.0 value.1 rest));
    }

    pub no_numbers : NothingStands AreTwo two_spelling fields → ⊥
    no_numbers none =
        none (value.0, value.1.last_session) (mark_spelling_in version value.1.marks ++ rest)
        numbers_there

    module _ (two : Two) (after : Bytes)
        (found : BeginsWith AreTwo two_spelling fields two after) where
      marks_there : BeginsWith (IsMarkTreeIn version) (mark_spelling_in version) after value.1.marks
          rest
      marks_there = record {
        lawful =
            record {
              optional = record { marks = begins.lawful.1.marks; fits = begins.lawful.1.fits };
              present = ap is_some begins.lawful.1.tree.rooted;
            };
        spelled =
            (two_tell two (value.0, value.1.last_session) after
            (mark_spelling_in version value.1.marks ++ rest)
            found.lawful numbers_there.lawful (sym found.spelled ∙ numbers_there.spelled)).1;
      }

      pub no_marks : NothingStands (IsMarkTreeIn version) (mark_spelling_in version) after → ⊥
      no_marks none = none value.1.marks rest marks_there

      -- marks of a file are no archive's
      pub marks_of_file : NoMarksBeginOthers → (t : Tree) (left : Bytes) →
          BeginsWith (IsMarkTreeIn version) (mark_spelling_in version) after t left →
          get t root ≢ Some Directory → ⊥
      marks_of_file tells t left read other =
          let same = tells version t value.1.marks left rest read.lawful.optional
          marks_there.lawful.optional (sym read.spelled ∙ marks_there.spelled) in
          other (ap (λ u. get u root) same.0 ∙ begins.lawful.1.tree.rooted)
